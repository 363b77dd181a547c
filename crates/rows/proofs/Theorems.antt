-- What follows of the definitions, for whoever uses the functions.
use Rattle.std.proofs.Common.{ℕ, ◌≡◌, [], ◌∷◌, length, refl}
use Rattle.rows.specs.Rows.{bytes_of}
use Rattle.rows.specs.declared.Record.{Record}

-- a record has 16 bytes
pub member_16 : (m a b c : ℕ) → length (bytes_of (Record.Member m (a ∷ b ∷ c ∷ []))) ≡ 16
member_16 m a b c = refl

pub stress_16 : (d s m w l g : ℕ) → length (bytes_of (Record.Stress d s m w l g)) ≡ 16
stress_16 d s m w l g = refl
