-- What an answer tells of the refusal that comes before it.
use Rattle.std.proofs.Common.{◌≡◌, ℕ, Option, Some, None, Ok, Err, refl, arith, ◌⊎◌, inl, inr}
use Rattle.refusal.specs.Refusal.{answered, located, at_record}
use Rattle.refusal.specs.declared.Fault.{Fault}
use Rattle.refusal.specs.declared.Refusal.{Refusal}

-- an answer is the refusal that comes before it, or itself: said so that `grind` finds it
pub answered_cases : {A E : Type 0} (o : Option E) (answer : A)
    → (answered o answer ≡ answered o answer) × (((refusal : E) × (o ≡ Some refusal) × (answered o answer ≡ Err refusal)) ⊎ ((o ≡ None) × (answered o answer ≡ Ok answer)))
answered_cases (Some refusal) answer = (refl, inl (refusal, refl, refl))
answered_cases None answer = (refl, inr (refl, refl))

-- of a record that was looked at: where it is refused, so are the records from it on; where it is not, it is in order
module _ {A : Type 0} (position : ℕ) (fault : Option Fault) (answer : A) where
  pub located_err : {refusal : Refusal} (rest : Option Refusal) → located position (answered fault answer) ≡ Err refusal → at_record position fault rest ≡ Some refusal
  located_err {refusal} rest q = go fault q
    where
      go : (o : Option Fault) → located position (answered o answer) ≡ Err refusal → at_record position o rest ≡ Some refusal
      go (Some f) q = grind arith
      go None q = absurd (grind arith)

  pub located_ok : {given : A} → located position (answered fault answer) ≡ Ok given → (fault ≡ None) × (answer ≡ given)
  located_ok {given} q = go fault q
    where
      go : (o : Option Fault) → located position (answered o answer) ≡ Ok given → (o ≡ None) × (answer ≡ given)
      go (Some f) q = absurd (grind arith)
      go None q = (refl, grind arith)

-- records of which none is refused: the first is in order, and so are those after it
pub none_at-record : (position : ℕ) (fault : Option Fault) (rest : Option Refusal) → at_record position fault rest ≡ None → (fault ≡ None) × (rest ≡ None)
none_at-record position (Some f) rest q = absurd (grind arith)
none_at-record position None rest q = (refl, q)
