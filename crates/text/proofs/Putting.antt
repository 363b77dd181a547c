-- Texts put one behind the other.
use Rattle.std.proofs.Common.{◌≡◌, List, ℕ, ◌++◌, ap, ◌∙◌, append_assoc}

-- one more text behind those so far
pub put_more : {out next : List ℕ} (out₀ so_far more : List ℕ) → out ≡ out₀ ++ so_far → next ≡ out ++ more → next ≡ out₀ ++ (so_far ++ more)
put_more out₀ so_far more e f = f ∙ ap (λ (s : List ℕ). s ++ more) e ∙ append_assoc out₀ so_far more
