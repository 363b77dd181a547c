-- Tests joined, a list by its next number, and two lists cut alike.
use Prim.Native.Nat.{ℕ}
use mathlib.Core.Path.{◌≡◌, refl, sym, ap, ◌∙◌}
use mathlib.Core.Bool.{true, false}
use mathlib.Core.List.{List, ◌++◌}
use native.Mathlib.Omega.{arith}
use lib.ListN.{length, take, drop, length-append}
use lib.Seq.{take_at, drop_at}

pub never : {X : Type 0} → false ≡ true → X
never h = let z : ◌≡◌ {A = ℕ} 0 1 = cc in absurd (omega arith)

-- two lists cut into a front and a back, the backs as long as each other: where the wholes are equal, fronts and backs are
pub append_apart : (xs ys vs ws : List ℕ) → length ys ≡ length ws → xs ++ ys ≡ vs ++ ws → (xs ≡ vs) × (ys ≡ ws)
append_apart xs ys vs ws l e =
    let n : length xs ≡ length vs = omega (arith, ap length e, length-append xs ys, length-append vs ws) in (
      sym (take_at xs ys (length vs) n) ∙ ap (take (length vs)) e ∙ take_at vs ws (length vs) refl,
      sym (drop_at xs ys (length vs) n) ∙ ap (drop (length vs)) e ∙ drop_at vs ws (length vs) refl,
    )
