-- Laws of tests on numbers, and of tests joined.
use Prim.Native.Nat.{ℕ, ◌+◌, ◌-◌, ◌≤◌, ◌<◌}
use mathlib.Core.Path.{◌≡◌, refl, sym, ◌∙◌}
use mathlib.Core.Bool.{Bool, true, false, ◌||◌}
use mathlib.Core.Logic.{⊎_elim}
use native.Mathlib.Nat.{eq-zero-or-pos}
use native.Mathlib.Omega.{arith}
use borrow.Author.Tests.{lt-ltb, le-ltb, ltb-true, ltb-false}
use lib.Dec.{ltb}

-- two tests of an order that hold together are one Bool
module _ (a b c d : ℕ) (f : a < b → c < d) (g : b ≤ a → d ≤ c) where
  by_value : (t : Bool) → ltb a b ≡ t → ltb a b ≡ ltb c d
  by_value true e = e ∙ sym (lt-ltb c d (f (ltb-true a b e)))
  by_value false e = e ∙ sym (le-ltb c d (g (ltb-false a b e)))

  pub same_test : ltb a b ≡ ltb c d
  same_test = by_value (ltb a b) refl

-- a sum is above 0 where one of the two is
pub positive-sum : (a b : ℕ) → ltb 0 (a + b) ≡ (ltb 0 a || ltb 0 b)
positive-sum a b =
    ⊎_elim
    (λ z.
    let e : a + b ≡ b = omega arith in
    rw (e, le-ltb 0 a (omega arith)))
    (λ p. rw (lt-ltb 0 (a + b) (omega arith), lt-ltb 0 a (omega arith)))
    (eq-zero-or-pos a)

-- an amount fits the room below a bound where the sum is within the bound, the two being read as `s` and `b`
pub room_test : (s b stands bound amount : ℕ) → s ≡ stands → b ≡ bound → stands ≤ bound → ltb (b - s) amount ≡ ltb bound (stands + amount)
room_test s b stands bound amount p q h = same_test (b - s) amount bound (stands + amount) (λ l. omega arith) (λ l. omega arith)
