-- Laws of `check`. The set `checks` has `search` find the check that holds by what is known of the numbers.
use Prim.Native.Nat.{ℕ, ◌≤◌, ◌<◌}
use mathlib.Core.Path.{◌≡◌, refl, sym, ap, ◌∙◌}
use mathlib.Core.Bool.{Bool, true, false, ◌||◌, ◌&&◌, false≢true, or_assoc}
use borrow.Author.Tests.{lt-ltb, le-ltb, le-leb, lt-leb, eq-eqb, ne_eqb}
use lib.Dec.{eqb, ltb, leb}
use Rattle.lists.specs.Checks.{check}

module _ {A : Type 0} {x : A} (a b : A) where
  pub check-true : (t : Bool) → t ≡ true → x ≡ a → x ≡ check t a b
  unfolding check
  check-true t e q = q ∙ sym (ap (λ (u : Bool). check u a b) e)

  pub check-false : (t : Bool) → t ≡ false → x ≡ b → x ≡ check t a b
  unfolding check
  check-false t e q = q ∙ sym (ap (λ (u : Bool). check u a b) e)

  pub check-lt : (m n : ℕ) → m < n → x ≡ a → x ≡ check (ltb m n) a b
  check-lt m n h q = check-true _ (lt-ltb m n h) q

  pub check_nlt : (m n : ℕ) → n ≤ m → x ≡ b → x ≡ check (ltb m n) a b
  check_nlt m n h q = check-false _ (le-ltb m n h) q

  pub check-le : (m n : ℕ) → m ≤ n → x ≡ a → x ≡ check (leb m n) a b
  check-le m n h q = check-true _ (le-leb m n h) q

  pub check_nle : (m n : ℕ) → n < m → x ≡ b → x ≡ check (leb m n) a b
  check_nle m n h q = check-false _ (lt-leb m n h) q

  pub check-eq : (m n : ℕ) → m ≡ n → x ≡ a → x ≡ check (eqb m n) a b
  check-eq m n h q = check-true _ (eq-eqb m n h) q

  pub check_ne : (m n : ℕ) → (m ≡ n → ⊥) → x ≡ b → x ≡ check (eqb m n) a b
  check_ne m n h q = check-false _ (ne_eqb m n h) q

  -- a test that a function answered
  pub check_yes : (t u : Bool) → u ≡ t → u ≡ true → x ≡ a → x ≡ check t a b
  check_yes t u e h q = check-true t (sym e ∙ h) q

  pub check_no : (t u : Bool) → u ≡ t → u ≡ false → x ≡ b → x ≡ check t a b
  check_no t u e h q = check-false t (sym e ∙ h) q

pub ruleset checks = (check-lt, check_nlt, check-le, check_nle, check-eq, check_ne)

-- what holds of each answer under its test holds of the answer
pub check_by : {A : Type 0} (P : A → Type 0) (t : Bool) (a b : A) → (t ≡ true → P a) → (t ≡ false → P b) → P (check t a b)
unfolding check
check_by P true a b p q = p refl
check_by P false a b p q = q refl

-- an answer that is not the check's own lies past it, and its test fails
pub check_past : {A : Type 0} {x : A} (t : Bool) (a b : A) → (a ≡ x → ⊥) → check t a b ≡ x → (t ≡ false) × (b ≡ x)
unfolding check
check_past true a b n q = absurd (n q)
check_past false a b n q = (refl, q)

-- two checks that hold alike, and whose rests are the same where they do not; a check that never holds
pub check_same : {A : Type 0} (t u : Bool) (a b c : A) → t ≡ u → (u ≡ false → b ≡ c) → check t a b ≡ check u a c
unfolding check
check_same t true a b c e h = rw e
check_same t false a b c e h = rw e (h refl)

pub check_skip : {A : Type 0} (t : Bool) (a b c : A) → t ≡ false → b ≡ c → check t a b ≡ c
unfolding check
check_skip t a b c e h = rw e h

-- a test that fails when joined to a true one fails itself
pub and_right : (a b : Bool) → a ≡ true → (a && b) ≡ false → b ≡ false
and_right true b p e = e
and_right false b p e = absurd (false≢true p)

-- A test that is made at each place, and holds where it holds at one: `f` is what was found so far, and `here` what holds from this place on.
pub any_turn : (f u t here rest whole : Bool) → u ≡ t → here ≡ (t || rest) → (f || here) ≡ whole → ((f || u) || rest) ≡ whole
any_turn f u t here rest whole e s q = or_assoc f u rest ∙ ap (λ (v : Bool). f || v) (ap (λ (v : Bool). v || rest) e ∙ sym s) ∙ q

pub any_done : (f rest whole : Bool) → rest ≡ false → (f || rest) ≡ whole → f ≡ whole
any_done true rest whole h q = q
any_done false rest whole h q = sym h ∙ q
