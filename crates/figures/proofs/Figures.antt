-- Laws of what stands at a member's number, and of a list in which that is replaced.
use Prim.Native.Nat.{ℕ, zero, suc, ◌+◌, ◌-◌, ◌≤◌, ◌<◌, zero-le}
use mathlib.Core.Path.{◌≡◌, refl, ap}
use mathlib.Core.Bool.{Bool, true, false, cond}
use mathlib.Core.List.{List, [], ◌∷◌}
use native.Mathlib.Numerals.{sub-one}
use native.Mathlib.Omega.{arith}
use borrow.Author.Tests.{eqb-true, eqb-false}
use lib.Dec.{eqb}
use lib.ListN.{length, get_or, length-map, get_or-map}
use lib.Seq.{get_or-set_same, get_or-set_other}
use Rattle.std.specs.List.{sum}
use Rattle.std.proofs.lemmas.List.Recursion.{is_sum_by}
use Rattle.lists.specs.Limits.{member_limit}
use Rattle.lists.specs.Sums.{total, plus, minus, keep}
use Rattle.lists.proofs.Sums.{get_or-plus, get_or-minus, get_or_zeros}
use Rattle.figures.specs.declared.Status.{Status}
use Rattle.figures.specs.declared.Status.TheVariants.{Absent}
use Rattle.figures.specs.Figures.{of_member, figure, replace, none, is_live, of_live, live_in}

-- by whether a number is the member's
pub by-member : (P : Bool → Type 0) (m n : ℕ) → (m ≡ n → P true) → ((m ≡ n → ⊥) → P false) → P (eqb m n)
by-member P m n p q = go (eqb m n) refl
  where
    go : (b : Bool) → eqb m n ≡ b → P b
    go true e = p (eqb-true m n e)
    go false e = q (eqb-false m n e)

module _ {A : Type 0} (nobody : A) where
  -- where somebody stands, the number has a place in the list
  pub place_of : (xs : List A) (m : ℕ) → (of_member nobody xs m ≡ nobody → ⊥) → (0 < m) × (m ≤ length xs)
  place_of xs zero h = absurd (h refl)
  place_of xs (suc k) h = (omega arith, within xs k h)
    where
      within : (ys : List A) (j : ℕ) → (get_or ys j nobody ≡ nobody → ⊥) → suc j ≤ length ys
      within [] j p = absurd (p refl)
      within (y ∷ ys) zero p = omega arith
      within (y ∷ ys) (suc j) p = omega (arith, within ys j p)

  -- what was put in, and what stands at the other numbers
  pub same_member : (xs : List A) (m n : ℕ) (x : A) → 0 < m → m ≤ length xs → m ≡ n → of_member nobody (replace xs m x) n ≡ x
  same_member xs zero n x h k e = absurd (omega arith)
  same_member xs (suc i) n x h k e = rw (← e, sub-one) (get_or-set_same xs i x nobody (omega arith))

  pub other_member : (xs : List A) (m n : ℕ) (x : A) → 0 < m → (m ≡ n → ⊥) → of_member nobody (replace xs m x) n ≡ of_member nobody xs n
  other_member xs m zero x h e = refl
  other_member xs m (suc k) x h e = get_or-set_other xs (m - 1) k x nobody (λ p. e (omega arith))

  -- what holds of what stood there and of what is put in, and of anything that stays, holds at each number before and after
  pub replaced_at : (P : Bool → A → A → Type 0) (xs : List A) (m n : ℕ) (x : A) → 0 < m → m ≤ length xs → P true (of_member nobody xs m) x → ((y : A) → P false y y)
      → P (eqb m n) (of_member nobody xs n) (of_member nobody (replace xs m x) n)
  replaced_at P xs m n x h k p q =
      by-member (λ b. P b (of_member nobody xs n) (of_member nobody (replace xs m x) n)) m n
      (λ e. rw (same_member xs m n x h k e, ← ap (of_member nobody xs) e) p)
      (λ d. rw (other_member xs m n x h d) (q (of_member nobody xs n)))

-- figures ------------------------------------------------------------------------

pub figure-le_at : (xs : List ℕ) (m : ℕ) → figure xs m ≤ get_or xs (m - 1) 0
figure-le_at xs zero = zero-le
figure-le_at xs (suc k) = rw sub-one (omega arith)

-- sums and differences place by place
pub figure-plus : (xs ys : List ℕ) (m : ℕ) → figure (plus xs ys) m ≡ figure xs m + figure ys m
figure-plus xs ys zero = refl
figure-plus xs ys (suc k) = get_or-plus xs ys k

pub figure-minus : (xs ys : List ℕ) (m : ℕ) → figure (minus xs ys) m ≡ figure xs m - figure ys m
figure-minus xs ys zero = refl
figure-minus xs ys (suc k) = get_or-minus xs ys k

pub figure-none : (m : ℕ) → figure none m ≡ 0
figure-none zero = refl
figure-none (suc k) = get_or_zeros member_limit k

-- what holds at each place holds of each figure
pub figure-le : (xs ys : List ℕ) → ((k : ℕ) → get_or xs k 0 ≤ get_or ys k 0) → (m : ℕ) → figure xs m ≤ figure ys m
figure-le xs ys h zero = zero-le
figure-le xs ys h (suc k) = h k

pub figure_bound : (xs : List ℕ) (b : ℕ) → ((k : ℕ) → get_or xs k 0 ≤ b) → (m : ℕ) → figure xs m ≤ b
figure_bound xs b h zero = zero-le
figure_bound xs b h (suc k) = h k

-- the numbers of a list, added
pub total_sum : (xs : List ℕ) → total xs ≡ sum xs
total_sum xs = is_sum_by total (λ x. x) refl (λ _ _. refl) xs

-- statuses -------------------------------------------------------------------------

-- whether the member at a place is live
pub live_at : (status : List Status) (i : ℕ) → get_or (live_in status) i false ≡ is_live (get_or status i Absent)
live_at status i = get_or-map is_live status i Absent

pub length-live : (status : List Status) → length (live_in status) ≡ length status
length-live status = length-map status is_live

-- what the live members have
module _ {A : Type 0} (nothing : A) where
  pub length-of_live : (status : List Status) (xs : List A) → length status ≡ length xs → length (of_live nothing status xs) ≡ length xs
  length-of_live [] xs e = e
  length-of_live (s ∷ status) [] e = refl
  length-of_live (s ∷ status) (x ∷ xs) e = ap suc (length-of_live status xs (omega arith))

  pub get_or-of_live : (status : List Status) (xs : List A) (i : ℕ) (s : Status) (x : A) → i < length status → i < length xs
      → get_or (of_live nothing status xs) i nothing ≡ cond (is_live (get_or status i s)) (get_or xs i x) nothing
  get_or-of_live [] xs i d e h k = absurd (omega arith)
  get_or-of_live (s ∷ status) [] i d e h k = absurd (omega arith)
  get_or-of_live (s ∷ status) (x ∷ xs) zero d e h k = refl
  get_or-of_live (s ∷ status) (x ∷ xs) (suc i) d e h k = get_or-of_live status xs i d e (omega arith) (omega arith)

-- figures that are kept at the places of live members
pub of_live-keep : (status : List Status) (xs : List ℕ) → of_live 0 status xs ≡ keep (live_in status) xs
of_live-keep [] xs = refl
of_live-keep (s ∷ status) [] = refl
of_live-keep (s ∷ status) (x ∷ xs) = ap (λ (ys : List ℕ). cond (is_live s) x 0 ∷ ys) (of_live-keep status xs)
