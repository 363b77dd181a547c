-- Laws of the highest of a list and of the second highest.
use Prim.Native.Nat.{ℕ, zero, suc, ◌≤◌, ◌<◌, min, max, zero-le}
use mathlib.Core.Path.{◌≡◌, refl, ap, ap₂, sym, ◌∙◌}
use mathlib.Core.Bool.{Bool, true, false, cond}
use mathlib.Core.List.{List, [], ◌∷◌, ◌++◌, map}
use native.Mathlib.Nat.{le_antisymm, max-le}
use native.Mathlib.Omega.{arith}
use borrow.Author.Tests.{eqb-true, eqb-false}
use lib.Dec.{eqb}
use lib.ListN.{length, get_or, set}
use Rattle.std.specs.Prelude.{filter}
use Rattle.lists.proofs.Checks.{check_by}
use Rattle.lists.specs.Highest.{highest, without, second}

-- the highest of a list from which a number is taken is no higher
pub without-le : (x : ℕ) (xs : List ℕ) → highest (without x xs) ≤ highest xs
unfolding highest without
without-le x [] = zero-le
without-le x (y ∷ ys) =
    check_by (λ (zs : List ℕ). highest zs ≤ max y (highest ys)) (eqb y x) ys (y ∷ without x ys)
    (λ e. omega arith)
    (λ e. omega (arith, without-le x ys))

pub second-le : (xs : List ℕ) → second xs ≤ highest xs
second-le xs = without-le (highest xs) xs

pub get_or-le_highest : (xs : List ℕ) (k : ℕ) → get_or xs k 0 ≤ highest xs
unfolding highest
get_or-le_highest [] k = zero-le
get_or-le_highest (x ∷ xs) zero = omega arith
get_or-le_highest (x ∷ xs) (suc k) = omega (arith, get_or-le_highest xs k)

-- one more number: above the highest, it makes that the second, and else it may be the second itself
pub second-cons : (x : ℕ) (xs : List ℕ) → second (x ∷ xs) ≡ max (min x (highest xs)) (second xs)
unfolding highest without
second-cons x xs = with_highest (max x (highest xs)) refl
  where
    with_highest : (m : ℕ) → m ≡ max x (highest xs) → highest (without m (x ∷ xs)) ≡ max (min x (highest xs)) (second xs)
    with_highest m e =
        check_by (λ (zs : List ℕ). highest zs ≡ max (min x (highest xs)) (second xs)) (eqb x m) xs (x ∷ without m xs)
        (λ t. omega (arith, e, eqb-true x m t, second-le xs))
        (λ t. let m_is : m ≡ highest xs = omega (arith, e, eqb-false x m t) in omega (arith, e, eqb-false x m t, ap (λ k. highest (without k xs)) m_is))

-- two lists behind one another
pub highest-append : (xs ys : List ℕ) → highest (xs ++ ys) ≡ max (highest xs) (highest ys)
unfolding highest
highest-append [] ys = omega arith
highest-append (x ∷ xs) ys = omega (arith, highest-append xs ys)

-- the highest h and k of two lists and their second highest s and t: a number joins the first of them, or both together
one_more : (x h k s t : ℕ) → max (min x (max h k)) (max (min h k) (max s t)) ≡ max (min (max x h) k) (max (max (min x h) s) t)
one_more x h k s t =
    le_antisymm
    (max-le (omega arith) (max-le (omega arith) (max-le (omega arith) (omega arith))))
    (max-le (omega arith) (max-le (max-le (omega arith) (omega arith)) (omega arith)))

pub second-append : (xs ys : List ℕ) → second (xs ++ ys) ≡ max (min (highest xs) (highest ys)) (max (second xs) (second ys))
unfolding highest without
second-append [] ys = omega arith
second-append (x ∷ xs) ys =
    second-cons x (xs ++ ys)
    ∙ ap₂ (λ m n. max (min x m) n) (highest-append xs ys) (second-append xs ys)
    ∙ one_more x (highest xs) (highest ys) (second xs) (second ys)
    ∙ ap (λ n. max (min (max x (highest xs)) (highest ys)) (max n (second ys))) (sym (second-cons x xs))

-- a number put at a place, beside the others
pub highest-set : (xs : List ℕ) (k v : ℕ) → k < length xs → highest (set xs k v) ≡ max v (highest (set xs k 0))
unfolding highest
highest-set [] k v h = absurd (omega arith)
highest-set (x ∷ xs) zero v h = omega arith
highest-set (x ∷ xs) (suc k) v h = omega (arith, highest-set xs k v (omega arith))

pub second-set : (xs : List ℕ) (k v : ℕ) → k < length xs → second (set xs k v) ≡ max (min v (highest (set xs k 0))) (second (set xs k 0))
unfolding highest
second-set [] k v h = absurd (omega arith)
second-set (x ∷ xs) zero v h = omega (arith, second-cons v xs, second-cons 0 xs)
second-set (x ∷ xs) (suc k) v h =
    omega (arith, second-cons x (set xs k v), second-cons x (set xs k 0), highest-set xs k v (omega arith), second-set xs k v (omega arith))

-- numbers of which f makes nothing may be left out
module _ (f : ℕ → ℕ) (p : ℕ → Bool) (nothing : (x : ℕ) → p x ≡ false → f x ≡ 0) where
  pub highest-filter : (xs : List ℕ) → highest (map f (filter p xs)) ≡ highest (map f xs)
  unfolding highest
  highest-filter [] = refl
  highest-filter (x ∷ xs) = turn (p x) refl (highest-filter xs)
    where
      turn : (b : Bool) → p x ≡ b → highest (map f (filter p xs)) ≡ highest (map f xs)
          → highest (map f (cond b (x ∷ filter p xs) (filter p xs))) ≡ max (f x) (highest (map f xs))
      turn true e rest = omega (arith, rest)
      turn false e rest = omega (arith, nothing x e, rest)

  pub second-filter : (xs : List ℕ) → second (map f (filter p xs)) ≡ second (map f xs)
  second-filter [] = refl
  second-filter (x ∷ xs) = turn (p x) refl (second-filter xs)
    where
      turn : (b : Bool) → p x ≡ b → second (map f (filter p xs)) ≡ second (map f xs)
          → second (map f (cond b (x ∷ filter p xs) (filter p xs))) ≡ second (f x ∷ map f xs)
      turn true e rest = omega (arith, second-cons (f x) (map f (filter p xs)), second-cons (f x) (map f xs), highest-filter xs, rest)
      turn false e rest = omega (arith, nothing x e, second-cons (f x) (map f xs), rest)
