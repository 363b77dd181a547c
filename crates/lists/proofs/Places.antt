-- What holds at every place of a list, after a place is replaced.
use Prim.Native.Nat.{ℕ, zero, suc, ◌+◌, ◌-◌, ◌<◌, max}
use mathlib.Core.Path.{◌≡◌, refl, sym, ap}
use mathlib.Core.Bool.{Bool, true, false, cond}
use mathlib.Core.Logic.{⊎_elim}
use mathlib.Core.List.{List, [], ◌∷◌, ◌++◌, map}
use native.Mathlib.Nat.{eq-or-lt_of_le, eq-zero-or-pos}
use native.Mathlib.Omega.{arith}
use borrow.Author.Tests.{eqb-true, eqb-false}
use lib.Dec.{eqb}
use lib.Seq.{get_or-set_same, get_or-set_other}
use lib.ListN.{length, get_or, set}

-- what holds at each place, and of the number put in, holds at each place afterwards
pub set_all : (P : ℕ → ℕ → Type 0) (xs : List ℕ) (i v : ℕ) → ((k : ℕ) → P k (get_or xs k 0)) → P i v → (k : ℕ) → P k (get_or (set xs i v) k 0)
set_all P [] i v h p k = h k
set_all P (x ∷ xs) zero v h p zero = p
set_all P (x ∷ xs) zero v h p (suc k) = h (suc k)
set_all P (x ∷ xs) (suc i) v h p zero = h zero
set_all P (x ∷ xs) (suc i) v h p (suc k) = set_all (λ n y. P (suc n) y) xs i v (λ n. h (suc n)) p k

-- a function that changes no number changes no list
pub map_same : (f : ℕ → ℕ) → ((x : ℕ) → f x ≡ x) → (xs : List ℕ) → map f xs ≡ xs
map_same f h [] = refl
map_same f h (x ∷ xs) = rw (h x, map_same f h xs)

-- one of two numbers is the less, or they are equal
pub by_order : {A : Type 0} (m n : ℕ) → (m < n → A) → (m ≡ n → A) → (n < m → A) → A
by_order m n l e g = ⊎_elim (λ z. ⊎_elim e l (eq-or-lt_of_le (omega arith))) (λ p. g (omega arith)) (eq-zero-or-pos (m - n))

-- a number raised in a table whose numbers count from a floor
pub raised_above : (ts : List ℕ) (floor p w q : ℕ) → p < length ts
    → max (get_or (set ts p (max (get_or ts p 0) floor + w)) q 0) floor ≡ max (get_or ts q 0) floor + cond (eqb q p) w 0
raised_above ts floor p w q h = go (eqb q p) refl
  where
    go : (b : Bool) → eqb q p ≡ b → max (get_or (set ts p (max (get_or ts p 0) floor + w)) q 0) floor ≡ max (get_or ts q 0) floor + cond b w 0
    go true e =
        let s : q ≡ p = eqb-true q p e in
        rw s (omega (arith, get_or-set_same ts p (max (get_or ts p 0) floor + w) 0 h))
    go false e = omega (arith, get_or-set_other ts p q (max (get_or ts p 0) floor + w) 0 (eqb-false q p e))

-- and in one that has none
pub raised : (ts : List ℕ) (p w q : ℕ) → p < length ts → get_or (set ts p (get_or ts p 0 + w)) q 0 ≡ get_or ts q 0 + cond (eqb q p) w 0
raised ts p w q h =
    let none : max (get_or ts p 0) 0 ≡ get_or ts p 0 = omega arith in
    omega (arith, raised_above ts 0 p w q h, ap (λ n. get_or (set ts p (n + w)) q 0) none)

-- a place of the second of two lists behind one another
pub set_behind : {A : Type 0} (xs ys : List A) (k i : ℕ) (v : A) → i ≡ length xs + k → xs ++ set ys k v ≡ set (xs ++ ys) i v
set_behind [] ys k i v e = let same : i ≡ k = omega arith in ap (λ j. set ys j v) (sym same)
set_behind (x ∷ xs) ys k zero v e = absurd (omega arith)
set_behind (x ∷ xs) ys k (suc i) v e = ap (λ zs. x ∷ zs) (set_behind xs ys k i v (omega arith))
