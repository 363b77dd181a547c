-- What follows of the definitions, for whoever uses the functions.
use Rattle.std.proofs.Common.{ℕ, ◌<◌, ◌≤◌, ◌≡◌, sym, Bool, true, false, cond, List, length, ◌==◌, bytes_eq, nat_lt, get_or, Some, None, refl, arith}
use Rattle.std.specs.List.{position, position_or_len}
use Rattle.std.proofs.lemmas.Slice.Eq.{bytes_eq-Decides}
use Rattle.std.proofs.lemmas.List.Quantifiers.{position-Some}
use Rattle.std.proofs.lemmas.List.Sums.{fails_before_first}
use Rattle.std.proofs.lemmas.Option.{none-some}
use borrow.Author.Tests.{eqb-true, eqb-false, ltb-false}

-- `bytes_eq` is equality
pub same_equal : (a b : List ℕ) → bytes_eq a b ≡ true → a ≡ b
same_equal a b = (bytes_eq-Decides a b).0

pub equal_same : (a : List ℕ) → bytes_eq a a ≡ true
equal_same a = (bytes_eq-Decides a a).1 refl

-- the first place that holds a byte: it is a place of the list, none before it holds the byte, and it does
module _ (x : ℕ) (s : List ℕ) (place : ℕ) (e : position (λ b. b == x) s ≡ Some place) where
  pub in_range : place < length s
  in_range = (position-Some (λ b. b == x) s place 0 e).0

  pub none_before : (k : ℕ) → k < place → get_or s k 0 ≡ x → ⊥
  none_before k h = eqb-false (get_or s k 0) x ((position-Some (λ b. b == x) s place 0 e).2 k h)

  pub found_there : get_or s place 0 ≡ x
  found_there = eqb-true (get_or s place 0) x (position-Some (λ b. b == x) s place 0 e).1

-- where no place is found, the search runs to the end
pub runs_out : (p : ℕ → Bool) (s : List ℕ) → position p s ≡ None → length s ≤ position_or_len p s
runs_out p s e = go (nat_lt (position_or_len p s) (length s)) refl e
  where
    go : (c : Bool) → nat_lt (position_or_len p s) (length s) ≡ c → cond c (Some (position_or_len p s)) None ≡ None → length s ≤ position_or_len p s
    go true l f = absurd (none-some _ (sym f))
    go false l f = ltb-false (position_or_len p s) (length s) l

-- and no place holds the byte
pub found_nowhere : (x : ℕ) (s : List ℕ) → position (λ b. b == x) s ≡ None → (k : ℕ) → k < length s → get_or s k 0 ≡ x → ⊥
found_nowhere x s e k h = eqb-false (get_or s k 0) x (fails_before_first (λ b. b == x) s k 0 (omega (arith, runs_out (λ b. b == x) s e)))
