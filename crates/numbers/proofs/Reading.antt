-- Laws of a number that is read digit by digit.
use Prim.Native.Nat.{ℕ, ◌+◌, ◌-◌, ◌*◌, ◌^◌, ◌≤◌, ◌<◌}
use mathlib.Core.Path.{◌≡◌, refl, sym, ◌∙◌}
use mathlib.Core.Bool.{true, false, ◌&&◌}
use mathlib.Core.List.{List, [], ◌∷◌}
use native.Mathlib.Omega.{arith}
use borrow.Author.Tests.{lt-ltb, le-ltb}
use lib.Dec.{ltb}
use lib.ListN.{length, get_or, drop, drop_of_length-le}
use Rattle.lists.specs.Checks.{check}
use Rattle.lists.proofs.Checks.{check-true, check-false}
use Rattle.numbers.specs.Numbers.{value_from, all_digits, is_digit, read_of}
use Rattle.std.specs.Prelude.{Option, Some, None}
use Rattle.std.proofs.lemmas.List.{drop_more}
use Rattle.std.proofs.Math.Bool.{and-false}

-- what the digits s make behind the value v
abbrev pub read_from : ℕ → List ℕ → Option ℕ
read_from v s = check (all_digits s && ltb (value_from v s) (2 ^ 64)) (Some (value_from v s)) None

pub none : (s : List ℕ) → length s ≡ 0 → read_of s ≡ None
unfolding read_of check
none [] h = refl
none (b ∷ s) h = absurd (omega arith)

pub whole : (s : List ℕ) → 0 < length s → read_from 0 s ≡ read_of s
unfolding read_of
whole [] h = absurd (omega arith)
whole (b ∷ s) h = refl

-- no byte is left
pub done : (s : List ℕ) (v i : ℕ) → length s ≤ i → v < 2 ^ 64 → read_from v (drop i s) ≡ Some v
done s v i h k = rw (drop_of_length-le s h) (sym (check-true _ _ (ltb v (2 ^ 64)) (lt-ltb _ _ k) refl))

-- a digit goes into the value
pub digit : (s : List ℕ) (v i : ℕ) → i < length s → is_digit (get_or s i 0) ≡ true
    → read_from v (drop i s) ≡ read_from (v * 10 + (get_or s i 0 - 48)) (drop (i + 1) s)
digit s v i h p = rw (drop_more s i 0 h, p) refl

-- a byte that is no digit
pub other : (s : List ℕ) (v i : ℕ) → i < length s → is_digit (get_or s i 0) ≡ false → read_from v (drop i s) ≡ None
unfolding check
other s v i h e = rw (drop_more s i 0, e)

-- more digits make no less
grows : (v : ℕ) (s : List ℕ) → v ≤ value_from v s
grows v [] = omega arith
grows v (b ∷ s) = omega (arith, grows (v * 10 + (b - 48)) s)

excess : (v : ℕ) (s : List ℕ) → 2 ^ 64 ≤ v → read_from v s ≡ None
excess v s h = sym (check-false _ _ _ (rw (le-ltb (value_from v s) (2 ^ 64) (omega (arith, grows v s))) (and-false (all_digits s))) refl)

-- a digit that makes too large a value
pub full : (s : List ℕ) (v i : ℕ) → i < length s → is_digit (get_or s i 0) ≡ true
    → 2 ^ 64 ≤ v * 10 + (get_or s i 0 - 48) → read_from v (drop i s) ≡ None
full s v i h p k = digit s v i h p ∙ excess _ (drop (i + 1) s) k

-- what `read_number` cites at each of its ways out
pub ruleset reading = (none, whole, done, digit, other, full)
