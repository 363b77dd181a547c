-- What follows of the definitions, for whoever uses the functions.
use Prim.Native.Nat.{ℕ, ◌^◌, ◌<◌}
use mathlib.Core.Path.{◌≡◌, refl}
use mathlib.Core.Bool.{false, not}
use mathlib.Core.List.{List, [], ◌∷◌, ◌++◌}
use Rattle.lists.specs.Checks.{check}
use Rattle.numbers.specs.Numbers.{is_digit, all_digits, is_empty, read_of, decimal_of}
use Rattle.std.specs.Prelude.{Some, None}
use Rattle.numbers.proofs.Decimal.{read_printed}
use Rattle.std.proofs.Math.Bool.{and-false}

-- a number that is printed is read back
pub read_print : (n : ℕ) → n < 2 ^ 64 → read_of (decimal_of n) ≡ Some n
read_print n h = read_printed n h

-- an empty word is no number, and neither is one with a byte that is no digit
pub empty_no-number : read_of [] ≡ None
unfolding read_of check
empty_no-number = refl

not_all : (a c : List ℕ) (b : ℕ) → is_digit b ≡ false → all_digits (a ++ (b ∷ c)) ≡ false
not_all [] c b h = rw h
not_all (x ∷ a) c b h = rw (not_all a c b h) (and-false (is_digit x))

pub no-digit_no-number : (a c : List ℕ) (b : ℕ) → is_digit b ≡ false → read_of (a ++ (b ∷ c)) ≡ None
unfolding read_of check
no-digit_no-number a c b h = rw (not_all a c b h, and-false (not (is_empty (a ++ (b ∷ c)))))
