-- "Numbers are decimal digits. A number that does not fit 64 bits is not a number."
use Rattle.std.specs.Prelude.{ℕ, zero, suc, ◌+◌, ◌-◌, ◌*◌, ◌/◌, ◌%◌, ◌^◌, ◌≡◌, refl, Bool}
use Rattle.std.specs.Prelude.{true, false, not, ◌&&◌, List, [], ◌∷◌, ◌++◌, leb, ltb, Option, Some, None}
use Rattle.lists.specs.Checks.{check}
use Rattle.lists.specs.Texts.{ascii}

abbrev pub is_digit : ℕ → Bool
is_digit b = leb 48 b && leb b 57

abbrev pub all_digits : List ℕ → Bool
all_digits [] = true
all_digits (b ∷ s) = is_digit b && all_digits s

abbrev pub is_empty : List ℕ → Bool
is_empty [] = true
is_empty (b ∷ s) = false

-- the value of the digits v with the digits s behind them; of s alone it is `value_from 0 s`
abbrev pub value_from : ℕ → List ℕ → ℕ
value_from v [] = v
value_from v (b ∷ s) = value_from (v * 10 + (b - 48)) s

abbrev pub is_number : List ℕ → Bool
is_number s = not (is_empty s) && all_digits s && ltb (value_from 0 s) (2 ^ 64)

unfoldable pub read_of : List ℕ → Option ℕ
read_of s = check (is_number s) (Some (value_from 0 s)) None

-- the digits of n, with no zero in front; `most` bounds how many there are
abbrev pub digits_of : ℕ → ℕ → List ℕ
digits_of zero n = []
digits_of (suc most) n = check (ltb n 10) ((48 + n) ∷ []) (digits_of most (n / 10) ++ ((48 + n % 10) ∷ []))

-- a number of 64 bits has at most 20 digits
unfoldable pub decimal_of : ℕ → List ℕ
decimal_of n = digits_of 20 n

-- a text with a number behind it
unfoldable pub labelled : List ℕ → ℕ → List ℕ
labelled text n = text ++ decimal_of n

zero_printed : decimal_of 0 ≡ ascii "0"
unfolding decimal_of check
zero_printed = refl

ten_printed : decimal_of 10 ≡ ascii "10"
unfolding decimal_of check
ten_printed = refl

seven-read : read_of (ascii "007") ≡ Some 7
unfolding read_of check
seven-read = refl

minus-read : read_of (ascii "-1") ≡ None
unfolding read_of check
minus-read = refl
