-- What follows of the definitions, for whoever uses the functions.
use Prim.Native.Nat.{ℕ, ◌+◌, ◌/◌, ◌%◌, ◌^◌, ◌≤◌, ◌<◌}
use mathlib.Core.Path.{◌≡◌, refl}
use mathlib.Core.Bool.{Bool, true, false}
use mathlib.Core.List.{List, [], ◌∷◌, ◌++◌}
use native.Mathlib.Omega.{arith}
use borrow.Author.Tests.{eqb-true}
use lib.Dec.{leb, eqb}
use lib.ListN.{length, length-append}
use Rattle.lists.specs.Checks.{check}
use Rattle.lists.specs.Limits.{printed_limit}
use Rattle.lists.specs.Texts.{ascii}
use Rattle.lists.proofs.Checks.{check_by}
use Rattle.numbers.specs.Numbers.{is_digit, all_digits, read_of, decimal_of}
use Rattle.std.specs.Prelude.{Some}
use Rattle.numbers.proofs.Decimal.{decimal-few, decimal_all}
use Rattle.numbers.proofs.Theorems.{read_print}
use Rattle.indian_digits.specs.IndianDigits.{comma_before, with_commas, indian_of}
use Rattle.std.proofs.lemmas.Bool.{and_parts}

-- the digits among the bytes of a text
unfoldable pub digits_in : List ℕ → List ℕ
digits_in [] = []
digits_in (b ∷ s) = check (is_digit b) (b ∷ digits_in s) (digits_in s)

no_comma : (t : Bool) (s : List ℕ) → digits_in (check t (ascii ",") [] ++ s) ≡ digits_in s
unfolding digits_in check
no_comma true s = refl
no_comma false s = refl

commas_dropped : (ds : List ℕ) → all_digits ds ≡ true → digits_in (with_commas ds) ≡ ds
unfolding digits_in with_commas check
commas_dropped [] h = refl
commas_dropped (d ∷ ds) h =
    let e = and_parts (is_digit d) (all_digits ds) h in
    rw (e.0, no_comma (comma_before (length ds)) (with_commas ds), commas_dropped ds e.1)

-- the printed amount gives the number back
pub amount_back : (n : ℕ) → n < 2 ^ 64 → read_of (digits_in (indian_of n)) ≡ Some n
unfolding indian_of
amount_back n h = rw (commas_dropped (decimal_of n) (decimal_all n)) (read_print n h)

-- at most one comma for every two digits
comma-length : (k : ℕ) → length (check (comma_before k) (ascii ",") []) ≤ k % 2
comma-length k =
    check_by (λ (s : List ℕ). length s ≤ k % 2) (comma_before k) _ _
    (λ e. omega (arith, eqb-true (k % 2) 1 (and_parts (leb 3 k) (eqb (k % 2) 1) e).1))
    (λ e. omega arith)

commas-length : (ds : List ℕ) → length (with_commas ds) ≤ length ds + length ds / 2
unfolding with_commas
commas-length [] = omega arith
commas-length (d ∷ ds) =
    omega (arith, comma-length (length ds), commas-length ds, length-append (check (comma_before (length ds)) (ascii ",") []) (with_commas ds))

-- "right-aligned in 20": every amount that is printed fits
pub amount_fits : (n : ℕ) → n ≤ printed_limit → length (indian_of n) ≤ 20
unfolding indian_of
amount_fits n h = omega (arith, commas-length (decimal_of n), decimal-few 10 n (omega arith))
