-- Laws of the digits of a number.
use Prim.Native.Nat.{ℕ, zero, suc, ◌+◌, ◌-◌, ◌*◌, ◌/◌, ◌%◌, ◌^◌, ◌≤◌, ◌<◌}
use mathlib.Core.Path.{◌≡◌, refl, sym, ap, ◌∙◌}
use mathlib.Core.Bool.{Bool, true, false, ◌&&◌}
use mathlib.Core.List.{List, [], ◌∷◌, ◌++◌}
use native.Mathlib.Omega.{arith}
use native.Mathlib.Nat.{div-lt_iff_lt-mul, pow-suc}
use borrow.Author.Tests.{lt-ltb, ltb-true, ltb-false, le-leb}
use lib.Dec.{ltb, lit<}
use lib.ListN.{length, length-append}
use Rattle.std.specs.Prelude.{Some}
use Rattle.std.specs.Fmt.{decimal}
use Rattle.std.proofs.lemmas.Fmt.{decimal_from_appends, decimal_digit, decimal_step, length-decimal-le}
use Rattle.lists.specs.Checks.{check}
use Rattle.lists.proofs.Checks.{check-lt, check_nlt, check_by}
use Rattle.numbers.specs.Numbers.{digits_of, decimal_of, value_from, all_digits, is_digit, is_empty, read_of}

pub some-append : (s : List ℕ) (b : ℕ) → is_empty (s ++ (b ∷ [])) ≡ false
some-append [] b = refl
some-append (a ∷ s) b = refl

tenth : (f n : ℕ) → n < 10 ^ suc f → n / 10 < 10 ^ f
tenth f n h = (div-lt_iff_lt-mul {k = 10} {x = n} {y = 10 ^ f} (lit< tt)).1 (rw pow-suc at h)

digits-length : (f n : ℕ) → length (digits_of f n) ≤ f
digits-length zero n = omega arith
digits-length (suc f) n =
    check_by (λ (s : List ℕ). length s ≤ suc f) (ltb n 10) _ _
    (λ e. omega arith)
    (λ e. simp length-append (omega (arith, digits-length f (n / 10))))

-- a number below 10 ^ (k + 1) has at most k + 1 digits
few-digits : (k f n : ℕ) → n < 10 ^ suc k → length (digits_of f n) ≤ suc k
few-digits k zero n h = omega arith
few-digits zero (suc f) n h =
    check_by (λ (s : List ℕ). length s ≤ 1) (ltb n 10) _ _
    (λ e. omega arith)
    (λ e. absurd (omega (arith, ltb-false n 10 e)))
few-digits (suc k) (suc f) n h =
    check_by (λ (s : List ℕ). length s ≤ suc (suc k)) (ltb n 10) _ _
    (λ e. omega arith)
    (λ e. simp length-append (omega (arith, few-digits k f (n / 10) (tenth (suc k) n h))))

-- the value of digits behind others
value-append : (v : ℕ) (s t : List ℕ) → value_from v (s ++ t) ≡ value_from (value_from v s) t
value-append v [] t = refl
value-append v (b ∷ s) t = value-append (v * 10 + (b - 48)) s t

digits_value : (f n : ℕ) → n < 10 ^ f → value_from 0 (digits_of f n) ≡ n
digits_value zero n h = omega arith
digits_value (suc f) n h =
    check_by (λ (s : List ℕ). value_from 0 s ≡ n) (ltb n 10) _ _
    (λ e. omega arith)
    (λ e. value-append 0 (digits_of f (n / 10)) ((48 + n % 10) ∷ []) ∙ omega (arith, digits_value f (n / 10) (tenth f n h)))

and_intro : (a b : Bool) → a ≡ true → b ≡ true → (a && b) ≡ true
and_intro a b p q = rw (p, q)

all_append : (s t : List ℕ) → all_digits t ≡ true → all_digits (s ++ t) ≡ all_digits s
all_append [] t q = q
all_append (b ∷ s) t q = ap (λ (a : Bool). is_digit b && a) (all_append s t q)

is_digit_lem : (d : ℕ) → d < 10 → is_digit (48 + d) ≡ true
is_digit_lem d h = and_intro _ _ (le-leb 48 (48 + d) (omega arith)) (le-leb (48 + d) 57 (omega arith))

digits_all : (f n : ℕ) → all_digits (digits_of f n) ≡ true
digits_all zero n = refl
digits_all (suc f) n =
    check_by (λ (s : List ℕ). all_digits s ≡ true) (ltb n 10) _ _
    (λ e. and_intro _ _ (is_digit_lem n (ltb-true n 10 e)) refl)
    (λ e. all_append (digits_of f (n / 10)) _ (and_intro _ _ (is_digit_lem (n % 10) (omega arith)) refl) ∙ digits_all f (n / 10))

digits-some : (f n : ℕ) → is_empty (digits_of (suc f) n) ≡ false
digits-some f n =
    check_by (λ (s : List ℕ). is_empty s ≡ false) (ltb n 10) _ _
    (λ e. refl)
    (λ e. some-append (digits_of f (n / 10)) _)

-- the digits of a number of 64 bits are those that std prints
pub decimal_printed : (n : ℕ) → n < 2 ^ 64 → decimal n ≡ decimal_of n
unfolding decimal_of
decimal_printed n h =
    sym (decimal_from_appends digits_of (record {
      one = λ k m small. sym (check-lt _ _ m 10 small refl);
      more = λ k m large. sym (check_nlt _ _ m 10 large refl);
    }) 20 n h (length-decimal-le 20 n (omega arith) (omega arith) h))

pub decimal_small : (n : ℕ) → n < 10 → decimal_of n ≡ (48 + n) ∷ []
decimal_small n h = sym (decimal_printed n (omega arith)) ∙ decimal_digit n h

pub decimal_large : (n : ℕ) → 10 ≤ n → n < 2 ^ 64 → decimal_of n ≡ decimal_of (n / 10) ++ ((48 + n % 10) ∷ [])
decimal_large n h k =
    sym (decimal_printed n k) ∙ decimal_step n h k ∙ ap (λ (s : List ℕ). s ++ ((48 + n % 10) ∷ [])) (decimal_printed (n / 10) (omega arith))

pub decimal-length : (n : ℕ) → length (decimal_of n) ≤ 20
unfolding decimal_of
decimal-length n = digits-length 20 n

pub decimal-few : (k n : ℕ) → n < 10 ^ suc k → length (decimal_of n) ≤ suc k
unfolding decimal_of
decimal-few k n h = few-digits k 20 n h

pub decimal_all : (n : ℕ) → all_digits (decimal_of n) ≡ true
unfolding decimal_of
decimal_all n = digits_all 20 n

read_as : (s : List ℕ) (n : ℕ) → is_empty s ≡ false → all_digits s ≡ true → value_from 0 s ≡ n → n < 2 ^ 64 → read_of s ≡ Some n
unfolding read_of check
read_as s n p q v h = rw (p, q, v, lt-ltb n (2 ^ 64) h)

pub read_printed : (n : ℕ) → n < 2 ^ 64 → read_of (decimal_of n) ≡ Some n
unfolding decimal_of
read_printed n h =
    read_as (digits_of 20 n) n (digits-some 19 n) (digits_all 20 n) (digits_value 20 n (omega arith)) h
