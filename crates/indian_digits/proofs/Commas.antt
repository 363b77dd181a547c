-- Laws of an amount that is put digit by digit, from its last digit on.
use Rattle.std.proofs.Common.{◌≡◌, ℕ, ◌+◌, ◌-◌, ◌/◌, ◌%◌, ◌^◌, ◌≤◌, ◌<◌, List, [], ◌∷◌, ◌++◌, length, take, drop, refl, sym, ap, ◌∙◌, arith, length-append, append_assoc, append-nil, drop_at}
use lib.Seq.{length-take-le, take-take}
use Rattle.std.proofs.lemmas.List.{take-append-le, take_all}
use Rattle.lists.specs.Checks.{check}
use Rattle.lists.specs.Texts.{ascii}
use Rattle.numbers.specs.Numbers.{decimal_of}
use Rattle.numbers.proofs.Decimal.{decimal_small, decimal_large, decimal-length}
use Rattle.indian_digits.specs.IndianDigits.{comma_before, with_commas, indian_of}
use Rattle.indian_digits.specs.Parts.{digit_of}

-- What is put so far: the digits `last`, with their commas, in front of which those of `left` come.
pub record Putting (out₀ : List ℕ) (amount : ℕ) (out : List ℕ) (begin left following : ℕ) : Type 0 where
  pub last : List ℕ
  pub as_many : following ≡ length last
  pub fits : left < 2 ^ 64
  pub digits : decimal_of left ++ last ≡ decimal_of amount
  pub room : begin + length (with_commas last) ≡ length out₀
  pub put : out ≡ take begin out₀ ++ with_commas last

pub starts : (out : List ℕ) (amount begin : ℕ) → amount < 2 ^ 64 → begin ≡ length out → Putting out amount out begin amount 0
unfolding with_commas
starts out amount begin h e =
    record {
      last = [];
      as_many = refl;
      fits = h;
      digits = append-nil (decimal_of amount);
      room = omega arith;
      put = sym (append-nil (take begin out) ∙ take_all begin out (omega arith));
    }

-- the digits in front only make it longer
more_commas : (front last : List ℕ) → length (with_commas last) ≤ length (with_commas (front ++ last))
unfolding with_commas
more_commas [] last = omega arith
more_commas (d ∷ front) last =
    omega (arith, more_commas front last, length-append (check (comma_before (length (front ++ last))) (ascii ",") []) (with_commas (front ++ last)))

module _ (out₀ : List ℕ) (amount : ℕ) (out : List ℕ) (begin left following : ℕ) (p : Putting out₀ amount out begin left following) (whole : length (indian_of amount) ≤ length out₀) where
  -- no amount has more digits than 20
  pub few : following ≤ 20
  few = omega (arith, p.as_many, ap length p.digits, length-append (decimal_of left) p.last, decimal-length amount)

  -- the next digit, and those in front of it
  module _ (d : ℕ) (front : List ℕ) (e : front ++ (48 + d) ∷ p.last ≡ decimal_of amount) where
    abbrev next : List ℕ
    next = (48 + d) ∷ p.last

    one_more : with_commas next ≡ digit_of d following ++ with_commas p.last
    unfolding with_commas digit_of
    one_more = rw p.as_many refl

    one-length : length (with_commas next) ≡ length (digit_of d following) + length (with_commas p.last)
    one-length = ap length one_more ∙ length-append (digit_of d following) (with_commas p.last)

    has_room : length (digit_of d following) ≤ begin
    unfolding indian_of
    has_room = omega (arith, one-length, more_commas front next, ap (λ (s : List ℕ). length (with_commas s)) e, p.room)

    inside : begin ≤ length out
    inside = omega (arith, ap length p.put, length-append (take begin out₀) (with_commas p.last), length-take-le begin out₀ (omega (arith, p.room)))

    digit_put : (out₁ : List ℕ) (r : ℕ) → (r + length (digit_of d following) ≡ begin) × (out₁ ≡ take r out ++ digit_of d following ++ drop begin out) → (r + length (with_commas next) ≡ length out₀) × (out₁ ≡ take r out₀ ++ with_commas next)
    digit_put out₁ r w =
        let n : length (take begin out₀) ≡ begin = length-take-le begin out₀ (omega (arith, p.room)) in
        let before : take r out ≡ take r out₀ =
        ap (take r) p.put ∙ take-append-le r (take begin out₀) (with_commas p.last) (omega (arith, w.0)) ∙ take-take r begin out₀ (omega (arith, w.0)) in
        let behind : drop begin out ≡ with_commas p.last = ap (drop begin) p.put ∙ drop_at (take begin out₀) (with_commas p.last) begin n in (
          omega (arith, w.0, one-length, p.room),
          w.1 ∙ rw (before, behind) (append_assoc (take r out₀) (digit_of d following) (with_commas p.last) ∙ ap (λ (s : List ℕ). take r out₀ ++ s) (sym one_more)),
        )

  -- a digit, and more in front of it
  module _ (d : ℕ) (more : 10 ≤ left) (is_last : d ≡ left % 10) where
    cut : decimal_of (left / 10) ++ (48 + d) ∷ p.last ≡ decimal_of amount
    cut =
        ap (λ (n : ℕ). decimal_of (left / 10) ++ (48 + n) ∷ p.last) is_last
        ∙ sym (append_assoc (decimal_of (left / 10)) ((48 + left % 10) ∷ []) p.last)
        ∙ ap (λ (s : List ℕ). s ++ p.last) (sym (decimal_large left more p.fits))
        ∙ p.digits

    pub turn_asks : (length (digit_of d following) ≤ begin) × (begin ≤ length out) × (d < 10)
    turn_asks = (has_room d _ cut, inside d _ cut, omega arith)

    pub turn : (out₁ : List ℕ) (r : ℕ) → (r + length (digit_of d following) ≡ begin) × (out₁ ≡ take r out ++ digit_of d following ++ drop begin out) → Putting out₀ amount out₁ r (left / 10) (following + 1)
    turn out₁ r w =
        let put = digit_put d _ cut out₁ r w in
        record {
          last = (48 + d) ∷ p.last;
          as_many = omega (arith, p.as_many);
          fits = omega (arith, p.fits);
          digits = cut;
          room = put.0;
          put = put.1;
        }

  -- the first digit
  module _ (d : ℕ) (one : left < 10) (is_first : d ≡ left) where
    all : [] ++ (48 + d) ∷ p.last ≡ decimal_of amount
    all = ap (λ (n : ℕ). (48 + n) ∷ p.last) is_first ∙ ap (λ (s : List ℕ). s ++ p.last) (sym (decimal_small left one)) ∙ p.digits

    pub end_asks : (length (digit_of d following) ≤ begin) × (begin ≤ length out) × (d < 10)
    end_asks = (has_room d [] all, inside d [] all, omega arith)

    pub begins : (out₁ : List ℕ) (r : ℕ) → (r + length (digit_of d following) ≡ begin) × (out₁ ≡ take r out ++ digit_of d following ++ drop begin out) → r + length (indian_of amount) ≡ length out₀
    unfolding indian_of
    begins out₁ r w = omega (arith, (digit_put d [] all out₁ r w).0, ap (λ (s : List ℕ). length (with_commas s)) all)

    pub done : (out₁ : List ℕ) (r : ℕ) → (r + length (digit_of d following) ≡ begin) × (out₁ ≡ take r out ++ digit_of d following ++ drop begin out) → out₁ ≡ take (length out₀ - length (indian_of amount)) out₀ ++ indian_of amount
    unfolding indian_of
    done out₁ r w =
        let e : r ≡ length out₀ - length (with_commas (decimal_of amount)) = omega (arith, begins out₁ r w) in
        (digit_put d [] all out₁ r w).1 ∙ rw (e, all) refl
