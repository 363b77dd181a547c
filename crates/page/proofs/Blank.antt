-- Laws of a blank line, over whose last spaces an amount is put.
use Prim.Native.Nat.{ℕ, ◌+◌, ◌-◌, ◌≤◌}
use mathlib.Core.Path.{◌≡◌, sym, ◌∙◌}
use mathlib.Core.List.{List, [], ◌∷◌, ◌++◌, append_assoc}
use native.Mathlib.Omega.{arith}
use lib.ListN.{length, drop, length-append}
use Rattle.lists.specs.Limits.{printed_limit}
use Rattle.std.proofs.Common.{take, ap, take_at, drop_at}
use Rattle.std.proofs.lemmas.List.{length-replicate, replicate-append-replicate}
use Rattle.indian_digits.specs.IndianDigits.{indian_of}
use Rattle.indian_digits.proofs.Theorems.{amount_fits}
use Rattle.page.specs.Page.{spaces, left_aligned, right_aligned, row_of, line}
use Rattle.page.proofs.Rows.{left-length}

-- a line whose right half is blank
abbrev pub blank_line : List ℕ → List ℕ
blank_line name = left_aligned name ++ spaces 20 ++ 10 ∷ []

-- an amount that is put over the last of its spaces
module _ (name amount : List ℕ) (h : length name ≤ 20) (k : length amount ≤ 20) where
  front : List ℕ
  front = left_aligned name ++ spaces (20 - length amount)

  front-length : length front ≡ 40 - length amount
  unfolding front
  front-length =
      omega (arith, length-append (left_aligned name) (spaces (20 - length amount)), left-length name h, length-replicate {A = ℕ} (20 - length amount) 32)

  half : spaces 20 ≡ spaces (20 - length amount) ++ spaces (length amount)
  half =
      let e : 20 ≡ (20 - length amount) + length amount = omega arith in
      ap spaces e ∙ sym (replicate-append-replicate {A = ℕ} (20 - length amount) (length amount) 32)

  parts : blank_line name ≡ front ++ (spaces (length amount) ++ 10 ∷ [])
  unfolding front
  parts = ap (λ (s : List ℕ). left_aligned name ++ s ++ 10 ∷ []) half ∙ simp append_assoc

  before : take (40 - length amount) (blank_line name) ≡ front
  before = ap (take (40 - length amount)) parts ∙ take_at front (spaces (length amount) ++ 10 ∷ []) (40 - length amount) front-length

  behind : drop 40 (blank_line name) ≡ 10 ∷ []
  behind =
      drop_at (left_aligned name ++ spaces 20) (10 ∷ []) 40 (omega (arith, length-append (left_aligned name) (spaces 20), left-length name h, length-replicate {A = ℕ} 20 32))

  amount_put : take (40 - length amount) (blank_line name) ++ amount ++ drop 40 (blank_line name) ≡ line (left_aligned name ++ right_aligned amount)
  unfolding line front
  amount_put = rw (before, behind) (simp append_assoc)

pub blank_put : (name : List ℕ) (n : ℕ) {new : List ℕ} → length name ≤ 20 → n ≤ printed_limit
    → new ≡ take (40 - length (indian_of n)) (blank_line name) ++ indian_of n ++ drop 40 (blank_line name) → new ≡ line (row_of name n)
unfolding row_of
blank_put name n h k e = e ∙ amount_put name (indian_of n) h (amount_fits n k)
