-- What follows of the definitions, for whoever uses the functions.
use Rattle.std.proofs.Common.{ℕ, ◌^◌, ◌≤◌, ◌<◌, ◌≡◌, List, [], length, ltb, ◌==◌, Option, Some, None, refl, arith}
use Rattle.std.specs.Option.{IfSome}
use borrow.Author.Tests.{ltb-true}
use Rattle.lists.specs.Checks.{check}
use Rattle.lists.proofs.Checks.{check_by}
use Rattle.numbers.specs.Numbers.{read_of}
use Rattle.cells.specs.Cells.{trimmed, within, field_of, byte_of, half_of, amount_of}

-- "A blank amount is written as FFFFFFFF, missing; any other blank cell as all bits set. A blank is never written as zero."
module _ (s : List ℕ) (h : trimmed s ≡ []) where
  pub blank-amount : amount_of s ≡ Some 4294967295
  unfolding field_of check
  blank-amount = rw h refl

  pub blank-byte : byte_of s ≡ Some 255
  unfolding field_of check
  blank-byte = rw h refl

  pub blank-half : half_of s ≡ Some 65535
  unfolding field_of check
  blank-half = rw h refl

-- a field's value fits its bytes
module _ (bound : ℕ) where
  abbrev Fits : Option ℕ → Type 0
  Fits o = IfSome o (λ v. v < bound)

  within_fits : (limit : ℕ) → limit ≤ bound → (o : Option ℕ) → Fits (within limit o)
  within_fits limit h (Some v) = check_by Fits (ltb v limit) (Some v) None (λ e. omega (arith, ltb-true v limit e)) (λ e. tt)
  within_fits limit h None = tt

  field_fits : (blank limit : ℕ) (s : List ℕ) → blank < bound → limit ≤ bound → Fits (field_of blank limit s)
  unfolding field_of
  field_fits blank limit s b l =
      check_by Fits (length (trimmed s) == 0) (Some blank) (within limit (read_of (trimmed s))) (λ e. b) (λ e. within_fits limit l (read_of (trimmed s)))

  fits_as : (o : Option ℕ) (v : ℕ) → Fits o → o ≡ Some v → v < bound
  fits_as o v h e = rw e at h

module _ (s : List ℕ) (v : ℕ) where
  pub byte_fits : byte_of s ≡ Some v → v < 256
  byte_fits = fits_as 256 (byte_of s) v (field_fits 256 255 256 s (omega arith) (omega arith))

  pub half_fits : half_of s ≡ Some v → v < 65536
  half_fits = fits_as 65536 (half_of s) v (field_fits 65536 65535 65536 s (omega arith) (omega arith))

  pub amount_fits : amount_of s ≡ Some v → v < 2 ^ 32
  amount_fits = fits_as (2 ^ 32) (amount_of s) v (field_fits (2 ^ 32) 4294967295 4294967295 s (omega arith) (omega arith))
