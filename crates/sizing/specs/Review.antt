-- Document 01, "Stress sheet and sizing": "A review is triggered when 100C is more than 80A, answered exactly for any two 64-bit numbers."
use Rattle.std.specs.Prelude.{ℕ, ◌*◌, Bool, ltb}

unfoldable pub review_due : ℕ → ℕ → Bool
review_due cover target = ltb (80 * target) (100 * cover)
