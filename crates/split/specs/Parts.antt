-- What the parts of `split` promise each other and their callers. No rule of document 01 is here.
use Rattle.std.specs.Prelude.{ℕ, ◌*◌, ◌≤◌, ◌≡◌, List, length, get_or}
use Rattle.lists.specs.Limits.{amount_limit, allocation_limit}
use Rattle.lists.specs.Sums.{total}

-- the greatest product of a weight and the sum, 10,400,000,000,000,000,000, which 64 bits hold. One of the two is an amount and the other at
-- most what a default has to allocate: a sum over contributions and rooms, or a contribution over the sums of pools.
abbrev pub product_limit : ℕ
product_limit = amount_limit * allocation_limit

-- what the callers of `split` see to
pub record Splits (sum whole : ℕ) (weights shares : List ℕ) : Type 0 where
  pub products_fit : (k : ℕ) → get_or weights k 0 * sum ≤ product_limit
  pub whole_is : whole ≡ total weights
  pub as_many : length shares ≡ length weights
