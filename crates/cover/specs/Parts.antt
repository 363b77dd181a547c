-- What the parts of `cover` promise each other. No rule of document 01 is here.
-- One pass over a stress sheet keeps something of the block that is open, and of the worst block before it.
use Rattle.std.specs.Prelude.{ℕ, ◌≡◌, ◌+◌, ◌-◌, ◌*◌, ◌≤◌, max, List, map, get_or, length, eqb, ltb}
use Rattle.lists.specs.Checks.{check}
use Rattle.lists.specs.Highest.{highest, second}
use Rattle.lists.specs.Limits.{amount_limit, stress_limit, group_limit}
use Rattle.cover.specs.Figures.{Bounded}
use Rattle.cover.specs.Cover.{StressLoss, group_sum, groups, block_sums, flagged_sum}
use Rattle.cover.specs.declared.Block.{Block}
use Rattle.cover.specs.declared.Covered.{Covered}

-- the sum of each group, 0 where it is not in the block
abbrev pub group_sums : List StressLoss → List ℕ
group_sums records = map (group_sum records) groups

-- what is kept of a block's records: each sum is counted from a floor, and what earlier blocks left, at the floor or below it, is nothing
pub record Kept (records : List StressLoss) (sums : List ℕ) (block : Block) : Type 0 where
  pub long : length sums ≡ group_limit
  pub sums_are : (k : ℕ) → max (get_or sums k 0) block.floor ≡ block.floor + get_or (group_sums records) k 0
  pub top_is : block.top ≡ block.floor + highest (block_sums records)
  pub second_is : block.second ≡ block.floor + second (block_sums records)
  pub flagged_is : block.flagged ≡ flagged_sum records

-- a block of no records
abbrev pub opened : ℕ → Block
opened floor = record { floor = floor; top = floor; second = floor; flagged = 0 }

-- a sum that comes to those of a block takes its place among the two highest
abbrev pub placed : ℕ → Block → Block
placed sum block =
    check (ltb block.top sum)
    (record { floor = block.floor; top = sum; second = block.top; flagged = block.flagged })
    (record { floor = block.floor; top = block.top; second = max block.second sum; flagged = block.flagged })

-- a sum of the block grows
abbrev pub grown : ℕ → ℕ → Block → Block
grown before sum block =
    check (eqb before block.top) (record { floor = block.floor; top = sum; second = block.second; flagged = block.flagged }) (placed sum block)

-- the two highest sums of a block added
abbrev pub cover_in : Block → ℕ
cover_in block = block.top - block.floor + (block.second - block.floor)

-- the worse of the worst block so far and a later one, by the later one's cover sum and flagged losses
abbrev pub worse_of : Covered → ℕ → ℕ → Covered
worse_of worst cover flagged = check (ltb worst.cover cover) (record { cover = cover; weak = flagged }) worst

-- amounts of a block whose losses are in order, as are those of the blocks before
pub record Slight (block : Block) : Type 0 where
  pub top_least : block.floor ≤ block.top
  pub second_least : block.floor ≤ block.second
  pub top_most : block.top ≤ stress_limit * amount_limit
  pub bounded : Bounded (cover_in block) block.flagged
