-- Document 01, "Stress sheet and sizing", and document 02, request 5: the cover C and the weak losses W of a stress sheet.
use Rattle.std.specs.Prelude.{ℕ, zero, suc, ◌+◌, Bool, true, cond, List, [], ◌∷◌, ◌++◌, map, filter, eqb}
use Rattle.std.specs.List.{list_any, range_with_len}
use Rattle.lists.specs.Checks.{check}
use Rattle.lists.specs.Highest.{highest, second}
use Rattle.lists.specs.Limits.{group_limit}
use Rattle.lists.specs.Sums.{total}
use Rattle.sheets.specs.Bytes.{record_at, nonzero}
use Rattle.sheets.specs.Sheet.{record_count}
use Rattle.stress.specs.Stress.{day_at, scenario_at, stressed_at, weak_at, group_at, loss_at, one_block}
use Rattle.cover.specs.declared.Covered.{Covered}

-- a record of the sheet
pub record StressLoss : Type 0 where
  pub day : ℕ
  pub scenario : ℕ
  pub member : ℕ
  pub weak : ℕ
  pub group : ℕ
  pub loss : ℕ

abbrev pub loss_record : List ℕ → StressLoss
loss_record s =
    record {
      day = day_at s;
      scenario = scenario_at s;
      member = stressed_at s;
      weak = weak_at s;
      group = group_at s;
      loss = loss_at s;
    }

-- the n records of a sheet from record i on
unfoldable pub records_from : ℕ → List ℕ → ℕ → List StressLoss
records_from zero sheet i = []
records_from (suc n) sheet i = loss_record (record_at sheet i) ∷ records_from n sheet (i + 1)

abbrev pub records_of : List ℕ → List StressLoss
records_of sheet = records_from (record_count sheet) sheet 0

-- whether a record is of a block, the latest record of which stands first; a new block takes any
abbrev pub joins : StressLoss → List StressLoss → Bool
joins r [] = true
joins r (latest ∷ earlier) = one_block r.day r.scenario latest.day latest.scenario

-- the blocks of a list of records, in the list's order; records rise, so those of a block stand together. `block` is the one that is open.
unfoldable pub blocks_from : List StressLoss → List StressLoss → List (List StressLoss)
blocks_from block [] = block ∷ []
blocks_from block (r ∷ rest) =
    check (joins r block)
    (blocks_from (r ∷ block) rest)
    (block ∷ blocks_from (r ∷ []) rest)

abbrev pub blocks_of : List StressLoss → List (List StressLoss)
blocks_of records = blocks_from [] records

-- the losses of a group's members in a block; with 0, those of the members alone
unfoldable pub losses_of : ℕ → List StressLoss → List ℕ
losses_of g block = map (λ r. r.loss) (filter (λ r. eqb r.group g) block)

-- "In each block the losses of a group are added"
abbrev pub group_sum : List StressLoss → ℕ → ℕ
group_sum block g = total (losses_of g block)

-- "the group, 1 to 64"
unfoldable pub groups : List ℕ
groups = range_with_len 1 group_limit

-- each group that is in a block
abbrev pub groups_in : List StressLoss → List ℕ
groups_in block = filter (λ g. list_any (λ r. eqb r.group g) block) groups

-- the sums of a block: one for each group in it, and one for each "member alone", its loss. (Document 01's "Each member counts alone here, affiliates
-- too" is retired.)
unfoldable pub block_sums : List StressLoss → List ℕ
block_sums block = map (group_sum block) (groups_in block) ++ losses_of 0 block

-- the two highest of a list added; of one number, that number
abbrev pub two_highest : List ℕ → ℕ
two_highest xs = highest xs + second xs

-- "before the two highest are taken (one sum: that sum)"
unfoldable pub cover_sum : List StressLoss → ℕ
cover_sum block = two_highest (block_sums block)

-- "the earliest block among equals"
unfoldable pub earliest_with : ℕ → List (List StressLoss) → List StressLoss
earliest_with c [] = []
earliest_with c (block ∷ later) = check (eqb (cover_sum block) c) block (earliest_with c later)

-- "flagged losses"
abbrev pub flagged_loss : StressLoss → ℕ
flagged_loss r = cond (nonzero r.weak) r.loss 0

unfoldable pub flagged_sum : List StressLoss → ℕ
flagged_sum block = total (map flagged_loss block)

-- "C is the greatest cover sum"
unfoldable pub cover_of : List ℕ → ℕ
cover_of sheet = highest (map cover_sum (blocks_of (records_of sheet)))

-- "W is the sum of flagged losses in that block, also of members already counted in C."; "W is still by flagged member"
unfoldable pub weak_of : List ℕ → ℕ
weak_of sheet = flagged_sum (earliest_with (cover_of sheet) (blocks_of (records_of sheet)))

abbrev pub covered_of : List ℕ → Covered
covered_of sheet = record { cover = cover_of sheet; weak = weak_of sheet }
