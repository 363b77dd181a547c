-- What the parts of `ranks` promise each other and their callers. No rule of document 01 is here. At most one rank, the marginal one, is
-- charged in part: those above it are charged whole, and those below it nothing.
use Rattle.std.specs.Prelude.{ℕ, Bool, ◌-◌, ◌≤◌, ◌<◌, ◌≡◌, List, map, ltb, get_or}
use Rattle.lists.specs.Limits.{rank_limit, amount_limit, allocation_limit}
use Rattle.lists.specs.Sums.{total, plus, keep, AtMost}
use Rattle.split.specs.Split.{split_of}
use Rattle.ranks.specs.Ranks.{at_rank, charges_of}
use Rattle.ranks.specs.declared.Margin.{Margin}

-- what each part needs of the weights and the ranks. Rank 0 is none: nobody of it is charged.
pub record Weighed (weights ranks : List ℕ) : Type 0 where
  pub weights_fit : AtMost weights amount_limit
  pub ranks_fit : AtMost ranks rank_limit

-- the answers that a closure may give are those of a test
abbrev pub Answers : (ℕ → Bool → Type 0) → (ℕ → Bool) → Type 0
Answers gives test = (rank : ℕ) (answer : Bool) → gives rank answer → answer ≡ test rank

-- the weights of the ranks that a test chooses, and 0 for the others
abbrev pub chosen_by : (ℕ → Bool) → List ℕ → List ℕ → List ℕ
chosen_by test weights ranks = keep (map test ranks) weights

-- those of the ranks above q
abbrev pub above_rank : ℕ → List ℕ → List ℕ → List ℕ
above_rank q weights ranks = chosen_by (ltb q) weights ranks

-- a table has the total of each rank's weights
pub record Totals (totals weights ranks : List ℕ) : Type 0 where
  pub each : (q : ℕ) → 0 < q → q ≤ rank_limit → get_or totals q 0 ≡ total (at_rank q weights ranks)

-- the ranks above one, `from` at most, have nothing
abbrev pub Passed : List ℕ → ℕ → ℕ → Type 0
Passed totals rank from = (p : ℕ) → rank < p → p ≤ from → get_or totals p 0 ≡ 0

-- the highest rank, `from` at most, whose total is above 0
pub record Next (totals : List ℕ) (from rank : ℕ) : Type 0 where
  pub ranked : 0 < rank
  pub at_most : rank ≤ from
  pub has : 0 < get_or totals rank 0
  pub passed : Passed totals rank from

-- the marginal rank gives `part` of all that it has, `whole`; where it gives nothing, `whole` is not read
pub record Marginal (sum : ℕ) (weights ranks : List ℕ) (margin : Margin) : Type 0 where
  pub charges : plus (above_rank margin.rank weights ranks) (split_of margin.part (at_rank margin.rank weights ranks)) ≡ charges_of sum weights ranks
  pub total_is : margin.total ≡ total (charges_of sum weights ranks)
  pub whole_is : 0 < margin.part → margin.whole ≡ total (at_rank margin.rank weights ranks)
  pub part_fits : margin.part ≤ sum
  pub part_within : margin.part ≤ total (at_rank margin.rank weights ranks)
  pub above_is : margin.total - margin.part ≡ total (above_rank margin.rank weights ranks)
  pub total_least : margin.part ≤ margin.total

-- what the marginal rank gives is shared over its weights
pub record Shared (margin : Margin) (tied : List ℕ) : Type 0 where
  pub part_fits : margin.part ≤ allocation_limit
  pub part_within : margin.part ≤ total tied
  pub whole_is : 0 < margin.part → margin.whole ≡ total tied
