-- What the parts of `pools` promise each other and their callers. No rule of document 01 is here. Nor is one of request 3.
use Rattle.std.specs.Prelude.{ℕ, zero, suc, ◌+◌, ◌-◌, ◌*◌, ◌≤◌, ◌<◌, ◌≡◌, Bool, false, List, [], ◌∷◌, map, length, get_or, drop}
use Rattle.lists.specs.Limits.{member_limit, pool_limit, amount_limit, allocation_limit}
use Rattle.lists.specs.Sums.{total, plus, minus, keep, AtMost}
use Rattle.split.specs.Split.{share_of, split_of}
use Rattle.ranks.specs.Ranks.{charges_of}
use Rattle.figures.specs.declared.Status.{Status}
use Rattle.figures.specs.Figures.{live_in}
use Rattle.admission.specs.Admission.{misranked, pools_misranked}
use Rattle.rooms.specs.Rooms.{gives}
use Rattle.rooms.specs.Parts.{Roomy}
use Rattle.pools.specs.Pools.{charges_up_to}
use Rattle.pools.specs.declared.Division.{Division}

-- the charges that were lent are these, with their total
pub record Charges (these charges : List ℕ) (charged : ℕ) : Type 0 where
  pub charges_are : charges ≡ these
  pub total_is : charged ≡ total charges

-- what one pool is charged with
pub record Chargeable (status : List Status) (contribution ranks : List ℕ) : Type 0 where
  pub ranks_length : length ranks ≡ member_limit
  pub contribution_fits : AtMost contribution amount_limit
  pub well_ranked : misranked (live_in status) ranks ≡ false

-- what several are charged with: their sums, and the ranks of all
pub record Poolable (sums : List ℕ) (status : List Status) (contribution ranks : List ℕ) : Type 0 where
  pub some : 0 < length sums
  pub few : length sums ≤ pool_limit
  pub sums_fit : total sums ≤ allocation_limit
  pub ranks_length : length ranks ≡ member_limit * length sums
  pub contribution_fits : AtMost contribution amount_limit
  pub well_ranked : pools_misranked (live_in status) ranks (length sums) ≡ false

-- what is left of a weight once the first p pools have their portions of it
unfoldable pub undivided : ℕ → List ℕ → ℕ → ℕ
undivided zero sums weight = weight
undivided (suc p) [] weight = weight
undivided (suc p) (s ∷ sums) weight = undivided p sums (weight - share_of weight s (s + total sums))

-- the first p pools are charged
pub record Divided (p : ℕ) (sums : List ℕ) (status : List Status) (contribution ranks : List ℕ) (d : Division) : Type 0 where
  pub left_is : d.left ≡ map (undivided p sums) contribution
  pub rest_is : d.rest ≡ total (drop p sums)
  pub charges_are : d.charges ≡ charges_up_to sums (keep (live_in status) contribution) ranks p
  pub total_is : d.total ≡ total d.charges

-- what the next pool is charged with
pub record Divisible (sum : ℕ) (status : List Status) (ranks : List ℕ) (d : Division) : Type 0 where
  pub sum_fits : sum ≤ d.rest
  pub rest_fits : d.rest ≤ allocation_limit
  pub chargeable : Chargeable status d.left ranks
  pub left_length : length d.left ≡ member_limit
  pub charges_length : length d.charges ≡ member_limit
  pub charges_fit : (k : ℕ) → get_or d.charges k 0 + get_or d.left k 0 ≤ amount_limit
  pub total_is : d.total ≡ total d.charges

-- a turn of the split of every contribution: what the next pool, with `sum`, has of what is left of each
abbrev pub shares : ℕ → ℕ → List ℕ → List ℕ
shares sum rest left = map (λ w. share_of w sum rest) left

-- the next pool is charged: the marked members give of their portions
pub record PoolCharged (sum : ℕ) (others : List Bool) (ranks : List ℕ) (d next : Division) : Type 0 where
  pub left_is : next.left ≡ minus d.left (shares sum d.rest d.left)
  pub rest_is : next.rest ≡ d.rest - sum
  pub charges_are : next.charges ≡ plus d.charges (charges_of sum (keep others (shares sum d.rest d.left)) ranks)
  pub total_is : next.total ≡ total next.charges

-- the pools are charged, and what is left falls on the rooms of the members that are marked
pub record Tiable (whole : ℕ) (contribution : List ℕ) (d : Division) : Type 0 where
  pub whole_fits : whole ≤ allocation_limit
  pub charges_length : length d.charges ≡ member_limit
  pub roomy : Roomy contribution d.charges
  pub total_is : d.total ≡ total d.charges
  pub total_within : d.total ≤ whole

pub record Tied (standing : List ℕ) (whole : ℕ) (d : Division) (charges : List ℕ) (charged : ℕ) : Type 0 where
  pub charges_are : charges ≡ plus d.charges (split_of (gives (whole - d.total) (total standing)) standing)
  pub total_is : charged ≡ total charges
