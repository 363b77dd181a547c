-- What the parts of `layers` promise each other and their callers. No rule of document 01 is here.
use Rattle.std.specs.Prelude.{ℕ, ◌+◌, ◌-◌, ◌*◌, ◌≤◌, ◌<◌, ◌≡◌, Bool, false, List, length}
use Rattle.lists.specs.Limits.{member_limit, pool_limit, amount_limit, allocation_limit}
use Rattle.lists.specs.Sums.{total, keep, AtMost}
use Rattle.figures.specs.declared.Status.{Status}
use Rattle.figures.specs.Figures.{live_in, figure, replace}
use Rattle.admission.specs.Admission.{losses_of, excessive_losses, pools_misranked}
use Rattle.admission.specs.declared.Pools.{Pools}
use Rattle.rooms.specs.Parts.{Roomy, Leaves, Shares}
use Rattle.pools.specs.Pools.{sums_of, charges_by_pools}
use Rattle.layers.specs.declared.Estate.{Estate}
use Rattle.layers.specs.declared.Placed.{Placed}

-- what layer 4 is asked with
pub record Pooled (pools : Pools) (status : List Status) (contribution ranks : List ℕ) : Type 0 where
  pub some : 0 < pools.count
  pub few : pools.count ≤ pool_limit
  pub each_fits : excessive_losses (losses_of pools) ≡ false
  pub ranks_length : length ranks ≡ member_limit * pools.count
  pub contribution_fits : AtMost contribution amount_limit
  pub well_ranked : pools_misranked (live_in status) ranks pools.count ≡ false

-- what a default is placed with that 11 to 15, 21 and 22 do not refuse
pub record Allocatable (status : List Status) (contributions outstanding cap called : List ℕ) (member : ℕ) (pools : Pools) (ranks : List ℕ) : Type 0 where
  pub member_least : 0 < member
  pub member_most : member ≤ member_limit
  pub sum_fits : total (losses_of pools) + figure outstanding member ≤ allocation_limit
  pub pooled : Pooled pools (replace status member Status.InDefault) contributions ranks
  pub roomy : Roomy cap called

-- what a member leaves, by the lists of a register
abbrev pub estate_of : List ℕ → List ℕ → List ℕ → ℕ → Estate
estate_of outstanding margin contribution member =
    record {
      fallen = figure outstanding member;
      margin = figure margin member;
      contribution = figure contribution member;
    }

-- losses and a fallen call go down the six layers; `left1` to `left5` are what is left after each
pub record GoesDown (losses : List ℕ) (estate : Estate) (tranche1 tranche2 : ℕ) (others : List Bool) (contributions rooms ranks : List ℕ)
    (placed : Placed) : Type 0 where
  pub left1 : ℕ
  pub left2 : ℕ
  pub left3 : ℕ
  pub left5 : ℕ
  pub fallen_is : placed.allocation.fallen ≡ estate.fallen
  pub layer1 : Leaves (total losses + estate.fallen) estate.margin placed.allocation.margin left1
  pub layer2 : Leaves left1 estate.contribution placed.allocation.contribution left2
  pub layer3 : Leaves left2 tranche1 placed.allocation.tranche1 left3
  pub charges_are : let a = placed.allocation in
      placed.charges ≡ charges_by_pools (sums_of (a.margin + a.contribution + a.tranche1) estate.fallen losses) (keep others contributions) ranks
  pub members_are : placed.allocation.members ≡ total placed.charges
  pub layer5 : Leaves (left3 - placed.allocation.members) tranche2 placed.allocation.tranche2 left5
  pub layer6 : Shares rooms left5 placed.called placed.allocation.calls placed.allocation.short
