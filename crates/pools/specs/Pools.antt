-- Document 02, request 3, "Several auction pools in one default": layer 4 by pools. Any number of pools, counted from 0 here; `weights` are the
-- other live members' contributions, 0 for everyone else.
use Rattle.std.specs.Prelude.{ℕ, zero, suc, ◌+◌, ◌-◌, List, [], ◌∷◌, map, ltb, length, get_or, set, replicate, unwrap_or}
use Rattle.std.specs.List.{position}
use Rattle.lists.specs.Sums.{total, plus, minus}
use Rattle.split.specs.Split.{split_of}
use Rattle.ranks.specs.Ranks.{charges_of}
use Rattle.admission.specs.Admission.{pool_ranks}
use Rattle.rooms.specs.Rooms.{gives}

-- the sums of the pools ----------------------------------------------------------

-- "Layers 1 to 3 meet the fallen call first, then the pools in order.": what is left of each loss, where `given` of
-- what they give comes to the pools
unfoldable pub losses_after : ℕ → List ℕ → List ℕ
losses_after given [] = []
losses_after given (loss ∷ losses) = (loss - given) ∷ losses_after (given - loss) losses

-- "the first pool with loss left, or pool 1 if none has"
unfoldable pub joined_pool : List ℕ → ℕ
joined_pool lefts = unwrap_or (position (ltb 0) lefts) 0

-- "Any fallen call left joins" that pool
abbrev pub joined : ℕ → List ℕ → List ℕ
joined fallen lefts = set lefts (joined_pool lefts) (get_or lefts (joined_pool lefts) 0 + fallen)

-- what each pool has to place, its sum, where layers 1 to 3 give `given`
unfoldable pub sums_of : ℕ → ℕ → List ℕ → List ℕ
sums_of given fallen losses = joined (fallen - given) (losses_after (given - fallen) losses)

-- the charges of the pools ---------------------------------------------------------

-- "Each other live member's contribution is divided among the pools by the split over these sums, lowest pool first.": what pool p has of each
abbrev pub portion_of : List ℕ → ℕ → ℕ → ℕ
portion_of sums p weight = get_or (split_of weight sums) p 0

abbrev pub portions_of : List ℕ → List ℕ → ℕ → List ℕ
portions_of sums weights p = map (portion_of sums p) weights

module _ (sums weights ranks : List ℕ) where
  -- "Each pool charges only its portions, by its own ranks, equal ranks by the split over those portions."
  unfoldable pub charges_in : ℕ → List ℕ
  charges_in p = charges_of (get_or sums p 0) (portions_of sums weights p) (pool_ranks ranks p)

  -- the first n pools' charges together
  unfoldable pub charges_up_to : ℕ → List ℕ
  charges_up_to zero = replicate (length weights) 0
  charges_up_to (suc p) = plus (charges_up_to p) (charges_in p)

  unfoldable pub charges_together : List ℕ
  charges_together = charges_up_to (length sums)

  -- "What the pools cannot meet falls in one sum, after the last pool, on all contributions still standing as one tie."
  unfoldable pub unmet : ℕ
  unmet = total sums - total charges_together

  unfoldable pub still_standing : List ℕ
  still_standing = minus weights charges_together

  unfoldable pub tied : List ℕ
  tied = split_of (gives unmet (total still_standing)) still_standing

  -- layer 4: the pools' charges and the tie's together
  unfoldable pub charges_by_pools : List ℕ
  charges_by_pools = plus charges_together tied
