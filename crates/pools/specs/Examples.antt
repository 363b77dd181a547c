-- Values of the definitions of several pools, computed.
use Rattle.std.specs.Prelude.{ℕ, ◌≡◌, refl, List, [], ◌∷◌, ◌++◌, replicate}
use Rattle.split.specs.Split.{share_of, split_of}
use Rattle.ranks.specs.Ranks.{charges_from, charges_of}
use Rattle.pools.specs.Pools.{losses_after, joined_pool, sums_of, portions_of, charges_in, charges_up_to, charges_together}
use Rattle.pools.specs.Pools.{unmet, still_standing, tied, charges_by_pools}

-- layers 1 to 3 give 6: the fallen call of 5 is met, and 1 of the first loss; they give 2: the 3 that are left of the fallen call join pool 1, pool 2
-- where pool 1 has no loss, and pool 1 where none has
pub sums : (sums_of 6 5 (4 ∷ 3 ∷ []) ≡ 3 ∷ 3 ∷ [])
    × (sums_of 10 5 (4 ∷ 3 ∷ []) ≡ 0 ∷ 2 ∷ [])
    × (sums_of 2 5 (4 ∷ 3 ∷ []) ≡ 7 ∷ 3 ∷ [])
    × (sums_of 2 5 (0 ∷ 4 ∷ 3 ∷ []) ≡ 0 ∷ 7 ∷ 3 ∷ [])
    × (sums_of 2 5 (0 ∷ 0 ∷ []) ≡ 3 ∷ 0 ∷ [])
unfolding sums_of losses_after joined_pool
sums = (refl, refl, refl, refl, refl)

-- contributions of 5 and 7 over sums of 1 and 2, and over no sum at all
pub portions : (portions_of (1 ∷ 2 ∷ []) (5 ∷ 7 ∷ []) 0 ≡ 1 ∷ 2 ∷ [])
    × (portions_of (1 ∷ 2 ∷ []) (5 ∷ 7 ∷ []) 1 ≡ 4 ∷ 5 ∷ [])
    × (portions_of (0 ∷ 0 ∷ []) (5 ∷ 7 ∷ []) 1 ≡ 0 ∷ 0 ∷ [])
unfolding split_of share_of
portions = (refl, refl, refl)

-- two pools, in which both members have rank 1
unfoldable pub ones : List ℕ
ones = (1 ∷ 1 ∷ replicate 62 0) ++ (1 ∷ 1 ∷ replicate 62 0)

-- sums of 3 and 3 over contributions of 3 and 3: pool 1 has portions of 1 and 1 only, pool 2 charges 1 and 2 of 2 and 2; the 1 that they could not meet
-- falls on what still stands, 1 and 0
pub last_tie : (charges_together (3 ∷ 3 ∷ []) (3 ∷ 3 ∷ []) ones ≡ 2 ∷ 3 ∷ [])
    × (tied (3 ∷ 3 ∷ []) (3 ∷ 3 ∷ []) ones ≡ 1 ∷ 0 ∷ [])
    × (charges_by_pools (3 ∷ 3 ∷ []) (3 ∷ 3 ∷ []) ones ≡ 3 ∷ 3 ∷ [])
unfolding ones charges_by_pools tied still_standing unmet charges_together charges_up_to charges_in charges_of charges_from split_of share_of
last_tie = (refl, refl, refl)

-- two pools; in pool 1 the first of three members is the most junior, in pool 2 all have rank 1
unfoldable pub unlike : List ℕ
unlike = (2 ∷ 1 ∷ 1 ∷ replicate 61 0) ++ (1 ∷ 1 ∷ 1 ∷ replicate 61 0)

-- sums of 4 and 4 over contributions of 3, 3 and 3: pool 1 meets 3 and pool 2 all of its 4, so that 1, 1 and 0 still stand. The tie goes by no rank: the
-- split of the 1 that is left gives the most junior member of pool 1 nothing of it.
pub tie_by_no-rank : (still_standing (4 ∷ 4 ∷ []) (3 ∷ 3 ∷ 3 ∷ []) unlike ≡ 1 ∷ 1 ∷ 0 ∷ [])
    × (tied (4 ∷ 4 ∷ []) (3 ∷ 3 ∷ 3 ∷ []) unlike ≡ 0 ∷ 1 ∷ 0 ∷ [])
unfolding unlike tied still_standing unmet charges_together charges_up_to charges_in charges_of charges_from split_of share_of
tie_by_no-rank = (refl, refl)
