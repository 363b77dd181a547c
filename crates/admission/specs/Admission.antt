-- Document 01, "When the console says no": refusals 11 to 18, and 21 and 22 of document 02, request 3, on the figures that they read.
use Rattle.std.specs.Prelude.{ℕ, zero, suc, ◌+◌, ◌*◌, ◌≡◌, refl, Bool, true, false, ◌||◌, ◌&&◌, not, eqb, ltb}
use Rattle.std.specs.Prelude.{List, [], ◌∷◌, map, length, get_or, take, drop, replicate, Option, Some, None}
use Rattle.std.specs.List.{list_any, range_with_len}
use Rattle.lists.specs.Checks.{check}
use Rattle.lists.specs.Limits.{member_limit, rank_limit, pool_limit, sum_limit}
use Rattle.lists.specs.Sums.{total}
use Rattle.refusal.specs.declared.Refusal.{Refusal}
use Rattle.figures.specs.declared.Status.{Status}
use Rattle.figures.specs.Figures.{status_at, is_absent, is_in-default, others}
use Rattle.admission.specs.declared.Pools.{Pools}

-- 11. "A call's member is not in the register." 12. "A call's member is in default already." Then the rest.
abbrev pub standing : List Status → ℕ → Option Refusal → Option Refusal
standing status member rest =
    check (is_absent (status_at status member)) (Some Refusal.Unregistered)
    (check (is_in-default (status_at status member)) (Some Refusal.InDefault)
    rest)

-- 14. "Ranks are not 64 bytes, or the default slip has fewer than 128 numbers."
abbrev pub unready : ℕ → ℕ → Bool
unready ranks slip = not (eqb ranks member_limit) || ltb slip (member_limit + member_limit)

-- 15. "A rank that is read is missing or outside 1 to 64.", a limit that document 02, request 2, lowers (`rank_limit`). "Only ranks of live members
-- other than the defaulter are read." The missing rank, 255, is outside too.
unfoldable pub misranked : List Bool → List ℕ → Bool
misranked [] ranks = false
misranked (b ∷ read) [] = false
misranked (b ∷ read) (rank ∷ ranks) = (b && (ltb rank 1 || ltb rank_limit rank)) || misranked read ranks

-- "24 is accepted and 25 refused" (document 02, request 2); a rank that is not read is anything
limit_of-ranks : (misranked (true ∷ true ∷ []) (1 ∷ 24 ∷ []) ≡ false)
    × (map (λ rank. misranked (true ∷ []) (rank ∷ [])) (25 ∷ 64 ∷ 65 ∷ 0 ∷ 255 ∷ []) ≡ replicate 5 true)
    × (misranked (replicate 6 false) (24 ∷ 25 ∷ 64 ∷ 65 ∷ 0 ∷ 255 ∷ []) ≡ false)
unfolding misranked
limit_of-ranks = (refl, refl, refl)

-- a default's with one pool: 11, 12, 13. "A loss is above 25,600,000,000.", 14, 15. `slip` is how many numbers are lent.
abbrev pub admission : List Status → ℕ → ℕ → List ℕ → ℕ → Option Refusal
admission status member loss ranks slip =
    standing status member
    (check (ltb sum_limit loss) (Some Refusal.ExcessiveLoss)
    (check (unready (length ranks) slip) (Some Refusal.Unready)
    (check (misranked (others status member) ranks) (Some Refusal.Misranked)
    None)))

-- several auction pools -------------------------------------------------------

-- the loss of pool p, counted from 0
abbrev pub loss_of : Pools → ℕ → ℕ
loss_of pools p = get_or pools.losses p 0

-- the losses of the pools that a default names: as many as it counts
abbrev pub losses_of : Pools → List ℕ
losses_of pools = map (loss_of pools) (range_with_len 0 pools.count)

-- one pool with this loss
abbrev pub one_pool : ℕ → Pools
one_pool loss = record { count = 1; losses = loss ∷ 0 ∷ 0 ∷ 0 ∷ [] }

-- 64 bytes a pool: the ranks of pool p
abbrev pub pool_ranks : List ℕ → ℕ → List ℕ
pool_ranks ranks p = take member_limit (drop (member_limit * p) ranks)

-- 21. "pool count not 1 to 4"
abbrev pub miscounted : ℕ → Bool
miscounted count = ltb count 1 || ltb pool_limit count

-- 13, "which, like 14 and 15, is tried on each pool"
abbrev pub excessive_losses : List ℕ → Bool
excessive_losses losses = list_any (ltb sum_limit) losses

-- 14 on each pool: 64 ranks for each, in one slice
abbrev pub pools_unready : ℕ → ℕ → ℕ → Bool
pools_unready pools ranks slip = not (eqb ranks (member_limit * pools)) || ltb slip (member_limit + member_limit)

-- 15 on each of the first n pools
unfoldable pub pools_misranked : List Bool → List ℕ → ℕ → Bool
pools_misranked read ranks zero = false
pools_misranked read ranks (suc p) = pools_misranked read ranks p || misranked read (pool_ranks ranks p)

-- 13, and 22. "pool losses together above 25,600,000,000", then the rest
abbrev pub losses_admission : List ℕ → Option Refusal → Option Refusal
losses_admission losses rest =
    check (excessive_losses losses) (Some Refusal.ExcessiveLoss)
    (check (ltb sum_limit (total losses)) (Some Refusal.ExcessiveLosses)
    rest)

-- a default's: 11, 12, 21, 13, 22, 14, 15
abbrev pub pools_admission : List Status → ℕ → Pools → List ℕ → ℕ → Option Refusal
pools_admission status member pools ranks slip =
    standing status member
    (check (miscounted pools.count) (Some Refusal.Miscounted)
    (losses_admission (losses_of pools)
    (check (pools_unready pools.count (length ranks) slip) (Some Refusal.Unready)
    (check (pools_misranked (others status member) ranks pools.count) (Some Refusal.Misranked)
    None))))

-- 16 and 17: an amount is zero or above what it may be at most
abbrev pub unfit : ℕ → ℕ → Bool
unfit amount most = eqb amount 0 || ltb most amount

-- a call's with an amount: 11, 12, and its refusal where the amount is unfit, then the rest
abbrev pub amount_admission : List Status → ℕ → ℕ → ℕ → Refusal → Option Refusal → Option Refusal
amount_admission status member amount most refusal rest =
    standing status member
    (check (unfit amount most) (Some refusal)
    rest)

-- 18. "A close finds an outstanding call."
abbrev pub owing : List ℕ → Bool
owing outstanding = ltb 0 (total outstanding)
