-- run_drill: what `default M LOSS M:R .. / LOSS M:R .. / ..` says behind its first word.
use Rattle.std.specs.Prelude.{ℕ, min, Bool, true, ◌&&◌, List, [], ◌∷◌, length, get_or, take, map, replicate, Option, Some, None}
use Rattle.std.specs.Option.{is_some, unwrap_or}
use Rattle.std.specs.List.{flat_map}
use Rattle.lists.specs.Limits.{pool_limit}
use Rattle.lists.specs.Checks.{check}
use Rattle.numbers.specs.Numbers.{read_of}
use Rattle.typed_ranks.specs.TypedRanks.{missing_ranks, unnamed, all_good, ranks_in}
use Rattle.typed_ranks.specs.Pools.{pools_of}
use Rattle.admission.specs.declared.Pools.{Pools}
use Rattle.drill.specs.declared.DrillCall.{DrillCall}

-- the first word as a number, and the words behind it; a word that is not there is no number
abbrev pub number_in : List (List ℕ) → Option ℕ
number_in [] = None
number_in (w ∷ ws) = read_of w

abbrev pub behind : List (List ℕ) → List (List ℕ)
behind [] = []
behind (w ∷ ws) = ws

-- a pool is "its own loss and ranks": "a pool without a loss, or two ranks for one member in one pool, make the line unreadable", and so does
-- "something that is no number"
abbrev pub is_readable : List (List ℕ) → Bool
is_readable pool = is_some (number_in pool) && all_good unnamed (behind pool)

abbrev pub all_readable : List (List (List ℕ)) → Bool
all_readable [] = true
all_readable (pool ∷ pools) = is_readable pool && all_readable pools

abbrev pub loss_typed : List (List ℕ) → ℕ
loss_typed pool = unwrap_or (number_in pool) 0

abbrev pub ranks_of_pool : List (List ℕ) → List ℕ
ranks_of_pool pool = ranks_in missing_ranks (behind pool)

-- the first four of a list, and `otherwise` where it has fewer
abbrev pub first_four : {X : Type 0} → X → List X → List X
first_four otherwise xs =
    get_or xs 0 otherwise ∷ get_or xs 1 otherwise ∷ get_or xs 2 otherwise ∷ get_or xs 3 otherwise ∷ []

-- how many pools there are, and the losses of the first four, 0 where there is none: "A fifth pool and more are readable"
abbrev pub pools_in : List (List (List ℕ)) → Pools
pools_in pools = record { count = length pools; losses = first_four 0 (map loss_typed pools) }

-- the ranks of the first four pools, 64 for each; where there are fewer pools the others' are missing
abbrev pub ranks_beside : List (List (List ℕ)) → List (List ℕ)
ranks_beside pools = first_four missing_ranks (map ranks_of_pool pools)

-- the ranks of four pools where none is given
abbrev pub no_ranks : List (List ℕ)
no_ranks = replicate pool_limit missing_ranks

-- the call and the ranks beside it, by the member and the pools
abbrev pub default_typed : Option ℕ → List (List (List ℕ)) → Option DrillCall
default_typed (Some member) pools = check (all_readable pools) (Some (DrillCall.Default member (pools_in pools))) None
default_typed None pools = None

abbrev pub ranks_typed : Option ℕ → List (List (List ℕ)) → List (List ℕ)
ranks_typed (Some member) pools = check (all_readable pools) (ranks_beside pools) no_ranks
ranks_typed None pools = no_ranks

-- the member's word, and those of the pools behind it
unfoldable pub default_line : List (List ℕ) → Option DrillCall
default_line ws = default_typed (number_in ws) (pools_of (behind ws))

unfoldable pub default_ranks : List (List ℕ) → List (List ℕ)
default_ranks ws = ranks_typed (number_in ws) (pools_of (behind ws))

-- those of the ranks that go with a call, one pool's behind the other's: 64 for each pool, of four pools at most; the other calls read none
abbrev pub handed_of : DrillCall → List (List ℕ) → List ℕ
handed_of (DrillCall.Default member pools) ranks = flat_map (λ of_pool. of_pool) (take (min pools.count pool_limit) ranks)
handed_of (DrillCall.Payment member amount) ranks = []
handed_of (DrillCall.Replenishment member amount) ranks = []
handed_of DrillCall.Close ranks = []
