-- What the parts of `lines` promise each other. No rule of document 01 is here.
use Rattle.std.specs.Prelude.{ℕ, ◌+◌, ◌^◌, ◌<◌, ◌≡◌, List, length, set}
use Rattle.typed_ranks.specs.Pools.{to_slash, further_pools, pools_from}
use Rattle.lines.specs.Defaults.{loss_typed, ranks_of_pool, pools_in, ranks_beside}
use Rattle.lines.specs.declared.Pool.{Pool}
use Rattle.lines.specs.declared.Typed.{Typed}

-- what is known of a pool that can be used, the first of the pools that the words `all` say, where the words `left` are left
pub record PoolRead (all : List (List ℕ)) (pool : Pool) (left : List (List ℕ)) : Type 0 where
  pub loss : pool.loss ≡ loss_typed (to_slash all)
  pub ranks : pool.ranks ≡ ranks_of_pool (to_slash all)
  pub further : further_pools all ≡ pools_from pool.more left
  pub fewer : length left < length all
  pub countable : length all < 2 ^ 64

-- one pool more, in its own place; behind the fourth there is none
abbrev pub added : Typed → ℕ → List ℕ → Typed
added typed loss ranks =
    record {
      pools = record { count = typed.pools.count + 1; losses = set typed.pools.losses typed.pools.count loss };
      ranks = set typed.ranks typed.pools.count ranks;
    }

-- all the pools, and the ranks of the first four
abbrev pub typed_in : List (List (List ℕ)) → Typed
typed_in pools = record { pools = pools_in pools; ranks = ranks_beside pools }
