-- `read_pools` meets its contract. The invariant: the pools that are left say what all of them do.
use Rattle.std.proofs.Common.{◌<◌, ◌+◌, ◌^◌, length}
use Rattle.typed_ranks.specs.Pools.{pools_of}
use Rattle.lines.proofs.Pooling.{Reading}
use Rattle.lines.proofs.read_pools.Given as goal

abbrev pub invariant-loop-pool : goal.invariant-loop-pool
invariant-loop-pool l =
    record {
      reading : Reading (pools_of l.initial.words) (pools_of l.words) l.typed;
      countable : 0 < l.typed.pools.count → l.typed.pools.count + length l.words < 2 ^ 64;
    }

abbrev pub decreases-loop-pool : goal.decreases-loop-pool
decreases-loop-pool l = length l.words
