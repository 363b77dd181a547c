-- `old::split` meets its contract. The loop's invariant: the shares so far, with the split of what is left over the weights that are left
-- behind them, are the split of the whole.
use Prim.Native.Nat.{◌≤◌}
use mathlib.Core.Path.{◌≡◌}
use mathlib.Core.List.{◌++◌}
use lib.ListN.{length, take, drop}
use Rattle.lists.specs.Sums.{total}
use Rattle.split.specs.Split.{split_of}
use Rattle.bench_splits.proofs.old.split.Given as goal

abbrev pub invariant-loop-i : goal.invariant-loop-i
invariant-loop-i l =
    (l.i ≤ length l.weights) × (length l.shares ≡ length l.weights) × (l.left ≤ l.sum) × (l.rest ≡ total (drop l.i l.weights))
    × (take l.i l.shares ++ split_of l.left (drop l.i l.weights) ≡ split_of l.sum l.weights)
