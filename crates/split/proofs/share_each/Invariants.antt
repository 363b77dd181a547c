-- `split::share_each` meets its contract. The loop's invariant: the shares so far, with the split of what is left over the weights that are left
-- behind them, are the split of the whole; something is left of both, and the shares behind are still 0.
use Prim.Native.Nat.{◌≤◌, ◌<◌}
use mathlib.Core.Path.{◌≡◌}
use mathlib.Core.List.{◌++◌}
use lib.ListN.{length, take, drop}
use Rattle.lists.specs.Sums.{total}
use Rattle.split.specs.Split.{split_of}
use Rattle.split.proofs.share_each.Given as goal

abbrev pub invariant-loop-i : goal.invariant-loop-i
invariant-loop-i l =
    (length l.shares ≡ length l.weights) × (l.left ≤ l.sum) × (l.rest ≡ total (drop l.i l.weights)) × (0 < l.left) × (0 < l.rest) × (total (drop l.i l.shares) ≡ 0)
    × (take l.i l.shares ++ split_of l.left (drop l.i l.weights) ≡ split_of l.sum l.weights)
