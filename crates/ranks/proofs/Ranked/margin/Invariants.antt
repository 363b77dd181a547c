-- `ranks::Ranked::margin` meets its contract. The loop's invariant: the ranks above `from` are charged whole, and `left` is what is left.
use Prim.Native.Nat.{◌≤◌}
use Rattle.lists.specs.Limits.{rank_limit}
use Rattle.ranks.proofs.Parts.{Going}
use Rattle.ranks.proofs.Ranked.margin.Given as goal

abbrev pub invariant-loop-rank : goal.invariant-loop-rank
invariant-loop-rank l = (l.from ≤ rank_limit) × (l.left ≤ l.sum) × Going l.sum l.self.weights.now l.self.ranks.now l.from l.left

abbrev pub decreases-loop-rank : goal.decreases-loop-rank
decreases-loop-rank l = l.from
