-- `ranks::next_rank` meets its contract. The loop's invariant: the ranks above `rank`, `from` at most, have nothing.
use Prim.Native.Nat.{◌≤◌}
use Rattle.ranks.specs.Parts.{Passed}
use Rattle.ranks.proofs.next_rank.Given as goal

abbrev pub invariant-loop-rank : goal.invariant-loop-rank
invariant-loop-rank l = (l.rank ≤ l.from) × Passed l.totals l.rank l.from

abbrev pub decreases-loop-rank : goal.decreases-loop-rank
decreases-loop-rank l = l.rank
