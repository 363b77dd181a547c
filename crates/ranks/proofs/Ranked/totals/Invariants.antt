-- `ranks::Ranked::totals` meets its contract. The loop's invariant: each rank's total so far, with the weights of that rank that are left, is
-- its total.
use Prim.Native.Nat.{◌+◌}
use mathlib.Core.Path.{◌≡◌}
use lib.ListN.{length}
use Rattle.lists.specs.Limits.{rank_limit}
use Rattle.ranks.proofs.Parts.{Adding}
use Rattle.ranks.proofs.Ranked.totals.Given as goal

abbrev pub invariant-loop-weight : goal.invariant-loop-weight
invariant-loop-weight l = (length l.totals ≡ rank_limit + 1) × Adding l.totals l.self.weights.now l.self.ranks.now (length l.yielded)
