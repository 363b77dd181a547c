use Rattle.lists.specs.Limits.{amount_limit}
use Rattle.lists.specs.Sums.{AtMost}
use Rattle.bench_splits.proofs.weights.Given as goal

abbrev pub invariant-loop-place : goal.invariant-loop-place
invariant-loop-place l = AtMost l.weights amount_limit
