use native.Mathlib.Omega.{arith}
use Rattle.lists.specs.Limits.{amount_limit}
use Rattle.lists.proofs.Sums.{total_bound}
use Rattle.bench_splits.proofs.measured.Goals as goal

pub total-whole-requires : goal.total-whole-requires
total-whole-requires c = omega (arith, total_bound amount_limit c.weights-weights.result c.weights-weights.ensures)

pub sum-sum-requires : goal.sum-sum-requires
sum-sum-requires c = omega (arith, c.total-whole.ensures, total_bound amount_limit c.weights-weights.result c.weights-weights.ensures)
