use Prim.Native.Nat.{◌≤◌}
use Rattle.lists.specs.Limits.{amount_limit}
use Rattle.lists.proofs.Places.{set_all}
use Rattle.lists.proofs.Sums.{zeros_within}
use Rattle.bench_splits.proofs.weights.Goals as goal

pub loop-place-init : goal.loop-place-init
loop-place-init c = zeros_within amount_limit 64

pub loop-place-preserved : goal.loop-place-preserved
loop-place-preserved c = set_all (λ k w. w ≤ amount_limit) c.loop-place.weights c.loop-place.place _ c.loop-place.invariant c.weight.ensures
