-- `pools::meet` meets its contract. The loop's invariant: the losses so far are met.
use Rattle.pools.proofs.Sums.{Met}
use Rattle.pools.proofs.meet.Given as goal

abbrev pub invariant-loop-loss : goal.invariant-loop-loss
invariant-loop-loss l = Met l.fn.given l.initial.losses l.given l.losses l.loss-index
