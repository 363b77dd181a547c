use native.Mathlib.Omega.{arith}
use Rattle.pools.proofs.Sums.{met_turn, met_done}
use Rattle.pools.proofs.meet.Goals as goal

pub loop-loss-preserved : goal.loop-loss-preserved
loop-loss-preserved c =
    let l = c.loop-loss in
    met_turn _ _ l.given l.losses l.loss-index _ (omega arith) c.min-met.ensures l.invariant

pub returns : goal.returns
returns c =
    let l = c.loop-loss in
    met_done _ _ l.given l.losses l.loss-index (omega arith) l.invariant
