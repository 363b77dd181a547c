use Rattle.std.proofs.Common.{arith}
use Rattle.cover.proofs.Blocks.{flagged_now, joined_alone, joined_group}
use Rattle.cover.proofs.joined.Goals as goal

pub returns-then-group-eq0-clause-joined : goal.returns-then-group-eq0-clause-joined
returns-then-group-eq0-clause-joined c xs x kept l g w =
    let flagged = flagged_now x _ _ _ l w c.flagged_loss.ensures in
    rw c.placed.ensures (joined_alone _ _ xs x _ kept (omega (arith, flagged)) (omega arith) _ (omega arith))

pub returns-clause-joined : goal.returns-clause-joined
returns-clause-joined c xs x kept l g w =
    let flagged = flagged_now x _ _ _ l w c.flagged_loss.ensures in
    rw c.grown.ensures (joined_group _ _ xs x _ kept (omega (arith, flagged)) _ (omega arith) (omega arith) _ _ (omega arith) (omega arith))
