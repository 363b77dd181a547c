use native.Mathlib.Omega.{arith}
use lib.ListN.{length-set}
use Rattle.std.proofs.lemmas.List.{at_drop_more}
use Rattle.lists.specs.Sums.{total}
use Rattle.split.proofs.Laws.{split_turn, share-le_at}
use Rattle.bench_splits.proofs.Turns.{split_done}
use Rattle.bench_splits.proofs.old.split.Goals as goal

pub overflow_sub-left : goal.overflow_sub-left
overflow_sub-left c =
    let l = c.loop-i in
    omega (arith, c.share-part.ensures, share-le_at l.left c.args.weights.now l.i l.rest (omega arith) l.invariant.3)

pub loop-i-preserved : goal.loop-i-preserved
loop-i-preserved c =
    let l = c.loop-i in
    let ws = c.args.weights.now in (
      omega arith,
      simp length-set l.invariant.1,
      omega arith,
      omega (arith, at_drop_more total ws l.i 0 (omega arith)),
      split_turn l.left ws l.shares _ l.i l.rest _ (omega arith) (omega arith) l.invariant.3 c.share-part.ensures l.invariant.4,
    )

pub returns : goal.returns
returns c =
    let l = c.loop-i in
    split_done _ _ _ _ l.i (omega arith) (omega arith) l.invariant.4
