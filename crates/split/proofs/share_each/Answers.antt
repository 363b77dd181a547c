use Prim.Native.Nat.{◌+◌, ◌<◌}
use mathlib.Core.Path.{◌≡◌}
use native.Mathlib.Omega.{arith}
use lib.ListN.{get_or, drop}
use lib.Seq.{drop-set-lt}
use Rattle.std.proofs.lemmas.List.{length-set, at_drop_more}
use Rattle.lists.specs.Sums.{total}
use Rattle.split.proofs.Laws.{split_turn, pass_turn, last_turn, share-le_at, share-lt_left}
use Rattle.split.proofs.share_each.Goals.{then-weight-gt0, else-weight-gt0}
use Rattle.split.proofs.share_each.Goals as goal

-- the only weight left takes what is left
pub returns-then-weight-rest : goal.returns-then-weight-rest
returns-then-weight-rest c =
    let l = c.loop-i in
    last_turn l.left c.args.weights.now l.shares _ l.i (omega arith) l.invariant.0 (omega (arith, c.if-weight-rest.true)) (omega (arith, c.if-weight-rest.true))
    (omega (arith, l.invariant.5, at_drop_more total l.shares l.i 0 (omega arith))) l.invariant.6

pub overflow_sub-left : goal.overflow_sub-left
overflow_sub-left c =
    let l = c.loop-i in
    omega (arith, c.share-part.ensures, share-le_at l.left c.args.weights.now l.i l.rest (omega arith) l.invariant.2)

-- a weight above 0 takes its share, and a weight of 0 is passed
pub loop-i-preserved : goal.loop-i-preserved
loop-i-preserved c =
    let l = c.loop-i in
    let ws = c.args.weights.now in
    let w = get_or ws l.i 0 in
    let weights : total (drop l.i ws) ≡ w + total (drop (l.i + 1) ws) = at_drop_more total ws l.i 0 (omega arith) in
    let behind : total (drop l.i l.shares) ≡ get_or l.shares l.i 0 + total (drop (l.i + 1) l.shares) = at_drop_more total l.shares l.i 0 (omega arith) in
    let less : w < l.rest = omega (arith, c.if-weight-rest.false, weights) in
    elim c.if-weight-gt0.branch [
      | then-weight-gt0 b ↦
          let part = b.share-part.ensures in
          rw (b.shares-is, b.left-is) (
            simp length-set l.invariant.0,
            omega arith,
            omega (arith, weights),
            omega (arith, part, share-lt_left l.left w l.rest l.invariant.3 less),
            omega arith,
            rw (drop-set-lt (l.i + 1) l.shares l.i _ (omega arith)) (omega (arith, behind, l.invariant.5)),
            split_turn l.left ws l.shares _ l.i l.rest _ (omega arith) (omega arith) l.invariant.2 part l.invariant.6,
          )
      | else-weight-gt0 b ↦
          rw (b.shares-is, b.left-is) (
            l.invariant.0,
            omega arith,
            omega (arith, weights),
            omega arith,
            omega arith,
            omega (arith, behind, l.invariant.5),
            pass_turn l.left ws l.shares _ l.i l.rest (omega arith) (omega arith) l.invariant.2 (omega (arith, b.if-weight-gt0.false)) (omega (arith, behind, l.invariant.5)) l.invariant.6,
          )
    ]
