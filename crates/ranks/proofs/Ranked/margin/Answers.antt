use mathlib.Core.Path.{sym, ◌∙◌}
use native.Mathlib.Omega.{arith}
use Rattle.ranks.proofs.Parts.{going_start, going_next, going_turn, going-part, going_done}
use Rattle.ranks.proofs.Ranked.margin.Goals as goal

pub loop-rank-init : goal.loop-rank-init
loop-rank-init c =
    let a = c.args in
    let s = a.self.now in (
      omega arith,
      omega arith,
      going_start a.sum s.weights.now s.ranks.now (s.as_many ∙ sym s.long) s.weighed.ranks_fit,
    )

pub returns-then-left-whole : goal.returns-then-left-whole
returns-then-left-whole c =
    let s = c.args.self.now in
    let n = c.in-Some.ensures in
    let t = c.totals-totals in
    going-part c.args.sum s.weights.now s.ranks.now (s.as_many ∙ sym s.long) c.in-Some.rank c.loop-rank.left _ n.ranked (rw c.from.ensures (t.ensures.each c.in-Some.rank n.ranked (omega (arith, n.at_most)))) c.if-left-whole.true
    (going_next c.args.sum s.weights.now s.ranks.now t.result c.loop-rank.from c.in-Some.rank c.loop-rank.left (omega arith) n.at_most t.ensures n.passed c.loop-rank.invariant.2)

pub loop-rank-preserved : goal.loop-rank-preserved
loop-rank-preserved c =
    let s = c.args.self.now in
    let n = c.in-Some.ensures in
    let t = c.totals-totals in (
      omega (arith, n.at_most),
      omega arith,
      going_turn c.args.sum s.weights.now s.ranks.now c.in-Some.rank c.loop-rank.left _ n.ranked (rw c.from.ensures (t.ensures.each c.in-Some.rank n.ranked (omega (arith, n.at_most)))) (omega arith)
          (going_next c.args.sum s.weights.now s.ranks.now t.result c.loop-rank.from c.in-Some.rank c.loop-rank.left (omega arith) n.at_most t.ensures n.passed c.loop-rank.invariant.2),
    )

pub returns : goal.returns
returns c =
    let s = c.args.self.now in
    going_done c.args.sum s.weights.now s.ranks.now (s.as_many ∙ sym s.long) c.loop-rank.left
    (going_next c.args.sum s.weights.now s.ranks.now c.totals-totals.result c.loop-rank.from 0 c.loop-rank.left (omega arith) (omega arith) c.totals-totals.ensures c.in_default.ensures c.loop-rank.invariant.2)
