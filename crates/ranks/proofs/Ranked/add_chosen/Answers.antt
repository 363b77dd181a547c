use Prim.Native.Nat.{◌+◌}
use mathlib.Core.Path.{◌≡◌, refl, ◌∙◌}
use Rattle.std.proofs.Common.{◌≢◌}
use mathlib.Core.Bool.{cond}
use native.Mathlib.Omega.{arith}
use lib.ListN.{get_or, length-set}
use lib.Seq.{get_or-set_other}
use Rattle.lists.specs.Sums.{plus}
use Rattle.ranks.specs.Parts.{chosen_by}
use Rattle.lists.proofs.Fill.{add_turn, add_done}
use Rattle.ranks.proofs.Ranked.add_chosen.Goals.{then-chosen, else-chosen}
use Rattle.ranks.proofs.Ranked.add_chosen.Goals as goal

pub loop-i-preserved : goal.loop-i-preserved
loop-i-preserved g c =
    let l = c.loop-i in
    let s = c.args.self.now in (
      l.invariant.0,
      simp length-set l.invariant.1,
      (λ k h. let e : k ≢ l.i = omega arith in rw get_or-set_other (l.invariant.2 k (omega arith))),
      (λ test h.
          let x : c.if-chosen.charges ≡ cond (test (get_or s.ranks.now l.i 0)) (get_or s.weights.now l.i 0) 0 =
          rw (← h _ _ c.chosen.ensures)
          (elim c.if-chosen.branch [ then-chosen w ↦ rw w.if-chosen.true (w.charges-is ∙ c.from-weight.ensures) | else-chosen w ↦ rw w.if-chosen.false w.charges-is ]) in
          add_turn test s.ranks.now s.weights.now l.charges (plus (chosen_by test s.weights.now s.ranks.now) c.args.charges.now) l.i c.if-chosen.charges (get_or l.charges l.i 0 + c.if-chosen.charges) (omega (arith, s.as_many)) (omega (arith, s.long)) (omega arith) x refl (l.invariant.3 test h)),
    )

pub returns : goal.returns
returns g c test h =
    let l = c.loop-i in
    let s = c.args.self.now in
    add_done test s.ranks.now s.weights.now l.charges (plus (chosen_by test s.weights.now s.ranks.now) c.args.charges.now) l.i (omega (arith, s.as_many)) (omega arith) (l.invariant.3 test h)
