-- `waterfall::Register::raise_contribution` meets its contract.
use Prim.Native.Nat.{ℕ, ◌+◌, ◌-◌, ◌≤◌}
use mathlib.Core.Path.{◌≡◌, sym, ◌∙◌}
use mathlib.Core.Bool.{◌||◌}
use native.Mathlib.Omega.{arith}
use lib.Dec.{eqb, ltb}
use Rattle.std.specs.Prelude.{Result, Some, None}
use Rattle.std.proofs.lemmas.Result.{err_from_is_err_and}
use Rattle.lists.specs.Limits.{amount_limit}
use Rattle.lists.specs.Checks.{check}
use Rattle.lists.proofs.Tests.{room_test}
use Rattle.figures.specs.Figures.{figure}
use Rattle.figures.proofs.Figures.{figure-le, figure_bound}
use Rattle.admission.specs.Admission.{standing, unfit}
use Rattle.refusal.specs.Refusal.{answered}
use Rattle.refusal.specs.declared.Refusal.{Refusal}
use Rattle.waterfall.specs.Register.{Register, GivenBack}
use Rattle.waterfall.specs.Inside.{seen}
use Rattle.waterfall.specs.Calls.{replenished_of, replenishment_refusal, replenishment_of}
use Rattle.waterfall.proofs.Answer.{Fit, fit, is_refused, is_passed, refused_call, accepted_call, within_bound}
use Rattle.waterfall.proofs.Given.{given-replenished}
use Rattle.waterfall.proofs.Register.raise_contribution.Goals.{In_ok-amount_admission}
use Rattle.waterfall.proofs.Register.raise_contribution.Goals as goal

-- the refusal that is found at the room is the one at the requirement
found : (r : Register) (member amount held most : ℕ) {answer : Result (Unit {0}) Refusal} → GivenBack r → held ≡ figure r.contribution member
    → most ≡ figure r.requirement member
    → answer ≡ answered (standing r.status member (check (unfit amount (most - held)) (Some Refusal.UnfitReplenishment) None)) (tt {0})
    → answer ≡ answered (replenishment_refusal r member amount) (tt {0})
unfolding replenishment_refusal
found r member amount held most g e f h =
    rw (room_test held most (figure r.contribution member) (figure r.requirement member) amount e f (figure-le _ _ g.contribution_fits member)) at h

pub returns-in_err-amount_admission : goal.returns-in_err-amount_admission
unfolding replenishment_of
returns-in_err-amount_admission c =
    let a = c.args in
    let e = err_from_is_err_and c.from_residual.result c.from_residual.ensures.1 in
    let f = found (seen c.self.inside) a.member a.amount _ _ c.self.invariant c.figure_of-standing.ensures c.figure_of.ensures c.amount_admission.ensures in
    let refusal : replenishment_refusal a.self.now a.member a.amount ≡ Some e.0 = rw (← c.self.view_is)
    (is_refused _ (sym f ∙ rw e.2 c.in_err-amount_admission.was)) in
    let call = refused_call a.self.now (replenished_of a.self.now a.member a.amount) refusal in
    rw e.1 (record { answer = call.0; register_after = call.1 })

-- past the refusals
module _ (c : In_ok-amount_admission) where
  unrefused : replenishment_refusal (seen c.self.inside) c.args.member c.args.amount ≡ None
  unrefused =
      let f = found (seen c.self.inside) c.args.member c.args.amount _ _ c.self.invariant c.figure_of-standing.ensures c.figure_of.ensures
      c.amount_admission.ensures in
      is_passed _ (sym f ∙ c.in_ok-amount_admission.was)

  fits : Fit c.args.member (eqb c.args.amount 0 || ltb (figure c.self.inside.requirement c.args.member)
      (figure c.self.inside.contribution c.args.member + c.args.amount))
  unfolding replenishment_refusal
  fits = fit _ c.args.member Refusal.UnfitReplenishment _ c.self.invariant unrefused

  within : figure c.self.inside.contribution c.args.member + c.args.amount ≤ figure c.self.inside.requirement c.args.member
  within = within_bound c.args.amount _ _ fits.fits

  -- the raised contribution is an amount
  raised : c.figure_of-standing.result + c.args.amount ≤ amount_limit
  raised = omega (
    arith,
    c.figure_of-standing.ensures,
    within,
    figure_bound c.self.inside.requirement amount_limit c.self.invariant.requirement_fits
        c.args.member,
  )

pub overflow_add-standing : goal.overflow_add-standing
overflow_add-standing c = omega (arith, raised (goal.at.overflow_add-standing c).In_ok-amount_admission)

pub replace-requires : goal.replace-requires
replace-requires c =
    let s = (goal.at.replace-requires c).In_ok-amount_admission in
    ((fits s).least, (fits s).most, raised s)

pub invariant_of-self : goal.invariant_of-self
unfolding replenished_of
invariant_of-self c =
    rw (c.replace.ensures, c.figure_of-standing.ensures)
    (given-replenished _ c.self.invariant c.args.member c.args.amount (within (goal.at.invariant_of-self c).In_ok-amount_admission))

pub returns : goal.returns
unfolding replenishment_of replenished_of
returns c =
    let r = seen c.self.inside in
    let call = accepted_call r (replenished_of r c.args.member c.args.amount) (unrefused (goal.at.returns c).In_ok-amount_admission) in
    rw (c.replace.ensures, c.figure_of-standing.ensures, ← c.self.view_is) (record { answer = call.0; register_after = call.1 })
