-- `waterfall::Register::lower_outstanding` meets its contract.
use mathlib.Core.Path.{◌≡◌, sym, ◌∙◌}
use native.Mathlib.Omega.{arith}
use Rattle.std.specs.Prelude.{Some, None}
use Rattle.std.proofs.lemmas.Result.{err_from_is_err_and}
use Rattle.lists.specs.Limits.{amount_limit}
use Rattle.figures.specs.Figures.{figure}
use Rattle.figures.proofs.Figures.{figure_bound}
use Rattle.admission.specs.Admission.{unfit}
use Rattle.refusal.specs.declared.Refusal.{Refusal}
use Rattle.waterfall.specs.Inside.{seen}
use Rattle.waterfall.specs.Calls.{paid_of, payment_refusal, payment_of}
use Rattle.waterfall.proofs.Answer.{Fit, fit, is_refused, is_passed, refused_call, accepted_call, within_bound}
use Rattle.waterfall.proofs.Given.{given-paid}
use Rattle.waterfall.proofs.Register.lower_outstanding.Goals.{In_ok-amount_admission}
use Rattle.waterfall.proofs.Register.lower_outstanding.Goals as goal

pub returns-in_err-amount_admission : goal.returns-in_err-amount_admission
unfolding payment_refusal payment_of
returns-in_err-amount_admission c =
    let a = c.args in
    let e = err_from_is_err_and c.from_residual.result c.from_residual.ensures.1 in
    let found : payment_refusal a.self.now a.member a.amount ≡ Some e.0 =
    rw (← c.self.view_is) (is_refused _ (sym (rw c.figure_of-due.ensures at c.amount_admission.ensures) ∙ rw e.2 c.in_err-amount_admission.was)) in
    let call = refused_call a.self.now (paid_of a.self.now a.member a.amount) found in
    rw e.1 (record { answer = call.0; register_after = call.1 })

-- past the refusals
module _ (c : In_ok-amount_admission) where
  unrefused : payment_refusal (seen c.self.inside) c.args.member c.args.amount ≡ None
  unfolding payment_refusal
  unrefused = is_passed _ (sym (rw c.figure_of-due.ensures at c.amount_admission.ensures) ∙ c.in_ok-amount_admission.was)

  fits : Fit c.args.member (unfit c.args.amount (figure c.self.inside.outstanding c.args.member))
  unfolding payment_refusal
  fits = fit _ c.args.member Refusal.UnfitPayment _ c.self.invariant unrefused

pub overflow_sub-due : goal.overflow_sub-due
overflow_sub-due c =
    omega (arith, c.figure_of-due.ensures, within_bound c.args.amount c.args.amount _ (fits (goal.at.overflow_sub-due c).In_ok-amount_admission).fits)

pub replace-requires : goal.replace-requires
replace-requires c =
    let g = c.self.invariant in
    let f = fits (goal.at.replace-requires c).In_ok-amount_admission in
    let most = figure_bound c.self.inside.outstanding amount_limit (λ k. omega (arith, g.outstanding_fits k, g.called_fits k, g.cap_fits k)) c.args.member in
    (f.least, f.most, omega (arith, c.figure_of-due.ensures, most))

pub invariant_of-self : goal.invariant_of-self
unfolding paid_of
invariant_of-self c = rw (c.replace.ensures, c.figure_of-due.ensures) (given-paid _ c.self.invariant c.args.member c.args.amount)

pub returns : goal.returns
unfolding payment_of paid_of
returns c =
    let r = seen c.self.inside in
    let call = accepted_call r (paid_of r c.args.member c.args.amount) (unrefused (goal.at.returns c).In_ok-amount_admission) in
    rw (c.replace.ensures, c.figure_of-due.ensures, ← c.self.view_is) (record { answer = call.0; register_after = call.1 })
