-- `waterfall::Register::start_afresh` meets its contract.
use mathlib.Core.Path.{◌≡◌, refl, sym, ◌∙◌}
use borrow.Author.Tests.{ltb-false}
use Rattle.std.specs.Prelude.{Some, None}
use Rattle.lists.proofs.Checks.{check_yes, check_no}
use Rattle.refusal.specs.declared.Refusal.{Refusal}
use Rattle.waterfall.specs.Inside.{seen}
use Rattle.waterfall.specs.Calls.{closed_of, close_refusal, close_of}
use Rattle.waterfall.proofs.Answer.{refused_call, accepted_call}
use Rattle.waterfall.proofs.Given.{given-closed}
use Rattle.waterfall.proofs.Register.start_afresh.Goals as goal

pub returns-then-owing : goal.returns-then-owing
unfolding close_of close_refusal
returns-then-owing c =
    let found : close_refusal c.args.self.now ≡ Some Refusal.CallOutstanding = rw (← c.self.view_is)
    (sym (check_yes _ _ _ _ c.owing.ensures c.if-owing.true refl)) in
    let call = refused_call c.args.self.now (closed_of c.args.self.now) found in
    record { answer = call.0; register_after = call.1 }

pub invariant_of-self : goal.invariant_of-self
unfolding closed_of
invariant_of-self c = given-closed _ c.self.invariant (ltb-false _ _ (sym c.owing.ensures ∙ c.if-owing.false))

pub returns : goal.returns
unfolding close_of close_refusal closed_of
returns c =
    let found : close_refusal (seen c.self.inside) ≡ None = sym (check_no _ _ _ _ c.owing.ensures c.if-owing.false refl) in
    let call = accepted_call (seen c.self.inside) (closed_of (seen c.self.inside)) found in
    rw (← c.self.view_is) (record { answer = call.0; register_after = call.1 })
