-- The laws of a single step, for each call on a register that was given back.
use Prim.Native.Nat.{ℕ, ◌+◌, ◌≤◌}
use mathlib.Core.Path.{◌≡◌, refl, ap, sym, ◌∙◌}
use mathlib.Core.Bool.{Bool, true, false, cond, false≢true}
use mathlib.Core.List.{List}
use native.Mathlib.Omega.{arith}
use borrow.Author.Tests.{ltb-false}
use Rattle.std.specs.Prelude.{Option, Some, None, Ok, Err}
use Rattle.lists.proofs.Checks.{check_past}
use Rattle.refusal.specs.declared.Refusal.{Refusal}
use Rattle.figures.specs.Figures.{figure, status_at}
use Rattle.figures.specs.declared.Status.{Status}
use Rattle.waterfall.specs.Register.{Register, GivenBack}
use Rattle.waterfall.specs.Reply.{judged}
use Rattle.waterfall.specs.Calls.{paid_of, payment_refusal, payment_of, replenished_of, replenishment_refusal, replenishment_of, closed_of, close_refusal}
use Rattle.waterfall.specs.Calls.{close_of}
use Rattle.waterfall.specs.declared.Outcome.{Outcome}
use Rattle.figures.proofs.Figures.{replaced_at, figure-none}
use Rattle.waterfall.proofs.Answer.{fit, within_bound}
use Rattle.waterfall.proofs.Given.{given-paid, given-replenished, given-closed}
use Rattle.drill.specs.Drill.{Event}
use Rattle.drill.specs.Counting.{loss_handed, defaults, is_close, is_default, paid_in, replenished_in}
use Rattle.drill.specs.declared.DrillCall.{DrillCall}
use Rattle.drill.specs.declared.DrillCall.TheVariants.{Payment, Replenishment, Close}
use Rattle.drill.proofs.Laws.{StepLaws}

-- what is seen of an outcome
abbrev pub seen : DrillCall → List ℕ → Outcome → List ℕ → Event
seen call ranks o slip = record { call = call; ranks = ranks; reply = o.reply; slip = slip; register = o.register }

cond-none : (b : Bool) → ◌≡◌ {A = ℕ} (cond b 0 0) 0
cond-none true = refl
cond-none false = refl

-- what is seen of a call that does not write the slip
module _ (r : Register) (g : GivenBack r) (call : DrillCall) (ranks slip : List ℕ) where
  abbrev Lawful : Outcome → Type 0
  Lawful o = StepLaws r (seen call ranks o slip)

  -- a refused call counts for nothing
  pub refused_laws : (refusal : Refusal) → Lawful (record { reply = Err refusal; register = r })
  refused_laws refusal =
      record {
        given = g;
        cap_stays = refl;
        placed = refl;
        margin = λ m. omega (arith, cond-none (defaults call m));
        contribution = λ m. omega (arith, cond-none (defaults call m));
        tranche1 = omega arith;
        tranche2 = omega arith;
        calls = λ m. omega (arith, cond-none (defaults call m));
        called = λ m. omega arith;
        stays-live = λ m s q. s;
        stays_in-default = λ m s. s;
        in-default = λ m pools q t. absurd (false≢true t);
        ranked = λ m pools q t. absurd (false≢true t);
        ordered = λ m pools q t. absurd (false≢true t);
      }

  -- a call that is judged, and allocates nothing
  judged_laws : (refusal : Option Refusal) (next : Register) → (refusal ≡ None → Lawful (record { reply = Ok None; register = next }))
      → Lawful (judged refusal r None next)
  unfolding judged
  judged_laws (Some refusal) next past = refused_laws refusal
  judged_laws None next past = past refl

  -- an accepted call that is no default: it hands over no loss, and only contributions, what is outstanding and what was called may change
  accepted_laws : (next : Register) → GivenBack next → loss_handed call ≡ 0 → is_default call ≡ false
      → (next.status ≡ r.status) × (next.margin ≡ r.margin) × (next.cap ≡ r.cap) × (next.tranche1 ≡ r.tranche1) × (next.tranche2 ≡ r.tranche2)
      → ((m : ℕ) → figure r.contribution m + replenished_in call m ≡ figure next.contribution m)
      → ((m : ℕ) → figure r.outstanding m ≡ paid_in call m + figure next.outstanding m)
      → ((m : ℕ) → figure next.called m ≡ cond (is_close call) 0 (figure r.called m))
      → Lawful (record { reply = Ok None; register = next })
  accepted_laws next given loss other stays contribution outstanding called =
      record {
        given = given;
        cap_stays = stays.2;
        placed = omega (arith, loss);
        margin = λ m. omega (arith, ap (λ (xs : List ℕ). figure xs m) stays.1, cond-none (defaults call m));
        contribution = λ m. rw other (omega (arith, contribution m, cond-none (defaults call m)));
        tranche1 = omega (arith, stays.3);
        tranche2 = omega (arith, stays.4);
        calls = λ m. rw other (omega (arith, outstanding m, cond-none (defaults call m)));
        called = λ m.
            let same : figure r.called m + 0 ≡ figure r.called m = omega arith in
            rw (other, same) (called m);
        stays-live = λ m s q. ap (λ (xs : List Status). status_at xs m) stays.0 ∙ s;
        stays_in-default = λ m s. ap (λ (xs : List Status). status_at xs m) stays.0 ∙ s;
        in-default = λ m l q t. absurd (false≢true (sym other ∙ ap is_default q));
        ranked = λ m l q t. absurd (false≢true (sym other ∙ ap is_default q));
        ordered = λ m l q t. absurd (false≢true (sym other ∙ ap is_default q));
      }

pub payment_laws : (r : Register) → GivenBack r → (who amount : ℕ) (ranks slip : List ℕ)
    → StepLaws r (seen (Payment who amount) ranks (payment_of r who amount) slip)
unfolding payment_of payment_refusal paid_of
payment_laws r g who amount ranks slip =
    judged_laws r g (Payment who amount) ranks slip (payment_refusal r who amount) (paid_of r who amount) (λ e.
    let k = fit r who Refusal.UnfitPayment _ g e in
    let h : amount ≤ figure r.outstanding who = within_bound amount _ _ k.fits in
    accepted_laws r g (Payment who amount) ranks slip (paid_of r who amount) (given-paid r g who amount) refl refl (refl, refl, refl, refl, refl)
    (λ m. omega arith)
    (λ m. replaced_at 0 (λ b old new. old ≡ cond b amount 0 + new) r.outstanding who m _ k.least (omega (arith, k, g.outstanding_length))
    (omega arith) (λ y. omega arith))
    (λ m. refl))

pub replenishment_laws : (r : Register) → GivenBack r → (who amount : ℕ) (ranks slip : List ℕ)
    → StepLaws r (seen (Replenishment who amount) ranks (replenishment_of r who amount) slip)
unfolding replenishment_of replenishment_refusal replenished_of
replenishment_laws r g who amount ranks slip =
    judged_laws r g (Replenishment who amount) ranks slip (replenishment_refusal r who amount) (replenished_of r who amount) (λ e.
    let k = fit r who Refusal.UnfitReplenishment _ g e in
    accepted_laws r g (Replenishment who amount) ranks slip (replenished_of r who amount)
    (given-replenished r g who amount (within_bound amount _ _ k.fits)) refl refl (refl, refl, refl, refl, refl)
    (λ m. replaced_at 0 (λ b old new. old + cond b amount 0 ≡ new) r.contribution who m _ k.least (omega (arith, k, g.contribution_length)) refl
    (λ y. omega arith))
    (λ m. omega arith)
    (λ m. refl))

pub close_laws : (r : Register) → GivenBack r → (ranks slip : List ℕ) → StepLaws r (seen Close ranks (close_of r) slip)
unfolding close_of close_refusal closed_of
close_laws r g ranks slip =
    judged_laws r g Close ranks slip (close_refusal r) (closed_of r) (λ e.
    accepted_laws r g Close ranks slip (closed_of r) (given-closed r g (ltb-false _ _ (check_past _ _ _ (λ q. cc) e).0)) refl refl
    (refl, refl, refl, refl, refl)
    (λ m. omega arith) (λ m. omega arith) figure-none)
