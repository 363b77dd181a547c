-- What is seen of an accepted default with one pool, in the words of the definitions for one.
use Prim.Native.Nat.{ℕ}
use mathlib.Core.Path.{◌≡◌, refl, ap, sym, ◌∙◌}
use mathlib.Core.Bool.{Bool, true, cond, ◌&&◌}
use mathlib.Core.List.{List}
use lib.ListN.{length, take, drop}
use Rattle.std.specs.Prelude.{Some, None, Ok, is_ok}
use Rattle.lists.specs.Checks.{check}
use Rattle.lists.specs.Limits.{member_limit}
use Rattle.figures.specs.Figures.{figure}
use Rattle.admission.specs.Admission.{loss_of}
use Rattle.admission.specs.declared.Pools.{Pools}
use Rattle.admission.proofs.Admitted.{admitted}
use Rattle.waterfall.specs.Register.{Register, GivenBack}
use Rattle.waterfall.specs.Default.{fallen_call, charges, calls, shortfall, allocation_of, slip_of, default_refusal, default_of, default_slip}
use Rattle.waterfall.specs.Pools.{loss_together, AsBefore}
use Rattle.waterfall.specs.declared.Outcome.{Outcome}
use Rattle.waterfall.specs.Reply.{Layer, allocated, layer_of, fallen_of, short_of, judged}
use Rattle.waterfall.proofs.Answer.{is_accepted}
use Rattle.waterfall.proofs.Default.{charges_read, calls_read}
use Rattle.waterfall.proofs.Given.{length-calls}
use Rattle.waterfall.proofs.OnePool.{together, charged_rightly, one_pool_as-before}
use Rattle.drill.specs.Drill.{Event, event_of}
use Rattle.drill.specs.Counting.{accepted, loss_in, short_in, fallen_in, layer_in, charge_on, call_on}
use Rattle.drill.specs.declared.DrillCall.TheVariants.{Default}

module _ (r : Register) (g : GivenBack r) (member : ℕ) (ranks : List ℕ) where
  -- what is seen of an accepted default with one pool, in the words of the definitions for one
  pub record ByRule (loss : ℕ) (e : Event) : Type 0 where
    pub loss_is : loss_in e ≡ loss
    pub fallen_is : fallen_in e ≡ fallen_call r member
    pub layers_are : (l : Layer) → layer_in l e ≡ allocated l (allocation_of r member loss (charges r member loss ranks))
    pub short_is : short_in e ≡ shortfall r member loss (charges r member loss ranks)
    pub charge_is : (m : ℕ) → charge_on m e ≡ figure (charges r member loss ranks) m
    pub call_is : (m : ℕ) → call_on m e ≡ figure (calls r member loss (charges r member loss ranks)) m

  module _ (pools : Pools) (one : pools.count ≡ 1) (slip : List ℕ) where
    abbrev loss : ℕ
    loss = loss_of pools 0

    abbrev charged : List ℕ
    charged = charges r member loss ranks

    abbrev event : Event
    event = event_of r (record { call = Default member pools; ranks = ranks; slip = slip })

    abbrev before : AsBefore r member pools ranks slip
    before = one_pool_as-before r g member pools one ranks slip

    -- where the rules for one pool refuse nothing, it is accepted
    pub accepted_by-rule : default_refusal r member loss ranks slip ≡ None → accepted event ≡ true
    unfolding default_of judged
    accepted_by-rule e = ap (λ (o : Outcome). is_ok o.reply) before.answer_and_register ∙ rw e refl

    module _ (a : accepted event ≡ true) where
      unrefused : default_refusal r member loss ranks slip ≡ None
      unfolding default_of
      unrefused = is_accepted (default_refusal r member loss ranks slip) _ _ _ (sym (ap (λ (o : Outcome). is_ok o.reply) before.answer_and_register) ∙ a)

      reply_is : event.reply ≡ Ok (Some (allocation_of r member loss charged))
      unfolding default_of judged
      reply_is = ap (λ (o : Outcome). o.reply) before.answer_and_register ∙ rw unrefused refl

      slip_is : event.slip ≡ slip_of r member loss charged slip
      unfolding default_slip check
      slip_is = before.slip_as_left ∙ rw unrefused refl

      long : length charged ≡ member_limit
      unfolding default_refusal
      long = (charged_rightly r g member pools one ranks (length slip) (admitted r.status member loss ranks (length slip) unrefused)).long

      pub by_rule : ByRule loss event
      unfolding allocation_of
      by_rule =
          record {
            loss_is = ap (λ (b : Bool). cond b (loss_together pools) 0) a ∙ together r g member pools one ranks;
            fallen_is = ap fallen_of reply_is;
            layers_are = λ l. ap (layer_of l) reply_is;
            short_is = ap short_of reply_is;
            charge_is = λ m.
                ap (λ (b : Bool). cond (b && true) (figure (take member_limit event.slip) m) 0) a
                ∙ ap (λ (xs : List ℕ). figure (take member_limit xs) m) slip_is
                ∙ ap (λ (xs : List ℕ). figure xs m) (charges_read r member loss charged slip long);
            call_is = λ m.
                ap (λ (b : Bool). cond (b && true) (figure (take member_limit (drop member_limit event.slip)) m) 0) a
                ∙ ap (λ (xs : List ℕ). figure (take member_limit (drop member_limit xs)) m) slip_is
                ∙ ap (λ (xs : List ℕ). figure xs m) (calls_read r member loss charged slip long (length-calls r g member loss charged));
          }
