-- Laws of the latest default: the answer of every accepted one can be printed, so that the latest always can.
use Rattle.std.proofs.Common.{◌≡◌, ℕ, List, Option, Some, None, Ok, refl}
use Rattle.refusal.specs.declared.Refusal.{Refusal}
use Rattle.waterfall.specs.Register.{Register, GivenBack}
use Rattle.waterfall.specs.Pools.{pooled_of}
use Rattle.waterfall.specs.Calls.{payment_of, replenishment_of, close_of}
use Rattle.waterfall.specs.Reply.{judged}
use Rattle.layers.specs.declared.Allocation.{Allocation}
use Rattle.waterfall.specs.declared.Outcome.{Outcome}
use Rattle.drill.specs.Drill.{applied_of}
use Rattle.drill.specs.declared.DrillCall.{DrillCall}
use Rattle.page.proofs.Rows.{none_above}
use Rattle.page.proofs.Theorem.{answers-within}
use Rattle.print_page.specs.Texts.{latest_of}
use Rattle.print_page.specs.Parts.{Printable}

judged_printable : (refusal : Option Refusal) (r : Register) (allocation : Option Allocation) (next : Register) (latest : Option Allocation)
    → Printable latest → (refusal ≡ None → Printable (latest_of latest (Ok allocation))) → Printable (latest_of latest (judged refusal r allocation next).reply)
unfolding judged
judged_printable (Some refusal) r allocation next latest p f = p
judged_printable None r allocation next latest p f = f refl

still_printable : (r : Register) (call : DrillCall) (ranks slip : List ℕ) (latest : Option Allocation) → GivenBack r → Printable latest → Printable (latest_of latest (applied_of r call ranks slip).reply)
unfolding pooled_of payment_of replenishment_of close_of
still_printable r (DrillCall.Default member pools) ranks slip latest g p =
    judged_printable _ r _ _ latest p (λ e. none_above _ (answers-within r member pools ranks slip g e))
still_printable r (DrillCall.Payment member amount) ranks slip latest g p = judged_printable _ r _ _ latest p (λ _. p)
still_printable r (DrillCall.Replenishment member amount) ranks slip latest g p = judged_printable _ r _ _ latest p (λ _. p)
still_printable r DrillCall.Close ranks slip latest g p = judged_printable _ r _ _ latest p (λ _. p)

-- by what the functions answered
pub latest_printable : {next : Option Allocation} {done : Outcome} (r : Register) (call : DrillCall) (ranks slip : List ℕ) (latest : Option Allocation) → next ≡ latest_of latest done.reply → done ≡ applied_of r call ranks slip
    → GivenBack r → Printable latest → Printable next
latest_printable r call ranks slip latest e f g p = rw (e, f) (still_printable r call ranks slip latest g p)
