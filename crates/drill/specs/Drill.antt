-- What a drill call does, and the trace of a list of calls.
use Rattle.std.specs.Prelude.{ℕ, List, [], ◌∷◌, Option}
use Rattle.refusal.specs.declared.Refusal.{Refusal}
use Rattle.waterfall.specs.Register.{Register}
use Rattle.waterfall.specs.Pools.{pooled_allocation, pooled_refusal, pooled_of, pooled_slip}
use Rattle.waterfall.specs.Calls.{payment_refusal, payment_of, replenishment_refusal, replenishment_of, close_refusal, close_of}
use Rattle.waterfall.specs.Reply.{Reply, nothing}
use Rattle.layers.specs.declared.Allocation.{Allocation}
use Rattle.waterfall.specs.declared.Outcome.{Outcome}
use Rattle.drill.specs.declared.DrillCall.{DrillCall}
use Rattle.drill.specs.declared.DrillCall.TheVariants.{Default, Payment, Replenishment, Close}

-- a call on a register, with ranks and a slip beside it
abbrev pub applied_of : Register → DrillCall → List ℕ → List ℕ → Outcome
applied_of r (Default member pools) ranks slip = pooled_of r member pools ranks slip
applied_of r (Payment member amount) ranks slip = payment_of r member amount
applied_of r (Replenishment member amount) ranks slip = replenishment_of r member amount
applied_of r Close ranks slip = close_of r

-- the slip as the call leaves it: only a default writes one
abbrev pub slip_left : Register → DrillCall → List ℕ → List ℕ → List ℕ
slip_left r (Default member pools) ranks slip = pooled_slip r member pools ranks slip
slip_left r (Payment member amount) ranks slip = slip
slip_left r (Replenishment member amount) ranks slip = slip
slip_left r Close ranks slip = slip

-- its refusal, if it is refused, and what it allocates: only a default does
abbrev pub refusal_of : Register → DrillCall → List ℕ → List ℕ → Option Refusal
refusal_of r (Default member pools) ranks slip = pooled_refusal r member pools ranks slip
refusal_of r (Payment member amount) ranks slip = payment_refusal r member amount
refusal_of r (Replenishment member amount) ranks slip = replenishment_refusal r member amount
refusal_of r Close ranks slip = close_refusal r

abbrev pub allocated_by : Register → DrillCall → List ℕ → Allocation
allocated_by r (Default member pools) ranks = pooled_allocation r member pools ranks
allocated_by r (Payment member amount) ranks = nothing
allocated_by r (Replenishment member amount) ranks = nothing
allocated_by r Close ranks = nothing

-- what is handed over in a step: a call, its ranks and its slip
pub record Step : Type 0 where
  pub call : DrillCall
  pub ranks : List ℕ
  pub slip : List ℕ

-- what is seen of it: the call and its ranks, the answer, the slip as left, the register given back
pub record Event : Type 0 where
  pub call : DrillCall
  pub ranks : List ℕ
  pub reply : Reply
  pub slip : List ℕ
  pub register : Register

abbrev pub event_of : Register → Step → Event
event_of r s =
    record {
      call = s.call;
      ranks = s.ranks;
      reply = (applied_of r s.call s.ranks s.slip).reply;
      slip = slip_left r s.call s.ranks s.slip;
      register = (applied_of r s.call s.ranks s.slip).register;
    }

-- "The console keeps one register through the whole drill": each call is made on the register that the one before gave back
unfoldable pub trace : Register → List Step → List Event
trace r [] = []
trace r (s ∷ steps) = event_of r s ∷ trace (event_of r s).register steps
