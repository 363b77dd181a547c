-- What a drill call answers, in document 01's numbers and values.
use Rattle.std.specs.Prelude.{ℕ, ◌≡◌, Option, Result, Some, None, Ok, Err, is_some}
use Rattle.lists.specs.Checks.{check}
use Rattle.refusal.specs.Refusal.{number_of, position_of, refused_number}
use Rattle.refusal.specs.declared.Refusal.{Refusal}
use Rattle.waterfall.specs.Register.{Register}
use Rattle.layers.specs.declared.Allocation.{Allocation}
use Rattle.waterfall.specs.declared.Outcome.{Outcome}

-- a refusal, or that the call is accepted; an accepted default answers its allocation
abbrev pub Reply : Type 0
Reply = Result (Option Allocation) Refusal

-- "A refusal carries its number": 0 where the call was accepted
abbrev pub reply_number : Reply → ℕ
reply_number (Err refusal) = number_of refusal
reply_number (Ok accepted) = 0

-- "and, for 4 to 8, the record's place counted from 1 (0 for the others)": no drill call is refused with 4 to 8
abbrev pub reply_position : Reply → ℕ
reply_position (Err refusal) = position_of refusal
reply_position (Ok accepted) = 0

-- "The answer carries the fallen call, six layer totals and shortfall."; "every other number of its answer is 0"
abbrev pub fallen_of : Reply → ℕ
fallen_of (Err refusal) = 0
fallen_of (Ok None) = 0
fallen_of (Ok (Some a)) = a.fallen

abbrev pub short_of : Reply → ℕ
short_of (Err refusal) = 0
short_of (Ok None) = 0
short_of (Ok (Some a)) = a.short

-- the six layers by number
pub data Layer : Type 0 where
  layer1 layer2 layer3 layer4 layer5 layer6 : Layer

abbrev pub allocated : Layer → Allocation → ℕ
allocated layer1 a = a.margin
allocated layer2 a = a.contribution
allocated layer3 a = a.tranche1
allocated layer4 a = a.members
allocated layer5 a = a.tranche2
allocated layer6 a = a.calls

abbrev pub layer_of : Layer → Reply → ℕ
layer_of l (Err refusal) = 0
layer_of l (Ok None) = 0
layer_of l (Ok (Some a)) = allocated l a

-- "These three calls answer only that they were accepted.": payment, replenishment and close allocate nothing
abbrev pub nothing : Allocation
nothing =
    record {
      fallen = 0;
      margin = 0;
      contribution = 0;
      tranche1 = 0;
      members = 0;
      tranche2 = 0;
      calls = 0;
      short = 0;
    }

-- An answer in the paper's numbers and values: the number of its refusal, and what it carries of an allocation where there is none.
pub record Says (reply : Reply) (refusal : Option Refusal) (allocation : Allocation) : Type 0 where
  pub number_is : reply_number reply ≡ refused_number refusal
  pub position_is : reply_position reply ≡ 0
  pub fallen_is : fallen_of reply ≡ check (is_some refusal) 0 allocation.fallen
  pub layers_are : (l : Layer) → layer_of l reply ≡ check (is_some refusal) 0 (allocated l allocation)
  pub short_is : short_of reply ≡ check (is_some refusal) 0 allocation.short

-- A call is judged and answered: the first refusal that applies leaves the register as it is ("register and slips stay untouched");
-- where none does, the call is accepted, answers what it allocates and hands back `next`.
unfoldable pub judged : Option Refusal → Register → Option Allocation → Register → Outcome
judged (Some refusal) r allocation next = record { reply = Err refusal; register = r }
judged None r allocation next = record { reply = Ok allocation; register = next }
