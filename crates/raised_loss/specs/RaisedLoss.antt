-- Document 02, request 6, "A larger loss, member by member": "Teachers raise a loss in front of the class." It is counted as statement 3 is
-- (drill/specs/Counting.antt): from the calls, their answers, and the slips as the defaults leave them.
use Rattle.std.specs.Prelude.{ℕ, ◌+◌, ◌-◌, ◌≤◌, ◌≡◌, true, List}
use Rattle.admission.specs.declared.Pools.{Pools}
use Rattle.waterfall.specs.Register.{Register}
use Rattle.waterfall.specs.Reply.{Layer}
use Rattle.drill.specs.Drill.{Event, event_of}
use Rattle.drill.specs.Counting.{accepted, loss_in, short_in, layer_in, charged_in, charge_on, call_on}
use Rattle.drill.specs.declared.DrillCall.TheVariants.{Default}

-- two defaults "start from the same register with the same member and ranks"; each has its loss, and is lent a slip of its own, of any content before
module _ (r : Register) (member : ℕ) (ranks : List ℕ) (low_pool high_pool : Pools) (slip other_slip : List ℕ) where
  abbrev pub lower : Event
  lower = event_of r (record { call = Default member low_pool; ranks = ranks; slip = slip })

  abbrev pub higher : Event
  higher = event_of r (record { call = Default member high_pool; ranks = ranks; slip = other_slip })

  -- "Let two one-pool defaults start .., both accepted", one with a loss that is larger than the other's, or equal
  pub record TwoDefaults : Type 0 where
    pub lower_one-pool : low_pool.count ≡ 1
    pub higher_one-pool : high_pool.count ≡ 1
    pub lower_accepted : accepted lower ≡ true
    pub higher_accepted : accepted higher ≡ true
    pub losses_rise : loss_in lower ≤ loss_in higher

  -- "The one with the larger loss then charges each layer and each member at least as much, leaves at least as large a shortfall, and all its
  -- charges and shortfall exceed the other's by exactly the difference in loss." A member is charged by layer 4, and called.
  pub record LargerLoss : Type 0 where
    pub each_layer : (l : Layer) → layer_in l lower ≤ layer_in l higher
    pub each_charge : (m : ℕ) → charge_on m lower ≤ charge_on m higher
    pub each_call : (m : ℕ) → call_on m lower ≤ call_on m higher
    pub shortfall : short_in lower ≤ short_in higher
    pub difference : charged_in higher + short_in higher ≡ charged_in lower + short_in lower + (loss_in higher - loss_in lower)

-- Theorem `raise_a_loss` in proofs/Theorem.antt: `TwoDefaults` gives `LargerLoss`, of every register that was given back.
