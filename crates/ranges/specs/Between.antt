-- Document 02, request 7: "Every loss in the range must fall between them, and each end must be reached by some loss in the range." The defaults are
-- counted as statement 3 is (drill/specs/Counting.antt), from their answers and from the slips as they leave them.
use Rattle.std.specs.Prelude.{ℕ, ◌≤◌, ◌≡◌, true, List, length, take, drop}
use Rattle.lists.specs.Limits.{member_limit}
use Rattle.figures.specs.Figures.{figure}
use Rattle.admission.specs.Admission.{one_pool}
use Rattle.admission.specs.declared.Pools.{Pools}
use Rattle.waterfall.specs.Register.{Register}
use Rattle.waterfall.specs.Reply.{Reply, Layer, fallen_of, layer_of, short_of}
use Rattle.waterfall.specs.Pools.{loss_together}
use Rattle.drill.specs.Drill.{Event, event_of}
use Rattle.drill.specs.Counting.{accepted, fallen_in, short_in, layer_in, charge_on, call_on}
use Rattle.drill.specs.declared.DrillCall.TheVariants.{Default}
use Rattle.ranges.specs.declared.Losses.{Losses}
use Rattle.ranges.specs.Ranges.{half, range_of, range_slip, lows, highs}

-- "each layer and member, and .. the shortfall": a member is charged by layer 4, and called. The answer has the fallen call as well.
pub data Figure : Type 0 where
  fallen : Figure
  layer : Layer → Figure
  charge : ℕ → Figure
  call : ℕ → Figure
  short : Figure

-- what a default gives of it
abbrev pub figure_in : Figure → Event → ℕ
figure_in fallen e = fallen_in e
figure_in (layer l) e = layer_in l e
figure_in (charge m) e = charge_on m e
figure_in (call m) e = call_on m e
figure_in short e = short_in e

-- what the lows give of it, or the highs, with their half of the slip
abbrev pub end_of : Figure → Reply → List ℕ → ℕ
end_of fallen reply part = fallen_of reply
end_of (layer l) reply part = layer_of l reply
end_of (charge m) reply part = figure (take member_limit part) m
end_of (call m) reply part = figure (take member_limit (drop member_limit part)) m
end_of short reply part = short_of reply

-- a default of this member with these ranks, which is lent a slip of its own, as `Register::declare` promises it
abbrev pub default_seen : Register → ℕ → List ℕ → Pools → List ℕ → Event
default_seen r member ranks pools own = event_of r (record { call = Default member pools; ranks = ranks; slip = own })

-- it has one pool, with a loss in the range, and a default's slip
pub record InRange (losses : Losses) (pools : Pools) (own : List ℕ) : Type 0 where
  pub one-pool : pools.count ≡ 1
  pub least : losses.low ≤ loss_together pools
  pub most : loss_together pools ≤ losses.high
  pub slip_fits : half ≤ length own

-- a range that was asked on a register: its answer, and the slip as it leaves it
module _ (r : Register) (member : ℕ) (losses : Losses) (ranks slip : List ℕ) where
  abbrev pub lowest : Figure → ℕ
  lowest f = end_of f (lows (range_of r member losses ranks slip)) (take half (range_slip r member losses ranks slip))

  abbrev pub highest : Figure → ℕ
  highest f = end_of f (highs (range_of r member losses ranks slip)) (drop half (range_slip r member losses ranks slip))

  pub record Between : Type 0 where
    -- no loss in the range would be refused
    pub each_accepted : (pools : Pools) (own : List ℕ) → InRange losses pools own → accepted (default_seen r member ranks pools own) ≡ true
    -- "Every loss in the range must fall between them"
    pub each_between : (pools : Pools) (own : List ℕ) → InRange losses pools own → (f : Figure)
        → (lowest f ≤ figure_in f (default_seen r member ranks pools own)) × (figure_in f (default_seen r member ranks pools own) ≤ highest f)
    -- "and each end must be reached by some loss in the range": each low by the lowest loss, each high by the highest
    pub lows_reached : (own : List ℕ) → half ≤ length own
        → InRange losses (one_pool losses.low) own × ((f : Figure) → figure_in f (default_seen r member ranks (one_pool losses.low) own) ≡ lowest f)
    pub highs_reached : (own : List ℕ) → half ≤ length own
        → InRange losses (one_pool losses.high) own × ((f : Figure) → figure_in f (default_seen r member ranks (one_pool losses.high) own) ≡ highest f)

-- Theorem `range_holds` in proofs/Theorem.antt: an accepted range gives `Between`, on every register that was given back.
