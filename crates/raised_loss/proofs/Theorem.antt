-- "The one with the larger loss then charges each layer and each member at least as much": what is seen of each of the two defaults is what the
-- definitions for one pool give of its loss, and these grow with the loss.
use Prim.Native.Nat.{ℕ, ◌≤◌}
use mathlib.Core.List.{List}
use native.Mathlib.Omega.{arith}
use Rattle.figures.proofs.Figures.{figure-le}
use Rattle.admission.specs.Admission.{loss_of}
use Rattle.admission.specs.declared.Pools.{Pools}
use Rattle.waterfall.specs.Register.{Register, GivenBack}
use Rattle.waterfall.proofs.Growth.{each_layer-grows, member_charge-grows, member_call-grows, shortfall_grows}
use Rattle.drill.proofs.Defaults.{default_laws}
use Rattle.drill.proofs.OnePool.{by_rule}
use Rattle.raised_loss.specs.RaisedLoss.{TwoDefaults, LargerLoss}

-- "Teachers raise a loss in front of the class."
pub raise_a_loss : (r : Register) → GivenBack r → (member : ℕ) (ranks : List ℕ) (low_pool high_pool : Pools) (slip other_slip : List ℕ)
    → TwoDefaults r member ranks low_pool high_pool slip other_slip → LargerLoss r member ranks low_pool high_pool slip other_slip
raise_a_loss r g member ranks low_pool high_pool slip other_slip two =
    let s = by_rule r g member ranks low_pool two.lower_one-pool slip two.lower_accepted in
    let t = by_rule r g member ranks high_pool two.higher_one-pool other_slip two.higher_accepted in
    let more : loss_of low_pool 0 ≤ loss_of high_pool 0 = omega (arith, s.loss_is, t.loss_is, two.losses_rise) in
    record {
      each_layer = λ l. omega (arith, s.layers_are l, t.layers_are l, each_layer-grows r member more ranks l);
      each_charge = λ m. omega (arith, s.charge_is m, t.charge_is m, figure-le _ _ (member_charge-grows r member more ranks) m);
      each_call = λ m. omega (arith, s.call_is m, t.call_is m, figure-le _ _ (member_call-grows r member more ranks) m);
      shortfall = omega (arith, s.short_is, t.short_is, shortfall_grows r member more ranks);
      difference =
          omega (
            arith,
            (default_laws r g member low_pool ranks slip).placed,
            (default_laws r g member high_pool ranks other_slip).placed,
            s.fallen_is,
            t.fallen_is,
            two.losses_rise,
          );
    }
