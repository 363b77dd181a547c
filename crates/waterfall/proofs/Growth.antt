-- A larger loss (document 02, request 6): of it each layer gives at least as much, and leaves at least as much.
use Prim.Native.Nat.{ℕ, ◌≤◌}
use mathlib.Core.List.{List}
use native.Mathlib.Omega.{arith}
use lib.ListN.{get_or}
use Rattle.lists.specs.Sums.{total}
use Rattle.split.proofs.Laws.{split_grows}
use Rattle.ranks.proofs.Laws.{charges_grow, charged_and_left-grow}
use Rattle.rooms.proofs.Shares.{layer_grows}
use Rattle.figures.specs.Figures.{figure}
use Rattle.waterfall.specs.Register.{Register}
use Rattle.waterfall.specs.Default.{standing_of, rooms_of, to_place, on_margin, after1, on_contribution, after2, on_tranche1, after3, charges, after4, on_tranche2}
use Rattle.waterfall.specs.Default.{after5, on_calls, calls, shortfall, allocation_of}
use Rattle.waterfall.specs.Reply.{Layer, layer1, layer2, layer3, layer4, layer5, layer6, allocated}

module _ (r : Register) (member : ℕ) {low high : ℕ} (more : low ≤ high) where
  to_place_grows : to_place r member low ≤ to_place r member high
  unfolding to_place
  to_place_grows = omega arith

  layer1_grows : (on_margin r member low ≤ on_margin r member high) × (after1 r member low ≤ after1 r member high)
  unfolding on_margin after1
  layer1_grows = layer_grows (figure r.margin member) to_place_grows

  layer2_grows : (on_contribution r member low ≤ on_contribution r member high) × (after2 r member low ≤ after2 r member high)
  unfolding on_contribution after2
  layer2_grows = layer_grows (figure r.contribution member) layer1_grows.1

  layer3_grows : (on_tranche1 r member low ≤ on_tranche1 r member high) × (after3 r member low ≤ after3 r member high)
  unfolding on_tranche1 after3
  layer3_grows = layer_grows r.tranche1 layer2_grows.1

  -- with one pool
  module _ (ranks : List ℕ) where
    abbrev charged : ℕ → List ℕ
    charged loss = charges r member loss ranks

    pub member_charge-grows : (k : ℕ) → get_or (charged low) k 0 ≤ get_or (charged high) k 0
    unfolding charges
    member_charge-grows k = charges_grow (standing_of r member) ranks layer3_grows.1 k

    layer4_grows : (total (charged low) ≤ total (charged high)) × (after4 r member low (charged low) ≤ after4 r member high (charged high))
    unfolding charges after4
    layer4_grows = charged_and_left-grow (standing_of r member) ranks layer3_grows.1

    layer5_grows : (on_tranche2 r member low (charged low) ≤ on_tranche2 r member high (charged high)) × (after5 r member low (charged low) ≤ after5 r member high (charged high))
    unfolding on_tranche2 after5
    layer5_grows = layer_grows r.tranche2 layer4_grows.1

    layer6_grows : (on_calls r member low (charged low) ≤ on_calls r member high (charged high)) × (shortfall r member low (charged low) ≤ shortfall r member high (charged high))
    unfolding on_calls shortfall
    layer6_grows = layer_grows (total (rooms_of r member)) layer5_grows.1

    pub member_call-grows : (k : ℕ) → get_or (calls r member low (charged low)) k 0 ≤ get_or (calls r member high (charged high)) k 0
    unfolding calls
    member_call-grows k = split_grows (rooms_of r member) layer6_grows.0 k

    pub shortfall_grows : shortfall r member low (charged low) ≤ shortfall r member high (charged high)
    shortfall_grows = layer6_grows.1

    pub each_layer-grows : (l : Layer) → allocated l (allocation_of r member low (charged low)) ≤ allocated l (allocation_of r member high (charged high))
    unfolding allocation_of
    each_layer-grows layer1 = layer1_grows.0
    each_layer-grows layer2 = layer2_grows.0
    each_layer-grows layer3 = layer3_grows.0
    each_layer-grows layer4 = layer4_grows.0
    each_layer-grows layer5 = layer5_grows.0
    each_layer-grows layer6 = layer6_grows.0
