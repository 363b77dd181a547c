-- A default as the code does it: its layers one after the other, its refusals, and what is settled.
use Prim.Native.Nat.{ℕ, ◌+◌, ◌-◌, ◌≤◌, ◌<◌}
use mathlib.Core.Path.{◌≡◌, refl, ap, ◌∙◌}
use mathlib.Core.List.{List, ◌++◌}
use native.Mathlib.Omega.{arith}
use lib.ListN.{length, get_or, drop}
use lib.Seq.{get_or-set_same}
use Rattle.std.specs.Prelude.{Some, None, Ok, Err}
use Rattle.lists.specs.Checks.{check}
use Rattle.lists.specs.Limits.{member_limit, amount_limit}
use Rattle.lists.specs.Sums.{total}
use Rattle.lists.proofs.Places.{set_all}
use Rattle.lists.proofs.Sums.{unkept}
use Rattle.refusal.specs.declared.Refusal.{Refusal}
use Rattle.split.specs.Split.{split_of}
use Rattle.figures.specs.Figures.{live_in, figure, replace, others}
use Rattle.figures.specs.declared.Status.{Status}
use Rattle.figures.proofs.Figures.{figure_bound, place_of}
use Rattle.admission.specs.Admission.{losses_of}
use Rattle.admission.specs.declared.Pools.{Pools}
use Rattle.admission.proofs.Admitted.{PoolsAdmitted, pools_admitted}
use Rattle.rooms.specs.Rooms.{gives, rooms}
use Rattle.rooms.proofs.Shares.{layer_as, whole_shared}
use Rattle.pools.specs.Pools.{sums_of, charges_by_pools}
use Rattle.layers.specs.Parts.{Allocatable, GoesDown, estate_of}
use Rattle.layers.specs.declared.Placed.{Placed}
use Rattle.waterfall.specs.Register.{Register, GivenBack}
use Rattle.waterfall.specs.Default.{standing_of, rooms_of, fallen_call, to_place, on_margin, after1, on_contribution, after2, on_tranche1, after3, after4}
use Rattle.waterfall.specs.Default.{on_tranche2, after5, on_calls, calls, shortfall, allocation_of, settled_of, slip_of}
use Rattle.waterfall.specs.Pools.{loss_together, given_before, pool_sums, pooled_charges, pooled_allocation, pooled_refusal, pooled_of, pooled_slip}
use Rattle.layers.specs.declared.Allocation.{Allocation}
use Rattle.waterfall.specs.Parts.{settled_as, Settles}
use Rattle.waterfall.specs.Reply.{Reply, Says, judged}
use Rattle.waterfall.proofs.Answer.{Placeless, placeless_check, placeless_standing, says-allocated}
use Rattle.waterfall.proofs.Default.{Layer4, unmarked, rooms-within, charges-within, calls-within, margin-gives, contribution-gives, tranche1-gives}
use Rattle.waterfall.proofs.Default.{tranche2-gives}
use Rattle.waterfall.proofs.Given.{given-settled}
use Rattle.waterfall.proofs.Pooled.{pooled_layer4}

-- the refusals --------------------------------------------------------------------------

module _ (r : Register) (member : ℕ) (pools : Pools) (ranks slip : List ℕ) where
  pub admitted : pooled_refusal r member pools ranks slip ≡ None → PoolsAdmitted r.status member pools ranks (length slip)
  unfolding pooled_refusal
  admitted e = pools_admitted r.status member pools ranks (length slip) e

  placeless : Placeless (pooled_refusal r member pools ranks slip)
  unfolding pooled_refusal
  placeless =
      placeless_standing r member _
      (placeless_check _ _ _ refl
      (placeless_check _ _ _ refl
      (placeless_check _ _ _ refl
      (placeless_check _ _ _ refl
      (placeless_check _ _ _ refl (tt {0}))))))

  pub says_pooled : {reply : Reply} → reply ≡ (pooled_of r member pools ranks slip).reply
      → Says reply (pooled_refusal r member pools ranks slip) (pooled_allocation r member pools ranks)
  unfolding pooled_of
  says_pooled e = rw e (says-allocated _ _ _ _ placeless)

  -- its reply, the register and the slip that it leaves
  pub record Declared (reply : Reply) (next : Register) (left : List ℕ) : Type 0 where
    pub answer : reply ≡ (pooled_of r member pools ranks slip).reply
    pub register_after : next ≡ (pooled_of r member pools ranks slip).register
    pub slip_after : left ≡ pooled_slip r member pools ranks slip

  pub refused : {refusal : Refusal} → pooled_refusal r member pools ranks slip ≡ Some refusal → Declared (Err refusal) r slip
  unfolding pooled_of pooled_slip judged check
  refused e = record { answer = rw e; register_after = rw e; slip_after = rw e }

  -- a default that nothing refuses, placed as the rules say
  pub record PlacedAs (x : Placed) : Type 0 where
    pub unrefused : pooled_refusal r member pools ranks slip ≡ None
    pub settles : Settles r member x
    pub allocation_is : x.allocation ≡ pooled_allocation r member pools ranks
    pub settled_is : settled_as r member x ≡ settled_of r member (loss_together pools) (pooled_charges r member pools ranks)
    pub slip_is : x.charges ++ x.called ++ drop (member_limit + member_limit) slip ≡ slip_of r member (loss_together pools)
        (pooled_charges r member pools ranks) slip
    pub slip_fits : member_limit + member_limit ≤ length slip

  pub accepted : {x : Placed} → PlacedAs x → {a : Allocation} {next : Register} {left : List ℕ} → a ≡ x.allocation → next ≡ settled_as r member x
      → left ≡ x.charges ++ x.called ++ drop (member_limit + member_limit) slip → Declared (Ok (Some a)) next left
  unfolding pooled_of pooled_slip judged check
  accepted p a n l =
      record {
        answer = rw (p.unrefused, a, p.allocation_is);
        register_after = rw p.unrefused (n ∙ p.settled_is);
        slip_after = rw p.unrefused (l ∙ p.slip_is);
      }

-- the layers ----------------------------------------------------------------------------

module _ (r : Register) (g : GivenBack r) (member : ℕ) (pools : Pools) (ranks slip : List ℕ) (passed : pooled_refusal r member pools ranks slip ≡ None) where
  abbrev loss : ℕ
  loss = loss_together pools

  abbrev charged : List ℕ
  charged = pooled_charges r member pools ranks

  abbrev at : ℕ
  at = member - 1

  abbrev marked : List Status
  marked = replace r.status member Status.InDefault

  abbrev can : PoolsAdmitted r.status member pools ranks (length slip)
  can = admitted r member pools ranks slip passed

  -- the defaulter has a place
  placed_at : (0 < member) × (member ≤ member_limit)
  placed_at = rw g.status_length at (place_of Status.Absent r.status member can.present)

  layer4 : Layer4 r member loss charged
  layer4 = pooled_layer4 r member pools can.some can.few g ranks can.ranks_length

  pub allocatable : Allocatable r.status r.contribution r.outstanding r.cap r.called member pools ranks
  allocatable =
      let fallen = figure_bound r.outstanding amount_limit (λ k. omega (arith, g.outstanding_fits k, g.called_fits k, g.cap_fits k)) member in
      record {
        member_least = placed_at.0;
        member_most = placed_at.1;
        sum_fits = omega (arith, fallen, can.losses_fit);
        pooled = record {
          some = can.some;
          few = can.few;
          each_fits = can.each_fits;
          ranks_length = can.ranks_length;
          contribution_fits = λ k. omega (arith, g.contribution_fits k, g.requirement_fits k);
          well_ranked = can.well_ranked;
        };
        roomy = record { most_fits = g.cap_fits; taken_fits = g.called_fits };
      }

  -- what goes down the layers, by what the register has
  module _ (x : Placed) (d : GoesDown (losses_of pools) (estate_of r.outstanding r.margin r.contribution member) r.tranche1 r.tranche2
      (live_in marked) r.contribution (rooms (live_in marked) r.cap r.called) ranks x) where
    layer1_is : (x.allocation.margin ≡ on_margin r member loss) × (d.left1 ≡ after1 r member loss)
    unfolding on_margin after1 to_place fallen_call
    layer1_is = layer_as _ _ _ _ _ _ d.layer1 refl refl

    layer2_is : (x.allocation.contribution ≡ on_contribution r member loss) × (d.left2 ≡ after2 r member loss)
    unfolding on_contribution after2
    layer2_is = layer_as _ _ _ _ _ _ d.layer2 layer1_is.1 refl

    layer3_is : (x.allocation.tranche1 ≡ on_tranche1 r member loss) × (d.left3 ≡ after3 r member loss)
    unfolding on_tranche1 after3
    layer3_is = layer_as _ _ _ _ _ _ d.layer3 layer2_is.1 refl

    pub layer4_is : x.charges ≡ charged
    unfolding pooled_charges pool_sums given_before fallen_call
    layer4_is =
        d.charges_are
        ∙ ap (λ (n : ℕ). charges_by_pools (sums_of n (figure r.outstanding member) (losses_of pools)) (standing_of r member) ranks)
        (rw (layer1_is.0, layer2_is.0, layer3_is.0))

    left4_is : d.left3 - x.allocation.members ≡ after4 r member loss charged
    unfolding after4
    left4_is = rw (layer3_is.1, d.members_are, layer4_is)

    layer5_is : (x.allocation.tranche2 ≡ on_tranche2 r member loss charged) × (d.left5 ≡ after5 r member loss charged)
    unfolding on_tranche2 after5
    layer5_is = layer_as _ _ _ _ _ _ d.layer5 left4_is refl

    pub called_is : x.called ≡ calls r member loss charged
    unfolding calls on_calls rooms_of
    called_is =
        d.layer6.shares_are ∙ ap (λ (n : ℕ). split_of (gives n (total (rooms (live_in marked) r.cap r.called)))
        (rooms (live_in marked) r.cap r.called)) layer5_is.1

    pub allocation_is : x.allocation ≡ pooled_allocation r member pools ranks
    unfolding pooled_allocation allocation_of fallen_call on_calls shortfall rooms_of
    allocation_is =
        rw (
          d.fallen_is,
          layer1_is.0,
          layer2_is.0,
          layer3_is.0,
          d.members_are,
          layer4_is,
          layer5_is.0,
          d.layer6.total_is,
          d.layer6.rest_is,
          layer5_is.1,
        )

    settled_is : settled_as r member x ≡ settled_of r member loss charged
    unfolding settled_of
    settled_is = rw (layer1_is.0, layer2_is.0, layer3_is.0, layer5_is.0, layer4_is, called_is)

    -- what is settled -----------------------------------------------------------------------

    -- the defaulter is charged nothing in layer 4
    uncharged : get_or charged at 0 ≡ 0
    uncharged =
        let d : get_or marked at Status.Absent ≡ Status.InDefault = get_or-set_same r.status at Status.InDefault Status.Absent
        (omega (arith, placed_at, g.status_length)) in
        omega (arith, layer4.weighed at, unkept (others r.status member) r.contribution at (unmarked r member at d))

    settles : Settles r member x
    settles =
        record {
          member_least = placed_at.0;
          member_most = placed_at.1;
          fallen_is = d.fallen_is;
          margin_within = rw layer1_is.0 (margin-gives r member loss charged);
          contribution_within = rw layer2_is.0 (contribution-gives r member loss charged);
          tranche1_within = rw layer3_is.0 (tranche1-gives r member loss charged);
          tranche2_within = rw layer5_is.0 (tranche2-gives r member loss charged);
          charges_within = rw layer4_is (set_all (λ k x. get_or charged k 0 ≤ x) r.contribution at _ (charges-within r member loss charged layer4)
              (omega (arith, uncharged)));
          called_within = rw called_is (λ k. omega (arith, calls-within r member loss charged k, rooms-within r member k, g.called_fits k, g.cap_fits k));
          calls_are = whole_shared _ _ _ _ _ d.layer6;
          given_back = rw settled_is (given-settled r g member loss charged);
        }

    pub placed_as : PlacedAs r member pools ranks slip x
    placed_as =
        record {
          unrefused = passed;
          settles = settles;
          allocation_is = allocation_is;
          settled_is = settled_is;
          slip_is = rw (layer4_is, called_is);
          slip_fits = can.slip-length;
        }
