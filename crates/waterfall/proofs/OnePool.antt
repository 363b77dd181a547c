-- "A one-pool default answers as before.": the same answer, register and slip as the default of document 01.
use Prim.Native.Nat.{ℕ, ◌+◌, ◌*◌, ◌≤◌, ◌<◌}
use mathlib.Core.Path.{◌≡◌, refl, ap, sym, subst, ◌∙◌}
use mathlib.Core.Bool.{false, not}
use mathlib.Core.List.{List, [], ◌∷◌, map}
use native.Mathlib.Omega.{arith}
use borrow.Author.Tests.{eqb-true, not-false}
use lib.Dec.{eqb, ltb}
use lib.ListN.{length, get_or}
use lib.Seq.{take_all}
use Rattle.std.specs.Prelude.{Option, Some, None, is_some}
use Rattle.std.specs.List.{range_with_len}
use Rattle.lists.specs.Limits.{member_limit, rank_limit, sum_limit}
use Rattle.lists.specs.Sums.{total}
use Rattle.lists.proofs.Checks.{check_same, check_skip}
use Rattle.lists.proofs.Sums.{single, kept_mark, mark-within}
use Rattle.refusal.specs.declared.Refusal.{Refusal}
use Rattle.figures.specs.Figures.{status_at, is_absent, is_in-default, others}
use Rattle.admission.specs.Admission.{unready, misranked, admission, loss_of, losses_of, miscounted, excessive_losses, pools_unready, pools_misranked}
use Rattle.admission.specs.Admission.{pools_admission}
use Rattle.admission.specs.declared.Pools.{Pools}
use Rattle.admission.proofs.Admitted.{Admitted, admitted, admits}
use Rattle.admission.proofs.Ranked.{ranks-read}
use Rattle.pools.specs.Pools.{charges_by_pools}
use Rattle.pools.proofs.Laws.{one_pool_lem}
use Rattle.waterfall.specs.Register.{Register, GivenBack}
use Rattle.waterfall.specs.Default.{standing_of, charges, calls, after3, allocation_of, settled_of, slip_of, default_refusal, default_of, default_slip}
use Rattle.waterfall.specs.Pools.{loss_together, pool_sums, pooled_charges, pooled_allocation, pooled_refusal, pooled_of, pooled_slip, AsBefore}
use Rattle.waterfall.specs.Reply.{judged}
use Rattle.waterfall.specs.Register.{Register}
use Rattle.layers.specs.declared.Allocation.{Allocation}
use Rattle.waterfall.proofs.Answer.{is_none}
use Rattle.waterfall.proofs.Default.{Layer4}
use Rattle.waterfall.proofs.Given.{length-others, length-standing}
use Rattle.waterfall.proofs.Pooled.{length_pool-sums, total_pool-sums, pooled_layer4}
use Rattle.std.proofs.lemmas.Bool.{or_parts}
use Rattle.std.proofs.Math.Bool.{or-false}

-- two calls that are judged alike, and are accepted alike
judged_same : (refusal : Option Refusal) (r : Register) (a b : Option Allocation) (x y : Register) → (refusal ≡ None → (a ≡ b) × (x ≡ y))
    → judged refusal r a x ≡ judged refusal r b y
unfolding judged
judged_same (Some refusal) r a b x y same = refl
judged_same None r a b x y same = rw ((same refl).0, (same refl).1)

module _ (r : Register) (g : GivenBack r) (member : ℕ) (pools : Pools) (one : pools.count ≡ 1) (ranks : List ℕ) where
  abbrev loss : ℕ
  loss = loss_of pools 0

  only : losses_of pools ≡ loss ∷ []
  only = ap (λ (n : ℕ). map (loss_of pools) (range_with_len 0 n)) one

  pub together : loss_together pools ≡ loss
  together = ap total only ∙ omega arith

  -- where 11 to 15 refuse nothing, the charges are those by rank
  module _ (slip : ℕ) (a : Admitted r.status member loss ranks slip) where
    ranked : (k : ℕ) → 0 < get_or (standing_of r member) k 0 → (0 < get_or ranks k 0) × (get_or ranks k 0 ≤ rank_limit)
    ranked k h =
        let m = kept_mark (others r.status member) r.contribution k h in
        ranks-read (others r.status member) ranks a.well_ranked k
        (omega (arith, mark-within (others r.status member) k m, length-others r g member, a.ranks_length)) m

    sole : pool_sums r member pools ≡ after3 r member loss ∷ []
    sole =
        single (pool_sums r member pools) (length_pool-sums r member pools (omega arith) (omega arith) ∙ one)
        ∙ ap (λ (n : ℕ). n ∷ []) (total_pool-sums r member pools (omega arith) (omega arith) ∙ ap (after3 r member) together)

    pub same-charges : pooled_charges r member pools ranks ≡ charges r member loss ranks
    unfolding pooled_charges charges
    same-charges =
        ap (λ (xs : List ℕ). charges_by_pools xs (standing_of r member) ranks) sole
        ∙ one_pool_lem (after3 r member loss) (standing_of r member) ranks (length-standing r g member) a.ranks_length ranked

  -- the refusals are the same, each in its place
  counted : miscounted pools.count ≡ false
  counted = ap miscounted one

  thirteen : excessive_losses (losses_of pools) ≡ ltb sum_limit loss
  thirteen = ap excessive_losses only ∙ or-false (ltb sum_limit loss)

  fourteen : (slip : ℕ) → pools_unready pools.count (length ranks) slip ≡ unready (length ranks) slip
  fourteen slip = ap (λ (n : ℕ). pools_unready n (length ranks) slip) one

  sixty-four : (slip : ℕ) → unready (length ranks) slip ≡ false → length ranks ≡ member_limit
  sixty-four slip e = eqb-true (length ranks) member_limit
      (not-false _ (or_parts (not (eqb (length ranks) member_limit)) (ltb slip (member_limit + member_limit)) e).0)

  fifteen : length ranks ≡ member_limit → pools_misranked (others r.status member) ranks pools.count ≡ misranked (others r.status member) ranks
  unfolding pools_misranked
  fifteen l =
      ap (pools_misranked (others r.status member) ranks) one
      ∙ ap (misranked (others r.status member)) (take_all member_limit ranks (omega (arith, l)))

  same-admission : (slip : ℕ) → pools_admission r.status member pools ranks slip ≡ admission r.status member loss ranks slip
  same-admission slip =
      check_same (is_absent (status_at r.status member)) (is_absent (status_at r.status member)) (Some Refusal.Unregistered) _ _ refl (λ p11.
      check_same (is_in-default (status_at r.status member)) (is_in-default (status_at r.status member)) (Some Refusal.InDefault) _ _ refl (λ p12.
      check_skip (miscounted pools.count) (Some Refusal.Miscounted) _ _ counted
      (check_same (excessive_losses (losses_of pools)) (ltb sum_limit loss) (Some Refusal.ExcessiveLoss) _ _ thirteen (λ p13.
      check_skip (ltb sum_limit (total (losses_of pools))) (Some Refusal.ExcessiveLosses) _ _ (ap (ltb sum_limit) together ∙ p13)
      (check_same (pools_unready pools.count (length ranks) slip) (unready (length ranks) slip) (Some Refusal.Unready) _ _ (fourteen slip) (λ p14.
      check_same (pools_misranked (others r.status member) ranks pools.count) (misranked (others r.status member) ranks) (Some Refusal.Misranked) None None
      (fifteen (sixty-four slip p14)) (λ p15. refl)))))))

  -- a default of which all is known that 11 to 15 ask passes them
  pub one_pool-admits : (slip : ℕ) → Admitted r.status member loss ranks slip → pools_admission r.status member pools ranks slip ≡ None
  one_pool-admits slip a = same-admission slip ∙ admits r.status member loss ranks slip a

  pub charged_rightly : (slip : ℕ) → Admitted r.status member loss ranks slip → Layer4 r member loss (charges r member loss ranks)
  charged_rightly slip a =
      let each-ranked : length ranks ≡ member_limit * pools.count = a.ranks_length ∙ ap (λ (n : ℕ). member_limit * n) (sym one) in
      subst (λ (l : ℕ). Layer4 r member l (charges r member loss ranks)) together
      (subst (Layer4 r member (loss_together pools)) (same-charges slip a) (pooled_layer4 r member pools (omega arith) (omega arith) g ranks each-ranked))

  -- it allocates and calls the same
  pub one_pool-allocation : (slip : ℕ) → Admitted r.status member loss ranks slip
      → pooled_allocation r member pools ranks ≡ allocation_of r member loss (charges r member loss ranks)
  unfolding pooled_allocation
  one_pool-allocation slip a =
      ap (λ (l : ℕ). allocation_of r member l (pooled_charges r member pools ranks)) together ∙ ap (allocation_of r member loss) (same-charges slip a)

  pub one_pool-calls : (slip : ℕ) → Admitted r.status member loss ranks slip
      → calls r member (loss_together pools) (pooled_charges r member pools ranks) ≡ calls r member loss (charges r member loss ranks)
  one_pool-calls slip a =
      ap (λ (l : ℕ). calls r member l (pooled_charges r member pools ranks)) together ∙ ap (calls r member loss) (same-charges slip a)

  same-refusal : (slip : List ℕ) → pooled_refusal r member pools ranks slip ≡ default_refusal r member loss ranks slip
  unfolding pooled_refusal default_refusal
  same-refusal slip = same-admission (length slip)

  -- where nothing is refused
  unrefused_admitted : (slip : List ℕ) → default_refusal r member loss ranks slip ≡ None → Admitted r.status member loss ranks (length slip)
  unfolding default_refusal
  unrefused_admitted slip e = admitted r.status member loss ranks (length slip) e

  one_pool-answers : (slip : List ℕ) → pooled_of r member pools ranks slip ≡ default_of r member loss ranks slip
  unfolding pooled_of default_of
  one_pool-answers slip =
      ap (λ (o : Option Refusal). judged o r (Some (pooled_allocation r member pools ranks))
      (settled_of r member (loss_together pools) (pooled_charges r member pools ranks))) (same-refusal slip)
      ∙ judged_same (default_refusal r member loss ranks slip) r _ _ _ _ (λ e.
      let a = unrefused_admitted slip e in (
        ap (λ (x : Allocation). Some x) (one_pool-allocation (length slip) a),
        ap (λ (l : ℕ). settled_of r member l (pooled_charges r member pools ranks)) together
            ∙ ap (settled_of r member loss) (same-charges (length slip) a),
      ))

  one_pool-slip : (slip : List ℕ) → pooled_slip r member pools ranks slip ≡ default_slip r member loss ranks slip
  unfolding pooled_slip default_slip
  one_pool-slip slip =
      check_same (is_some (pooled_refusal r member pools ranks slip)) (is_some (default_refusal r member loss ranks slip)) _ _ _
      (ap is_some (same-refusal slip)) (λ p.
      ap (λ (l : ℕ). slip_of r member l (pooled_charges r member pools ranks) slip) together
      ∙ ap (λ (cs : List ℕ). slip_of r member loss cs slip) (same-charges (length slip) (unrefused_admitted slip (is_none _ p))))

  pub one_pool_as-before : (slip : List ℕ) → AsBefore r member pools ranks slip
  one_pool_as-before slip = record { answer_and_register = one_pool-answers slip; slip_as_left = one_pool-slip slip }
