-- What is known of a default that 11 to 15, 21 and 22 do not refuse.
use Prim.Native.Nat.{ℕ, ◌+◌, ◌*◌, ◌≤◌, ◌<◌}
use mathlib.Core.Path.{◌≡◌, refl, ap, sym, ◌∙◌}
use mathlib.Core.Bool.{false, not}
use mathlib.Core.List.{List, [], ◌∷◌, map}
use native.Mathlib.Omega.{arith}
use borrow.Author.Tests.{ltb-false, eqb-true, not-false, le-ltb, eq-eqb}
use lib.Dec.{eqb, ltb}
use lib.ListN.{length}
use lib.Seq.{take_all}
use Rattle.std.specs.Prelude.{None}
use Rattle.std.specs.List.{range_with_len}
use Rattle.std.proofs.lemmas.Bool.{or_parts}
use Rattle.lists.specs.Limits.{member_limit, pool_limit, sum_limit}
use Rattle.lists.specs.Sums.{total}
use Rattle.lists.proofs.Checks.{check_past, check_skip}
use Rattle.figures.specs.declared.Status.{Status}
use Rattle.figures.specs.Figures.{status_at, is_absent, is_in-default, others}
use Rattle.admission.specs.Admission.{misranked, unready, admission, loss_of, losses_of, miscounted, excessive_losses, pools_unready, pools_misranked, pools_admission}
use Rattle.admission.specs.declared.Pools.{Pools}
use Rattle.admission.proofs.Passed.{passes, present_test, default_test}

-- `slip` is how many numbers are lent
module _ (status : List Status) (member loss : ℕ) (ranks : List ℕ) (slip : ℕ) where
  pub record Admitted : Type 0 where
    pub present : status_at status member ≡ Status.Absent → ⊥
    pub not_in-default : status_at status member ≡ Status.InDefault → ⊥
    pub loss_fits : loss ≤ sum_limit
    pub ranks_length : length ranks ≡ member_limit
    pub slip-length : member_limit + member_limit ≤ slip
    pub well_ranked : misranked (others status member) ranks ≡ false

  pub admitted : admission status member loss ranks slip ≡ None → Admitted
  admitted e =
      let s = passes status member _ e in
      let c = check_past (ltb sum_limit loss) _ _ (λ q. cc) s.rest-none in
      let d = check_past (unready (length ranks) slip) _ _ (λ q. cc) c.1 in
      let f = check_past (misranked (others status member) ranks) _ None (λ q. cc) d.1 in
      record {
        present = s.present;
        not_in-default = s.not_in-default;
        loss_fits = ltb-false _ _ c.0;
        ranks_length = eqb-true _ _ (not-false _ (or_parts _ _ d.0).0);
        slip-length = ltb-false _ _ (or_parts (not (eqb (length ranks) member_limit)) _ d.0).1;
        well_ranked = f.0;
      }

  -- 11 to 15 refuse nothing of which all this is known
  pub admits : Admitted → admission status member loss ranks slip ≡ None
  admits a =
      check_skip (is_absent (status_at status member)) _ _ None (present_test _ a.present)
      (check_skip (is_in-default (status_at status member)) _ _ None (default_test _ a.not_in-default)
      (check_skip (ltb sum_limit loss) _ _ None (le-ltb _ _ a.loss_fits)
      (check_skip (unready (length ranks) slip) _ _ None (rw (eq-eqb _ _ a.ranks_length, le-ltb _ _ a.slip-length) refl)
      (check_skip (misranked (others status member) ranks) _ None None a.well_ranked refl))))

-- with pools ------------------------------------------------------------------------

module _ (status : List Status) (member : ℕ) (pools : Pools) (ranks : List ℕ) (slip : ℕ) where
  pub record PoolsAdmitted : Type 0 where
    pub present : status_at status member ≡ Status.Absent → ⊥
    pub not_in-default : status_at status member ≡ Status.InDefault → ⊥
    pub some : 0 < pools.count
    pub few : pools.count ≤ pool_limit
    pub each_fits : excessive_losses (losses_of pools) ≡ false
    pub losses_fit : total (losses_of pools) ≤ sum_limit
    pub ranks_length : length ranks ≡ member_limit * pools.count
    pub slip-length : member_limit + member_limit ≤ slip
    pub well_ranked : pools_misranked (others status member) ranks pools.count ≡ false

  pub pools_admitted : pools_admission status member pools ranks slip ≡ None → PoolsAdmitted
  pools_admitted e =
      let s = passes status member _ e in
      let n = check_past (miscounted pools.count) _ _ (λ q. cc) s.rest-none in
      let c = check_past (excessive_losses (losses_of pools)) _ _ (λ q. cc) n.1 in
      let t = check_past (ltb sum_limit (total (losses_of pools))) _ _ (λ q. cc) c.1 in
      let d = check_past (pools_unready pools.count (length ranks) slip) _ _ (λ q. cc) t.1 in
      let f = check_past (pools_misranked (others status member) ranks pools.count) _ None (λ q. cc) d.1 in
      let counted = or_parts (ltb pools.count 1) _ n.0 in
      record {
        present = s.present;
        not_in-default = s.not_in-default;
        some = ltb-false _ _ counted.0;
        few = ltb-false _ _ counted.1;
        each_fits = c.0;
        losses_fit = ltb-false _ _ t.0;
        ranks_length = eqb-true _ _ (not-false _ (or_parts _ _ d.0).0);
        slip-length = ltb-false _ _ (or_parts (not (eqb (length ranks) (member_limit * pools.count))) _ d.0).1;
        well_ranked = f.0;
      }

  -- with one pool it is admitted as document 01 has it
  pub admitted_one : pools.count ≡ 1 → PoolsAdmitted → Admitted status member (loss_of pools 0) ranks slip
  unfolding pools_misranked
  admitted_one one a =
      let l : length ranks ≡ member_limit = omega (arith, a.ranks_length, one) in
      let only : losses_of pools ≡ loss_of pools 0 ∷ [] = ap (λ (n : ℕ). map (loss_of pools) (range_with_len 0 n)) one in
      record {
        present = a.present;
        not_in-default = a.not_in-default;
        loss_fits = omega (arith, a.losses_fit, ap total only);
        ranks_length = l;
        slip-length = a.slip-length;
        well_ranked =
            sym (ap (misranked (others status member)) (take_all member_limit ranks (omega (arith, l))))
            ∙ sym (ap (pools_misranked (others status member) ranks) one)
            ∙ a.well_ranked;
      }
