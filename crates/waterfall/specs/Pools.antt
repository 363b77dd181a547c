-- Document 02, request 3, "Several auction pools in one default": the default that the calls make. Layers 1 to 3, 5 and 6 are those of Default.antt, the
-- losses of the pools being one loss together; layer 4 is charged pool by pool.
use Rattle.std.specs.Prelude.{ℕ, ◌+◌, ◌≡◌, List, length, Option, Some, is_some}
use Rattle.lists.specs.Checks.{check}
use Rattle.lists.specs.Sums.{total}
use Rattle.refusal.specs.declared.Refusal.{Refusal}
use Rattle.admission.specs.Admission.{loss_of, losses_of, pools_admission}
use Rattle.admission.specs.declared.Pools.{Pools}
use Rattle.pools.specs.Pools.{sums_of, portions_of, charges_in, charges_by_pools}
use Rattle.waterfall.specs.Default.{fallen_call, standing_of, on_margin, on_contribution, on_tranche1, allocation_of, settled_of}
use Rattle.waterfall.specs.Default.{slip_of, default_of, default_slip}
use Rattle.waterfall.specs.Register.{Register}
use Rattle.waterfall.specs.Reply.{judged}
use Rattle.layers.specs.declared.Allocation.{Allocation}
use Rattle.waterfall.specs.declared.Outcome.{Outcome}

-- all pool losses
abbrev pub loss_together : Pools → ℕ
loss_together pools = total (losses_of pools)

module _ (r : Register) (member : ℕ) (pools : Pools) where
  -- what layers 1 to 3 give, "as before"
  unfoldable pub given_before : ℕ
  given_before = on_margin r member (loss_together pools) + on_contribution r member (loss_together pools) + on_tranche1 r member (loss_together pools)

  -- what each pool then has to place
  unfoldable pub pool_sums : List ℕ
  pool_sums = sums_of given_before (fallen_call r member) (losses_of pools)

  -- pool p's portions of the other live members' contributions, pools being counted from 0
  unfoldable pub pool_portions : ℕ → List ℕ
  pool_portions p = portions_of pool_sums (standing_of r member) p

  module _ (ranks : List ℕ) where
    -- what pool p charges each member
    unfoldable pub pool_charges : ℕ → List ℕ
    pool_charges p = charges_in pool_sums (standing_of r member) ranks p

    -- 4. the pools' charges and the last tie's together
    unfoldable pub pooled_charges : List ℕ
    pooled_charges = charges_by_pools pool_sums (standing_of r member) ranks

    unfoldable pub pooled_allocation : Allocation
    pooled_allocation = allocation_of r member (loss_together pools) pooled_charges

    -- 11, 12, 21, 13, 22, 14, 15
    unfoldable pub pooled_refusal : List ℕ → Option Refusal
    pooled_refusal slip = pools_admission r.status member pools ranks (length slip)

    unfoldable pub pooled_of : List ℕ → Outcome
    pooled_of slip = judged (pooled_refusal slip) r (Some pooled_allocation) (settled_of r member (loss_together pools) pooled_charges)

    unfoldable pub pooled_slip : List ℕ → List ℕ
    pooled_slip slip = check (is_some (pooled_refusal slip)) slip (slip_of r member (loss_together pools) pooled_charges slip)

-- "A one-pool default answers as before.": the answer, the register and the slip are those of Default.antt. Theorem `one_pool_as-before` in
-- proofs/OnePool.antt, of every register that was given back.
pub record AsBefore (r : Register) (member : ℕ) (pools : Pools) (ranks slip : List ℕ) : Type 0 where
  pub answer_and_register : pooled_of r member pools ranks slip ≡ default_of r member (loss_of pools 0) ranks slip
  pub slip_as_left : pooled_slip r member pools ranks slip ≡ default_slip r member (loss_of pools 0) ranks slip
