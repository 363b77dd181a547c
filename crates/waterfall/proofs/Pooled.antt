-- Layer 4 by pools, on a register: what is known of the pools' sums and of the charges.
use Prim.Native.Nat.{ℕ, ◌*◌, ◌≤◌, ◌<◌}
use mathlib.Core.Path.{◌≡◌, ap, sym, ◌∙◌}
use mathlib.Core.List.{List, []}
use native.Mathlib.Omega.{arith}
use lib.ListN.{length}
use Rattle.lists.specs.Limits.{member_limit, pool_limit}
use Rattle.lists.specs.Sums.{total}
use Rattle.admission.specs.Admission.{losses_of}
use Rattle.admission.specs.declared.Pools.{Pools}
use Rattle.admission.proofs.EachPool.{length-losses}
use Rattle.pools.proofs.Sums.{counted-sums, total-sums}
use Rattle.pools.proofs.Laws.{length_by-pools, by-pools-within, by-pools-placed, by-pools_exhausted}
use Rattle.waterfall.specs.Register.{GivenBack}
use Rattle.waterfall.specs.Default.{standing_of, fallen_call, to_place, after3}
use Rattle.waterfall.specs.Pools.{loss_together, given_before, pool_sums, pooled_charges}
use Rattle.waterfall.specs.Register.{Register}
use Rattle.waterfall.proofs.Default.{Layer4, left1, left2, left3}
use Rattle.waterfall.proofs.Given.{length-standing}

module _ (r : Register) (member : ℕ) (pools : Pools) (some : 0 < pools.count) (few : pools.count ≤ pool_limit) where
  -- as many sums as pools, and together what layers 1 to 3 leave
  pub length_pool-sums : length (pool_sums r member pools) ≡ pools.count
  unfolding pool_sums
  length_pool-sums = counted-sums (given_before r member pools) (fallen_call r member) pools

  pub total_pool-sums : total (pool_sums r member pools) ≡ after3 r member (loss_together pools)
  unfolding pool_sums given_before to_place
  total_pool-sums =
      total-sums (given_before r member pools) (fallen_call r member) (losses_of pools) (omega (arith, length-losses pools))
      ∙ omega (arith, left1 r member (loss_together pools) [], left2 r member (loss_together pools) [], left3 r member (loss_together pools) [])

  -- what is known of layer 4
  pub pooled_layer4 : GivenBack r → (ranks : List ℕ) → length ranks ≡ member_limit * pools.count
      → Layer4 r member (loss_together pools) (pooled_charges r member pools ranks)
  unfolding pooled_charges
  pooled_layer4 g ranks l =
      let sums : List ℕ = pool_sums r member pools in
      let ws : List ℕ = standing_of r member in
      record {
        long = length_by-pools sums ws ranks (length-standing r g member) (l ∙ ap (λ (n : ℕ). member_limit * n) (sym length_pool-sums));
        weighed = by-pools-within sums ws ranks;
        within_left = omega (arith, by-pools-placed sums ws ranks, total_pool-sums);
        exhausted = λ h. by-pools_exhausted sums ws ranks (omega (arith, total_pool-sums));
      }
