-- No share of a default passes what it is drawn from, by two laws of the split: no share passes the sum (`split-le`), and with a sum of at most the
-- weights none passes its weight (`split-within`, which the laws cited here rest on).
use Prim.Native.Nat.{ℕ}
use mathlib.Core.List.{List}
use native.Mathlib.Omega.{arith}
use lib.ListN.{get_or}
use Rattle.split.proofs.Laws.{split-le}
use Rattle.admission.specs.Admission.{pool_ranks}
use Rattle.admission.specs.declared.Pools.{Pools}
use Rattle.ranks.proofs.Laws.{charge-within}
use Rattle.pools.specs.Pools.{portions_of, charges_in}
use Rattle.pools.proofs.Laws.{get_or-portions, tied-within, by-pools-within}
use Rattle.waterfall.specs.Default.{standing_of}
use Rattle.waterfall.specs.Pockets.{WithinPockets}
use Rattle.waterfall.specs.Pools.{loss_together, pool_sums, pool_portions, pool_charges, pooled_charges}
use Rattle.waterfall.specs.Register.{Register, GivenBack}
use Rattle.waterfall.proofs.Default.{rooms-within, calls-within}

module _ (r : Register) (g : GivenBack r) (member : ℕ) (pools : Pools) (ranks : List ℕ) where
  abbrev sums : List ℕ
  sums = pool_sums r member pools

  abbrev stands : List ℕ
  stands = standing_of r member

  pub no_share_above : WithinPockets r member pools ranks
  unfolding pool_portions pool_charges pooled_charges charges_in
  no_share_above =
      record {
        portion = λ p k. omega (arith, get_or-portions sums stands p k, split-le (get_or stands k 0) sums p);
        in_pool = λ p k. charge-within (get_or sums p 0) (portions_of sums stands p) (pool_ranks ranks p) k;
        in_tie = tied-within sums stands ranks;
        charged = by-pools-within sums stands ranks;
        called = calls-within r member (loss_together pools) (pooled_charges r member pools ranks);
        capped = λ k.
            omega (arith, calls-within r member (loss_together pools) (pooled_charges r member pools ranks) k, rooms-within r member k, g.called_fits k);
      }
