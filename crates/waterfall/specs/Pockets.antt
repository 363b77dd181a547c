-- Document 02, request 8: "no sheet and no call can bring" "a share above its pocket", so hosts need no screen for one. Theorem `no_share_above` in
-- proofs/Pockets.antt, of every register that an opening or a call gave back and every default in it: any member, any number of pools, any ranks. That
-- no sheet and no list of calls can bring one is `never_above` (drill/proofs/Theorem.antt).
use Rattle.std.specs.Prelude.{ℕ, ◌+◌, ◌≤◌, List, get_or}
use Rattle.admission.specs.declared.Pools.{Pools}
use Rattle.pools.specs.Pools.{still_standing, tied}
use Rattle.waterfall.specs.Default.{standing_of, rooms_of, calls}
use Rattle.waterfall.specs.Pools.{loss_together, pool_sums, pool_portions, pool_charges, pooled_charges}
use Rattle.waterfall.specs.Register.{Register}

-- No share of a default passes what it is drawn from: of every pool p, and of every member's place k, both counted from 0. What layers 4 and 6 charge
-- and call in all, `pooled_charges` and `calls`, is what the slip receives (`slip_of`).
pub record WithinPockets (r : Register) (member : ℕ) (pools : Pools) (ranks : List ℕ) : Type 0 where
  -- layer 4: a pool's portion is drawn from another live member's contribution, and what the pool charges from the portion
  pub portion : (p k : ℕ) → get_or (pool_portions r member pools p) k 0 ≤ get_or (standing_of r member) k 0
  pub in_pool : (p k : ℕ) → get_or (pool_charges r member pools ranks p) k 0 ≤ get_or (pool_portions r member pools p) k 0
  -- the last tie is drawn from what then still stands
  pub in_tie : (k : ℕ) → get_or (tied (pool_sums r member pools) (standing_of r member) ranks) k 0
      ≤ get_or (still_standing (pool_sums r member pools) (standing_of r member) ranks) k 0
  -- and all of it together from the contribution
  pub charged : (k : ℕ) → get_or (pooled_charges r member pools ranks) k 0 ≤ get_or (standing_of r member) k 0
  -- layer 6: a call is drawn from the rest of another live member's cap, and so with what was called since the last close it is within the cap
  pub called : (k : ℕ) → get_or (calls r member (loss_together pools) (pooled_charges r member pools ranks)) k 0 ≤ get_or (rooms_of r member) k 0
  pub capped : (k : ℕ) → get_or r.called k 0 + get_or (calls r member (loss_together pools) (pooled_charges r member pools ranks)) k 0
      ≤ get_or r.cap k 0
