-- The laws of layer 4 by pools: what the callers of `charge_by_pools` know of the charges.
use Prim.Native.Nat.{ℕ, zero, suc, ◌+◌, ◌-◌, ◌*◌, ◌≤◌, ◌<◌}
use mathlib.Core.Path.{◌≡◌, refl, ap, sym, ◌∙◌}
use mathlib.Core.List.{List, [], ◌∷◌}
use mathlib.Core.Logic.{⊎_elim}
use native.Mathlib.Nat.{eq-zero-or-pos}
use native.Mathlib.Numerals.{add-one}
use native.Mathlib.Omega.{arith}
use lib.ListN.{length, get_or, drop, replicate, length-replicate, length-map, get_or-map}
use lib.Seq.{take_all}
use Rattle.lists.specs.Limits.{member_limit, rank_limit}
use Rattle.lists.specs.Sums.{total}
use Rattle.lists.proofs.Places.{map_same}
use Rattle.lists.proofs.Sums.{total_zeros, get_or_zeros, zeros, length-plus, get_or-plus, total-plus, plus_none, none-plus, length-minus}
use Rattle.lists.proofs.Sums.{get_or-minus, total-minus}
use Rattle.split.specs.Split.{share_of, split_of}
use Rattle.split.proofs.Laws.{share-le_left, share-last, length-split, split-le, split-within, split_whole, total_within}
use Rattle.ranks.specs.Ranks.{charges_of}
use Rattle.ranks.proofs.Laws.{length-charges, charge-within, charges-within, charges_whole, juniors-first}
use Rattle.admission.specs.Admission.{pool_ranks}
use Rattle.admission.proofs.EachPool.{length_pool-ranks}
use Rattle.rooms.specs.Rooms.{gives}
use Rattle.pools.specs.Pools.{portion_of, portions_of, charges_in, charges_up_to, charges_together, unmet, still_standing, tied, charges_by_pools}
use Rattle.pools.specs.Parts.{undivided}
use Rattle.std.proofs.lemmas.List.{at_drop_more}

-- portions -----------------------------------------------------------------------

-- nothing is divided into nothing
pub portion-none : (sums : List ℕ) (p : ℕ) → portion_of sums p 0 ≡ 0
portion-none sums p = omega (arith, split-le 0 sums p)

pub get_or-portions : (sums ws : List ℕ) (p k : ℕ) → get_or (portions_of sums ws p) k 0 ≡ portion_of sums p (get_or ws k 0)
get_or-portions sums ws p k = rw (portion-none sums p) at (get_or-map (portion_of sums p) ws k 0)

-- a pool's portion is its turn of the split of what is left of the weight
pub portion_turn : (p : ℕ) (sums : List ℕ) (w : ℕ) → p < length sums
    → portion_of sums p w ≡ share_of (undivided p sums w) (get_or sums p 0) (total (drop p sums))
unfolding split_of undivided
portion_turn p [] w h = absurd (omega arith)
portion_turn zero (s ∷ sums) w h = refl
portion_turn (suc p) (s ∷ sums) w h = portion_turn p sums (w - share_of w s (s + total sums)) (omega arith)

pub undivided_turn : (p : ℕ) (sums : List ℕ) (w : ℕ) → p < length sums → undivided (suc p) sums w ≡ undivided p sums w - portion_of sums p w
unfolding split_of undivided
undivided_turn p [] w h = absurd (omega arith)
undivided_turn zero (s ∷ sums) w h = refl
undivided_turn (suc p) (s ∷ sums) w h = undivided_turn p sums (w - share_of w s (s + total sums)) (omega arith)

-- it is at most what is left
portion-le : (p : ℕ) (sums : List ℕ) (w : ℕ) → p < length sums → portion_of sums p w ≤ undivided p sums w
portion-le p sums w h =
    omega (
      arith,
      portion_turn p sums w h,
      share-le_left (undivided p sums w) (get_or sums p 0) (total (drop p sums)) (omega (arith, at_drop_more total sums p 0 h)),
    )

-- the pools' charges ----------------------------------------------------------------

module _ (sums ws ranks : List ℕ) where
  abbrev up_to : ℕ → List ℕ
  up_to p = charges_up_to sums ws ranks p

  abbrev in_pool : ℕ → List ℕ
  in_pool p = charges_in sums ws ranks p

  -- a pool charges nobody more than its portion, and no more than its sum
  pub in_within : (p k : ℕ) → get_or (in_pool p) k 0 ≤ portion_of sums p (get_or ws k 0)
  unfolding charges_in
  in_within p k = omega (arith, charge-within (get_or sums p 0) (portions_of sums ws p) (pool_ranks ranks p) k, get_or-portions sums ws p k)

  pub in-placed : (p : ℕ) → total (in_pool p) ≤ get_or sums p 0
  unfolding charges_in
  in-placed p = charges-within (get_or sums p 0) (portions_of sums ws p) (pool_ranks ranks p)

  -- "a pool charges every portion of a greater rank whole before a lesser one gives anything"
  pub in_juniors-first : (p i j : ℕ) → 0 < get_or (in_pool p) i 0 → get_or (pool_ranks ranks p) i 0 < get_or (pool_ranks ranks p) j 0
      → get_or (pool_ranks ranks p) j 0 ≤ rank_limit
      → get_or (in_pool p) j 0 ≡ portion_of sums p (get_or ws j 0)
  unfolding charges_in
  in_juniors-first p i j a b c = juniors-first (get_or sums p 0) (portions_of sums ws p) (pool_ranks ranks p) i j a b c ∙ get_or-portions sums ws p j

  -- the first pools charge no weight past what it is divided into
  pub up_to-within : (p : ℕ) → p ≤ length sums → (k : ℕ) → get_or (up_to p) k 0 + undivided p sums (get_or ws k 0) ≤ get_or ws k 0
  unfolding charges_up_to undivided
  up_to-within zero h k = omega (arith, get_or_zeros (length ws) k)
  up_to-within (suc p) h k =
      let w : ℕ = get_or ws k 0 in
      omega (
        arith,
        get_or-plus (up_to p) (in_pool p) k,
        up_to-within p (omega arith) k,
        in_within p k,
        undivided_turn p sums w (omega arith),
        portion-le p sums w (omega arith),
      )

  pub up_to-placed : (p : ℕ) → p ≤ length sums → total (up_to p) + total (drop p sums) ≤ total sums
  unfolding charges_up_to
  up_to-placed zero h = omega (arith, total_zeros (length ws))
  up_to-placed (suc p) h =
      let t : total (drop p sums) ≡ get_or sums p 0 + total (drop (suc p) sums) = rw (add-one p) at (at_drop_more total sums p 0 (omega arith)) in
      omega (arith, total-plus (up_to p) (in_pool p), up_to-placed p (omega arith), in-placed p)

  module _ (long : length ws ≡ member_limit) (ranked : length ranks ≡ member_limit * length sums) where
    length_in : (p : ℕ) → p < length sums → length (in_pool p) ≡ member_limit
    unfolding charges_in
    length_in p h =
        let n : length (portions_of sums ws p) ≡ member_limit = length-map ws (portion_of sums p) ∙ long in
        length-charges (get_or sums p 0) (portions_of sums ws p) (pool_ranks ranks p) (length_pool-ranks ranks (length sums) ranked p h ∙ sym n) ∙ n

    pub length_up_to : (p : ℕ) → p ≤ length sums → length (up_to p) ≡ member_limit
    unfolding charges_up_to
    length_up_to zero h = length-replicate (length ws) 0 ∙ long
    length_up_to (suc p) h =
        let n : length (up_to p) ≡ member_limit = length_up_to p (omega arith) in
        length-plus (up_to p) (in_pool p) (n ∙ sym (length_in p (omega arith))) ∙ n

    pub length-pooled : length (charges_together sums ws ranks) ≡ member_limit
    unfolding charges_together
    length-pooled = length_up_to (length sums) (omega arith)

    length-tied : length (tied sums ws ranks) ≡ member_limit
    unfolding tied still_standing
    length-tied = length-split _ (still_standing sums ws ranks) ∙ length-minus ws (charges_together sums ws ranks) ∙ long

    pub length_by-pools : length (charges_by_pools sums ws ranks) ≡ member_limit
    unfolding charges_by_pools
    length_by-pools = length-plus (charges_together sums ws ranks) (tied sums ws ranks) (length-pooled ∙ sym length-tied) ∙ length-pooled

  pub pooled-within : (k : ℕ) → get_or (charges_together sums ws ranks) k 0 ≤ get_or ws k 0
  unfolding charges_together
  pooled-within k = omega (arith, up_to-within (length sums) (omega arith) k)

  pub pooled-placed : total (charges_together sums ws ranks) ≤ total sums
  unfolding charges_together
  pooled-placed = omega (arith, up_to-placed (length sums) (omega arith))

  -- the last tie
  pub tied-within : (k : ℕ) → get_or (tied sums ws ranks) k 0 ≤ get_or (still_standing sums ws ranks) k 0
  unfolding tied
  tied-within k = split-within _ (still_standing sums ws ranks) (omega arith) k

  total-tied : total (tied sums ws ranks) ≡ gives (unmet sums ws ranks) (total (still_standing sums ws ranks))
  unfolding tied
  total-tied = total_within _ (still_standing sums ws ranks) (omega arith)

  get_or-standing : (k : ℕ) → get_or (still_standing sums ws ranks) k 0 ≡ get_or ws k 0 - get_or (charges_together sums ws ranks) k 0
  unfolding still_standing
  get_or-standing k = get_or-minus ws (charges_together sums ws ranks) k

  -- what callers cite ----------------------------------------------------------------

  -- nobody is charged more than its weight, and no more is charged than the sums
  pub by-pools-within : (k : ℕ) → get_or (charges_by_pools sums ws ranks) k 0 ≤ get_or ws k 0
  unfolding charges_by_pools
  by-pools-within k =
      omega (
        arith,
        get_or-plus (charges_together sums ws ranks) (tied sums ws ranks) k,
        tied-within k,
        get_or-standing k,
        pooled-within k,
      )

  by-pools-total : total (charges_by_pools sums ws ranks) ≡ total (charges_together sums ws ranks) + gives (unmet sums ws ranks)
      (total (still_standing sums ws ranks))
  unfolding charges_by_pools
  by-pools-total = omega (arith, total-plus (charges_together sums ws ranks) (tied sums ws ranks), total-tied)

  pub by-pools-placed : total (charges_by_pools sums ws ranks) ≤ total sums
  unfolding unmet
  by-pools-placed = omega (arith, by-pools-total, pooled-placed)

  -- where not all of the sums is charged, every weight is charged whole
  pub by-pools_exhausted : total (charges_by_pools sums ws ranks) < total sums → (k : ℕ) → get_or (charges_by_pools sums ws ranks) k 0 ≡ get_or ws k 0
  unfolding charges_by_pools tied unmet
  by-pools_exhausted h k =
      let e : gives (unmet sums ws ranks) (total (still_standing sums ws ranks)) ≡ total (still_standing sums ws ranks) = omega
      (arith, by-pools-total, pooled-placed) in
      let t : get_or (tied sums ws ranks) k 0 ≡ get_or (still_standing sums ws ranks) k 0 =
      ap (λ (n : ℕ). get_or (split_of n (still_standing sums ws ranks)) k 0) e
      ∙ ap (λ (xs : List ℕ). get_or xs k 0) (split_whole (still_standing sums ws ranks)) in
      omega (
        arith,
        get_or-plus (charges_together sums ws ranks) (tied sums ws ranks) k,
        t,
        get_or-standing k,
        pooled-within k,
      )

-- one pool ----------------------------------------------------------------------------

-- with one pool the charges are the pool's, by rank over the whole weights, and nothing is left for a tie
module _ (s : ℕ) (ws ranks : List ℕ) (long : length ws ≡ member_limit) (lr : length ranks ≡ member_limit)
    (ranked : (k : ℕ) → 0 < get_or ws k 0 → (0 < get_or ranks k 0) × (get_or ranks k 0 ≤ rank_limit)) where
  alone_whole : 0 < s → portions_of (s ∷ []) ws 0 ≡ ws
  unfolding split_of
  alone_whole p =
      map_same (portion_of (s ∷ []) 0) (λ w. let e : s + 0 ≡ s = omega arith in ap (share_of w s) e ∙ share-last w s p) ws

  own-ranks : pool_ranks ranks 0 ≡ ranks
  own-ranks = take_all member_limit ranks (omega arith)

  -- nothing to place charges nothing
  none_charged : (vs rs : List ℕ) → length vs ≡ member_limit → length rs ≡ member_limit → s ≡ 0 → charges_of s vs rs ≡ replicate member_limit 0
  none_charged vs rs a b z =
      sym (zeros member_limit (charges_of s vs rs) (length-charges s vs rs (b ∙ sym a) ∙ a) (omega (arith, charges-within s vs rs)))

  alone-charges : charges_in (s ∷ []) ws ranks 0 ≡ charges_of s ws ranks
  unfolding charges_in
  alone-charges =
      ⊎_elim
      (λ z.
      ap (charges_of s (portions_of (s ∷ []) ws 0)) own-ranks
      ∙ none_charged (portions_of (s ∷ []) ws 0) ranks (length-map ws (portion_of (s ∷ []) 0) ∙ long) lr z
      ∙ sym (none_charged ws ranks long lr z))
      (λ p. ap (charges_of s (portions_of (s ∷ []) ws 0)) own-ranks ∙ ap (λ (vs : List ℕ). charges_of s vs ranks) (alone_whole p))
      (eq-zero-or-pos s)

  alone-pooled : charges_together (s ∷ []) ws ranks ≡ charges_of s ws ranks
  unfolding charges_together charges_up_to
  alone-pooled =
      plus_none (replicate (length ws) 0) (charges_in (s ∷ []) ws ranks 0)
      (omega (arith, length-replicate {A = ℕ} (length ws) 0, ap length alone-charges, length-charges s ws ranks (lr ∙ sym long)))
      (total_zeros (length ws))
      ∙ alone-charges

  none-tied : total (tied (s ∷ []) ws ranks) ≡ 0
  unfolding unmet still_standing
  none-tied =
      omega (
        arith,
        total-tied (s ∷ []) ws ranks,
        ap total alone-pooled,
        charges_whole s ws ranks ranked (lr ∙ sym long),
        total-minus ws (charges_together (s ∷ []) ws ranks) (omega (arith, ap length alone-pooled, length-charges s ws ranks (lr ∙ sym long)))
            (pooled-within (s ∷ []) ws ranks),
      )

  pub one_pool_lem : charges_by_pools (s ∷ []) ws ranks ≡ charges_of s ws ranks
  unfolding charges_by_pools
  one_pool_lem =
      none-plus (charges_together (s ∷ []) ws ranks) (tied (s ∷ []) ws ranks)
      (omega (arith, length-tied (s ∷ []) ws ranks long (omega (arith, lr)), length-pooled (s ∷ []) ws ranks long (omega (arith, lr))))
      none-tied
      ∙ alone-pooled
