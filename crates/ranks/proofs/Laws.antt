-- The laws of `charges_of`: what the callers of `charge_by_rank` know of the charges. Those above, of `charges_from`, lead to them by
-- induction on the rank.
use Prim.Native.Nat.{ℕ, zero, suc, ◌+◌, ◌-◌, ◌≤◌, ◌<◌, min}
use mathlib.Core.Path.{◌≡◌, refl, ap, sym, ◌∙◌}
use mathlib.Core.Bool.{Bool, true, false, cond}
use mathlib.Core.List.{List, [], ◌∷◌, map}
use mathlib.Core.Logic.{⊎_elim}
use native.Mathlib.Nat.{eq-or-lt_of_le, eq-zero-or-pos}
use native.Mathlib.Omega.{arith}
use lib.Dec.{eqb}
use lib.ListN.{length, get_or, length-replicate, length-map, get_or-map}
use borrow.Author.Tests.{eq-eqb, ne_eqb}
use Rattle.lists.specs.Limits.{rank_limit}
use Rattle.lists.specs.Sums.{total, keep}
use Rattle.lists.proofs.Places.{by_order}
use Rattle.lists.proofs.Sums.{get_or-le-total, total_zeros, get_or_zeros, total-le, length-plus, get_or-plus, total-plus, length-keep, keep-le, kept, unkept, cond-none}
use Rattle.split.specs.Split.{split_of}
use Rattle.split.proofs.Laws.{length-split, split-none, total_within, split-within, split_whole, split_grows}
use Rattle.ranks.specs.Ranks.{at_rank, rank_gives, charges_from, charges_of}

-- the weights of a rank ----------------------------------------------------------

mark : (q : ℕ) (rs : List ℕ) (k : ℕ) → 0 < q → get_or (map (eqb q) rs) k false ≡ eqb q (get_or rs k 0)
mark q rs k p = rw (ne_eqb q 0 (λ e. omega arith)) at (get_or-map (eqb q) rs k 0)

-- another rank's member has no weight
at_other : (q : ℕ) (ws rs : List ℕ) (k : ℕ) → 0 < q → (get_or rs k 0 ≡ q → ⊥) → get_or (at_rank q ws rs) k 0 ≡ 0
at_other q ws rs k p n = unkept (map (eqb q) rs) ws k (mark q rs k p ∙ ne_eqb q (get_or rs k 0) (λ e. n (sym e)))

-- a member of the rank has its weight
at_own : (q : ℕ) (ws rs : List ℕ) (k : ℕ) → 0 < q → get_or rs k 0 ≡ q → get_or (at_rank q ws rs) k 0 ≡ get_or ws k 0
at_own q ws rs k p e = kept (map (eqb q) rs) ws k (mark q rs k p ∙ eq-eqb q (get_or rs k 0) (sym e))

pub length_at : (q : ℕ) (ws rs : List ℕ) → length rs ≡ length ws → length (at_rank q ws rs) ≡ length ws
length_at q ws rs e = length-keep (map (eqb q) rs) ws (length-map rs (eqb q) ∙ e)

-- from a rank down ---------------------------------------------------------------

module _ (ws rs : List ℕ) where
  abbrev gives : ℕ → ℕ → ℕ
  gives q l = rank_gives q l ws rs

  abbrev from : ℕ → ℕ → List ℕ
  from q l = charges_from q l ws rs

  pub length-shares : (q m : ℕ) → length rs ≡ length ws → length (split_of m (at_rank q ws rs)) ≡ length ws
  length-shares q m e = length-split m (at_rank q ws rs) ∙ length_at q ws rs e

  pub length_from : (q l : ℕ) → length rs ≡ length ws → length (from q l) ≡ length ws
  unfolding charges_from
  length_from zero l e = length-replicate (length ws) 0
  length_from (suc q) l e =
      let g : ℕ = gives (suc q) l in
      let a : length (split_of g (at_rank (suc q) ws rs)) ≡ length ws = length-shares (suc q) g e in
      length-plus (split_of g (at_rank (suc q) ws rs)) (from q (l - g)) (a ∙ sym (length_from q (l - g) e)) ∙ a

  -- what a rank gives and the charges below it are the charges from it down
  total-suc : (q l : ℕ) → total (from (suc q) l) ≡ gives (suc q) l + total (from q (l - gives (suc q) l))
  unfolding charges_from
  total-suc q l =
      let g : ℕ = gives (suc q) l in
      omega (
        arith,
        total-plus (split_of g (at_rank (suc q) ws rs)) (from q (l - g)),
        total_within g (at_rank (suc q) ws rs) (omega arith),
      )

  pub total_from : (q l : ℕ) → total (from q l) ≤ l
  unfolding charges_from
  total_from zero l = omega (arith, total_zeros (length ws))
  total_from (suc q) l = omega (arith, total-suc q l, total_from q (l - gives (suc q) l))

  -- so nobody is charged more than the sum
  from-le-sum : (q l k : ℕ) → get_or (from q l) k 0 ≤ l
  from-le-sum q l k = omega (arith, get_or-le-total (from q l) k, total_from q l)

  -- a member's charge from a rank down: its share at the rank, and its charge at the ranks below
  from_suc : (q l k : ℕ) → get_or (from (suc q) l) k 0 ≡ get_or (split_of (gives (suc q) l) (at_rank (suc q) ws rs)) k 0 + get_or (from q (l - gives (suc q) l)) k 0
  unfolding charges_from
  from_suc q l k = get_or-plus (split_of (gives (suc q) l) (at_rank (suc q) ws rs)) (from q (l - gives (suc q) l)) k

  -- its share is 0 where its rank is another
  share_other : (q m k : ℕ) → 0 < q → (get_or rs k 0 ≡ q → ⊥) → get_or (split_of m (at_rank q ws rs)) k 0 ≡ 0
  share_other q m k p n = split-none m (at_rank q ws rs) k (at_other q ws rs k p n)

  -- a member whose rank is above those charged is charged nothing
  from_above : (q l k : ℕ) → q < get_or rs k 0 → get_or (from q l) k 0 ≡ 0
  unfolding charges_from
  from_above zero l k h = get_or_zeros (length ws) k
  from_above (suc q) l k h =
      omega (
        arith,
        from_suc q l k,
        share_other (suc q) (gives (suc q) l) k (omega arith) (λ e. omega arith),
        from_above q (l - gives (suc q) l) k (omega arith),
      )

  -- a member's charge where its rank is the highest, and where it is a lower one
  from_at : (q l k : ℕ) → get_or rs k 0 ≡ suc q → get_or (from (suc q) l) k 0 ≡ get_or (split_of (gives (suc q) l) (at_rank (suc q) ws rs)) k 0
  from_at q l k e = omega (arith, from_suc q l k, from_above q (l - gives (suc q) l) k (omega arith))

  from_below : (q l k : ℕ) → get_or rs k 0 < suc q → get_or (from (suc q) l) k 0 ≡ get_or (from q (l - gives (suc q) l)) k 0
  from_below q l k h =
      omega (
        arith,
        from_suc q l k,
        share_other (suc q) (gives (suc q) l) k (omega arith) (λ e. omega arith),
      )

  -- where something is left for the ranks below, a rank is charged whole
  from_whole : (q l k : ℕ) → 0 < l - gives (suc q) l → get_or rs k 0 ≡ suc q → get_or (from (suc q) l) k 0 ≡ get_or ws k 0
  from_whole q l k p e =
      let t : gives (suc q) l ≡ total (at_rank (suc q) ws rs) = omega arith in
      from_at q l k e ∙ ap (λ (m : ℕ). get_or (split_of m (at_rank (suc q) ws rs)) k 0) t ∙ ap (λ (xs : List ℕ). get_or xs k 0) (split_whole (at_rank (suc q) ws rs)) ∙ at_own (suc q) ws rs k (omega arith) e

  -- nobody is charged more than its weight
  from-within : (q l k : ℕ) → get_or (from q l) k 0 ≤ get_or ws k 0
  unfolding charges_from
  from-within zero l k = omega (arith, get_or_zeros (length ws) k)
  from-within (suc q) l k =
      let g : ℕ = gives (suc q) l in
      by_order
      (get_or rs k 0)
      (suc q)
      (λ h. omega (arith, from_below q l k h, from-within q (l - g) k))
      (λ e. omega (arith, from_at q l k e, split-within g (at_rank (suc q) ws rs) (omega arith) k, keep-le (map (eqb (suc q)) rs) ws k))
      (λ h. omega (arith, from_above (suc q) l k h))

  -- where not all of the sum is charged, each member of a rank is charged whole
  from_exhausted : (q l k : ℕ) → 0 < get_or rs k 0 → get_or rs k 0 ≤ q → total (from q l) < l → get_or (from q l) k 0 ≡ get_or ws k 0
  from_exhausted zero l k a b p = omega arith
  from_exhausted (suc q) l k a b p =
      let n : ℕ = l - gives (suc q) l in
      ⊎_elim
      (λ e. from_whole q l k (omega (arith, total-suc q l)) e)
      (λ h. from_below q l k h ∙ from_exhausted q n k a (omega arith) (omega (arith, total-suc q l)))
      (eq-or-lt_of_le b)

  -- where a member is charged, each member of a greater rank is charged whole
  from_juniors : (q l i j : ℕ) → get_or rs i 0 < get_or rs j 0 → get_or rs j 0 ≤ q → 0 < get_or (from q l) i 0 → get_or (from q l) j 0 ≡ get_or ws j 0
  from_juniors zero l i j a b p = omega arith
  from_juniors (suc q) l i j a b p =
      let n : ℕ = l - gives (suc q) l in
      let o : 0 < get_or (from q n) i 0 = omega (arith, from_below q l i (omega arith)) in
      ⊎_elim
      (λ e. from_whole q l j (omega (arith, from-le-sum q n i)) e)
      (λ h. from_below q l j h ∙ from_juniors q n i j a (omega arith) o)
      (eq-or-lt_of_le b)

  -- of a larger sum nobody is charged less
  from_grows : (q : ℕ) {l m : ℕ} → l ≤ m → (k : ℕ) → get_or (from q l) k 0 ≤ get_or (from q m) k 0
  unfolding charges_from
  from_grows zero h k = omega arith
  from_grows (suc q) {l} {m} h k =
      omega (
        arith,
        from_suc q l k,
        from_suc q m k,
        split_grows (at_rank (suc q) ws rs) {l = gives (suc q) l} {m = gives (suc q) m} (omega arith) k,
        from_grows q {l = l - gives (suc q) l} {m = m - gives (suc q) m} (omega arith) k,
      )

  -- nor are all together charged less, and no less is left: whatever the ranks, also where some are never charged
  totals_grow : (q : ℕ) {l m : ℕ} → l ≤ m → (total (from q l) ≤ total (from q m)) × (l - total (from q l) ≤ m - total (from q m))
  unfolding charges_from
  totals_grow zero h = (omega arith, omega arith)
  totals_grow (suc q) {l} {m} h =
      let below = totals_grow q {l = l - gives (suc q) l} {m = m - gives (suc q) m} (omega arith) in (
        omega (arith, total-suc q l, total-suc q m, below.0),
        omega (arith, total-suc q l, total-suc q m, below.1),
      )

-- ranks that are not read --------------------------------------------------------

-- to leave out a rank is to leave out its weight
at_unread : (q : ℕ) (bs : List Bool) (ws rs : List ℕ) → at_rank (suc q) ws (keep bs rs) ≡ at_rank (suc q) (keep bs ws) rs
at_unread q [] ws [] = refl
at_unread q [] ws (r ∷ rs) = refl
at_unread q (b ∷ bs) ws [] = refl
at_unread q (b ∷ bs) [] (r ∷ rs) = refl
at_unread q (true ∷ bs) (w ∷ ws) (r ∷ rs) = ap (λ (xs : List ℕ). cond (eqb (suc q) r) w 0 ∷ xs) (at_unread q bs ws rs)
at_unread q (false ∷ bs) (w ∷ ws) (r ∷ rs) = rw (ne_eqb (suc q) 0 (λ e. omega arith), ← cond-none (eqb (suc q) r), at_unread q bs ws rs)

module _ (bs : List Bool) (ws rs : List ℕ) (e : length (keep bs ws) ≡ length ws) where
  from_unread : (q l : ℕ) → charges_from q l ws (keep bs rs) ≡ charges_from q l (keep bs ws) rs
  unfolding charges_from
  from_unread zero l = rw e
  from_unread (suc q) l = rw (at_unread q bs ws rs, from_unread q)

  pub charges_unread : (sum : ℕ) → charges_of sum ws (keep bs rs) ≡ charges_of sum (keep bs ws) rs
  unfolding charges_of
  charges_unread sum = from_unread rank_limit sum

-- what callers cite --------------------------------------------------------------

-- a charge by rank grows with its sum: each charge, and what is charged and what is left in all
module _ {low high : ℕ} (weights ranks : List ℕ) (more : low ≤ high) where
  pub charges_grow : (k : ℕ) → get_or (charges_of low weights ranks) k 0 ≤ get_or (charges_of high weights ranks) k 0
  unfolding charges_of
  charges_grow k = from_grows weights ranks rank_limit more k

  pub charged_and_left-grow : (total (charges_of low weights ranks) ≤ total (charges_of high weights ranks))
      × (low - total (charges_of low weights ranks) ≤ high - total (charges_of high weights ranks))
  unfolding charges_of
  charged_and_left-grow = totals_grow weights ranks rank_limit more

module _ (sum : ℕ) (weights ranks : List ℕ) where
  pub length-charges : length ranks ≡ length weights → length (charges_of sum weights ranks) ≡ length weights
  unfolding charges_of
  length-charges e = length_from weights ranks rank_limit sum e

  -- each charge is at most its weight
  pub charge-within : (k : ℕ) → get_or (charges_of sum weights ranks) k 0 ≤ get_or weights k 0
  unfolding charges_of
  charge-within k = from-within weights ranks rank_limit sum k

  -- so a weight of 0 is charged 0
  pub charge-none : (k : ℕ) → get_or weights k 0 ≡ 0 → get_or (charges_of sum weights ranks) k 0 ≡ 0
  charge-none k e = omega (arith, charge-within k)

  -- the charges are at most the sum
  pub charges-within : total (charges_of sum weights ranks) ≤ sum
  unfolding charges_of
  charges-within = total_from weights ranks rank_limit sum

  -- where somebody is charged, everybody of a greater rank is charged whole
  pub juniors-first : (i j : ℕ) → 0 < get_or (charges_of sum weights ranks) i 0 → get_or ranks i 0 < get_or ranks j 0 → get_or ranks j 0 ≤ rank_limit
      → get_or (charges_of sum weights ranks) j 0 ≡ get_or weights j 0
  unfolding charges_of
  juniors-first i j p a b = from_juniors weights ranks rank_limit sum i j a b p

  -- where every weight has a rank, and not all of the sum is charged, every weight is charged whole
  module _ (ranked : (k : ℕ) → 0 < get_or weights k 0 → (0 < get_or ranks k 0) × (get_or ranks k 0 ≤ rank_limit)) where
    pub exhausted : total (charges_of sum weights ranks) < sum → (k : ℕ) → get_or (charges_of sum weights ranks) k 0 ≡ get_or weights k 0
    unfolding charges_of
    exhausted p k =
        ⊎_elim
        (λ z. omega (arith, charge-none k z))
        (λ h. from_exhausted weights ranks rank_limit sum k (ranked k h).0 (ranked k h).1 p)
        (eq-zero-or-pos (get_or weights k 0))

    -- so the charges are all that the weights have, or all of the sum
    pub charges_whole : length ranks ≡ length weights → total (charges_of sum weights ranks) ≡ min sum (total weights)
    charges_whole e =
        let cs : List ℕ = charges_of sum weights ranks in
        let n : length cs ≡ length weights = length-charges e in
        let w : total cs ≤ total weights = total-le cs weights (omega arith) charge-within in
        ⊎_elim
        (λ z. omega (arith, charges-within))
        (λ h.
        let b : total weights ≤ total cs = total-le weights cs (omega arith) (λ k. omega (arith, exhausted (omega arith) k)) in
        omega arith)
        (eq-zero-or-pos (sum - total cs))
