-- The sums of a block, and its two highest: as a record joins the block, they are what they were but for the record's own group, or its own loss.
use Rattle.std.proofs.Common.{◌≡◌, ℕ, zero, suc, ◌+◌, ◌≤◌, ◌<◌, min, max, Bool, false, cond, List, [], ◌∷◌, ◌++◌, map, filter, set, get_or, length, length-set, length-append, refl, sym, ◌∙◌, arith, eqb}
use Rattle.std.specs.List.{list_any}
use native.Mathlib.Nat.{min_comm, max_comm}
use Rattle.std.proofs.lemmas.Bool.Decides.{nat_tests}
use Rattle.std.proofs.lemmas.List.{ext_get_or, set-get_or, get_or_past}
use Rattle.std.proofs.lemmas.List.FromFn.{length-map-range_with_len, get_or-map-range_with_len}
use Rattle.lists.specs.Highest.{highest, second}
use Rattle.lists.specs.Limits.{group_limit}
use Rattle.lists.proofs.Places.{by_order, set_behind, raised}
use Rattle.lists.proofs.Highest.{second-le, get_or-le_highest, second-cons, highest-append, second-append, highest-set, second-set, highest-filter, second-filter}
use Rattle.cover.specs.Cover.{StressLoss, losses_of, group_sum, groups, block_sums}
use Rattle.cover.specs.Parts.{group_sums}

pub length-group_sums : (xs : List StressLoss) → length (group_sums xs) ≡ group_limit
unfolding groups
length-group_sums xs = length-map-range_with_len (group_sum xs) 1 group_limit

get_or-group_sums : (xs : List StressLoss) (k : ℕ) → k < group_limit → get_or (group_sums xs) k 0 ≡ group_sum xs (k + 1)
unfolding groups
get_or-group_sums xs k h = get_or-map-range_with_len (group_sum xs) 1 group_limit k (k + 1) 0 h (omega arith)

abbrev in_block : List StressLoss → ℕ → Bool
in_block xs g = list_any (λ r. eqb r.group g) xs

-- a group that is not in the block has lost nothing
none_of : (xs : List StressLoss) (g : ℕ) → in_block xs g ≡ false → group_sum xs g ≡ 0
unfolding losses_of
none_of [] g e = refl
none_of (r ∷ xs) g e = let rest = none_of xs g in grind (arith, nat_tests, rest)

-- a block of no records
pub none_yet : (k : ℕ) → get_or (group_sums []) k 0 ≡ 0
none_yet k = by_order k group_limit (λ h. get_or-group_sums [] k h ∙ none_of [] (k + 1) refl) (λ e. beyond (omega arith)) (λ l. beyond (omega arith))
  where
    beyond : group_limit ≤ k → get_or (group_sums []) k 0 ≡ 0
    beyond h = get_or_past (group_sums []) k 0 (omega (arith, length-group_sums []))

-- the sum of each member alone and of every group: its two highest are the block's
abbrev all_sums : List StressLoss → List ℕ
all_sums xs = losses_of 0 xs ++ group_sums xs

module _ (xs : List StressLoss) where
  highest_all : highest (block_sums xs) ≡ highest (all_sums xs)
  unfolding block_sums
  highest_all =
      omega (
        arith,
        highest-append (map (group_sum xs) (filter (in_block xs) groups)) (losses_of 0 xs),
        highest-filter (group_sum xs) (in_block xs) (none_of xs) groups,
        highest-append (losses_of 0 xs) (group_sums xs),
      )

  second_all : second (block_sums xs) ≡ second (all_sums xs)
  unfolding block_sums
  second_all =
      rw (
        second-append (map (group_sum xs) (filter (in_block xs) groups)) (losses_of 0 xs),
        second-append (losses_of 0 xs) (group_sums xs),
        second-filter (group_sum xs) (in_block xs) (none_of xs) groups,
        highest-filter (group_sum xs) (in_block xs) (none_of xs) groups,
        min_comm (highest (losses_of 0 xs)) (highest (group_sums xs)),
        max_comm (second (losses_of 0 xs)) (second (group_sums xs)),
      )
      refl

  -- no group's sum is above the highest
  pub group-le : (k : ℕ) → get_or (group_sums xs) k 0 ≤ highest (block_sums xs)
  group-le k = omega (arith, highest_all, highest-append (losses_of 0 xs) (group_sums xs), get_or-le_highest (group_sums xs) k)

-- the record x joins the records xs
module _ (xs : List StressLoss) (x : StressLoss) where
  sum_joined : (g : ℕ) → group_sum (x ∷ xs) g ≡ group_sum xs g + cond (eqb x.group g) x.loss 0
  unfolding losses_of
  sum_joined g = grind (arith, nat_tests)

  sum_at : (i : ℕ) → i < group_limit → get_or (group_sums (x ∷ xs)) i 0 ≡ get_or (group_sums xs) i 0 + cond (eqb x.group (i + 1)) x.loss 0
  sum_at i h = omega (arith, get_or-group_sums (x ∷ xs) i h, get_or-group_sums xs i h, sum_joined (i + 1))

  -- a member alone
  module _ (alone : x.group ≡ 0) where
    alone_joined : losses_of 0 (x ∷ xs) ≡ x.loss ∷ losses_of 0 xs
    unfolding losses_of
    alone_joined = grind (arith, nat_tests)

    pub sums_same : group_sums (x ∷ xs) ≡ group_sums xs
    sums_same =
        ext_get_or 0 (group_sums (x ∷ xs)) (group_sums xs) (length-group_sums (x ∷ xs) ∙ sym (length-group_sums xs))
        (λ i h. let here = sum_at i (omega (arith, length-group_sums (x ∷ xs))) in grind (arith, nat_tests, here))

    pub highest_alone : highest (block_sums (x ∷ xs)) ≡ max x.loss (highest (block_sums xs))
    unfolding highest
    highest_alone = rw (highest_all (x ∷ xs), highest_all xs, alone_joined, sums_same) refl

    pub second_alone : second (block_sums (x ∷ xs)) ≡ max (min x.loss (highest (block_sums xs))) (second (block_sums xs))
    second_alone = rw (second_all (x ∷ xs), second_all xs, highest_all xs, alone_joined, sums_same) (second-cons x.loss (all_sums xs))

  -- a member of the group whose sum is at place k
  module _ (k : ℕ) (h : k < group_limit) (in_group : x.group ≡ k + 1) where
    abbrev before : ℕ
    before = get_or (group_sums xs) k 0

    alone_same : losses_of 0 (x ∷ xs) ≡ losses_of 0 xs
    unfolding losses_of
    alone_same = grind (arith, nat_tests)

    pub sums_raised : group_sums (x ∷ xs) ≡ set (group_sums xs) k (before + x.loss)
    sums_raised =
        ext_get_or 0 (group_sums (x ∷ xs)) (set (group_sums xs) k (before + x.loss))
        (length-group_sums (x ∷ xs) ∙ sym (length-set (group_sums xs) k _ ∙ length-group_sums xs))
        (λ i l.
        let here = sum_at i (omega (arith, length-group_sums (x ∷ xs))) in
        let raise = raised (group_sums xs) k x.loss i (omega (arith, length-group_sums xs)) in
        grind (arith, nat_tests, here, raise))

    -- the other sums
    abbrev pub others : List ℕ
    others = losses_of 0 xs ++ set (group_sums xs) k 0

    all_are : (w : ℕ) → losses_of 0 xs ++ set (group_sums xs) k w ≡ set (all_sums xs) (length (losses_of 0 xs) + k) w
    all_are w = set_behind (losses_of 0 xs) (group_sums xs) k (length (losses_of 0 xs) + k) w refl

    within : length (losses_of 0 xs) + k < length (all_sums xs)
    within = omega (arith, length-append (losses_of 0 xs) (group_sums xs), length-group_sums xs)

    -- the two highest where the group has v
    module _ (ys : List StressLoss) (v : ℕ) (sums : group_sums ys ≡ set (group_sums xs) k v) (alone : losses_of 0 ys ≡ losses_of 0 xs) where
      highest_with : highest (block_sums ys) ≡ max v (highest others)
      highest_with = rw (highest_all ys, sums, alone, all_are v, all_are 0) (highest-set (all_sums xs) (length (losses_of 0 xs) + k) v within)

      second_with : second (block_sums ys) ≡ max (min v (highest others)) (second others)
      second_with = rw (second_all ys, sums, alone, all_are v, all_are 0) (second-set (all_sums xs) (length (losses_of 0 xs) + k) v within)

    pub highest_before : highest (block_sums xs) ≡ max before (highest others)
    highest_before = highest_with xs before (sym (set-get_or (group_sums xs) k 0)) refl

    pub second_before : second (block_sums xs) ≡ max (min before (highest others)) (second others)
    second_before = second_with xs before (sym (set-get_or (group_sums xs) k 0)) refl

    pub highest_now : highest (block_sums (x ∷ xs)) ≡ max (before + x.loss) (highest others)
    highest_now = highest_with (x ∷ xs) (before + x.loss) sums_raised alone_same

    pub second_now : second (block_sums (x ∷ xs)) ≡ max (min (before + x.loss) (highest others)) (second others)
    second_now = second_with (x ∷ xs) (before + x.loss) sums_raised alone_same

-- the highest is at least what it was, and at least the record's loss; it grows by no more than that loss, and with the second highest together too
pub record Grows (xs : List StressLoss) (x : StressLoss) : Type 0 where
  pub highest_least : highest (block_sums xs) ≤ highest (block_sums (x ∷ xs))
  pub loss_least : x.loss ≤ highest (block_sums (x ∷ xs))
  pub highest_most : highest (block_sums (x ∷ xs)) ≤ highest (block_sums xs) + x.loss
  pub cover_most : highest (block_sums (x ∷ xs)) + second (block_sums (x ∷ xs)) ≤ highest (block_sums xs) + second (block_sums xs) + x.loss

pub grows : (xs : List StressLoss) (x : StressLoss) → x.group ≤ group_limit → Grows xs x
grows xs x h = by_group x.group refl
  where
    by_group : (g : ℕ) → x.group ≡ g → Grows xs x
    by_group zero e =
        record {
          highest_least = omega (arith, highest_alone xs x e);
          loss_least = omega (arith, highest_alone xs x e);
          highest_most = omega (arith, highest_alone xs x e);
          cover_most = omega (arith, highest_alone xs x e, second_alone xs x e);
        }
    by_group (suc k) e =
        let l : k < group_limit = omega arith in
        let g : x.group ≡ k + 1 = omega arith in
        record {
          highest_least = omega (arith, highest_before xs x k l g, highest_now xs x k l g);
          loss_least = omega (arith, highest_now xs x k l g);
          highest_most = omega (arith, highest_before xs x k l g, highest_now xs x k l g);
          cover_most =
              omega (arith, highest_before xs x k l g, second_before xs x k l g, highest_now xs x k l g, second_now xs x k l g, second-le (others xs x k l g));
        }
