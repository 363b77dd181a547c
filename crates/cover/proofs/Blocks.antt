-- One pass over the blocks of a stress sheet: what is kept of a block as records join it, and of the worst block as blocks end.
use Rattle.std.proofs.Common.{◌≡◌, ℕ, ◌+◌, ◌≤◌, ◌<◌, max, Bool, true, false, cond, List, [], ◌∷◌, map, set, get_or, length, length-set, refl, sym, ap₂, ◌∙◌, arith, eqb, ltb, eqb-true, ltb-true, ltb-false}
use borrow.Author.Tests.{eqb-false}
use Rattle.std.proofs.lemmas.Bool.Decides.{nat_tests}
use Rattle.lists.specs.Checks.{check}
use Rattle.lists.specs.Highest.{highest, without}
use Rattle.lists.specs.Limits.{group_limit}
use Rattle.lists.specs.Sums.{AtMost}
use Rattle.lists.proofs.Checks.{check_by}
use Rattle.lists.proofs.Places.{by_order, raised, raised_above}
use Rattle.lists.proofs.Sums.{cond-le}
use Rattle.lists.proofs.Highest.{second-le}
use Rattle.sheets.specs.Bytes.{nonzero}
use Rattle.cover.specs.Cover.{StressLoss, losses_of, groups, block_sums, joins, blocks_from, blocks_of, cover_sum, earliest_with, flagged_loss, flagged_sum}
use Rattle.cover.proofs.Sums.{length-group_sums, none_yet, group-le, others, sums_same, sums_raised, highest_alone, second_alone, highest_before, second_before, highest_now, second_now, grows}
use Rattle.cover.specs.Parts.{group_sums, Kept, opened, placed, grown, cover_in, worse_of}
use Rattle.cover.specs.declared.Block.{Block}
use Rattle.cover.specs.declared.Covered.{Covered}

-- what is kept of a block --------------------------------------------------------------

-- no record yet
pub kept_none : (sums : List ℕ) (floor : ℕ) → length sums ≡ group_limit → AtMost sums floor → Kept [] sums (opened floor)
unfolding block_sums losses_of highest without flagged_sum groups
kept_none sums floor l h =
    record {
      long = l;
      sums_are = λ k. omega (arith, h k, none_yet k);
      top_is = omega arith;
      second_is = omega arith;
      flagged_is = refl;
    }

-- no sum is above the highest
pub sums_within : (xs : List StressLoss) (sums : List ℕ) (b : Block) → Kept xs sums b → AtMost sums b.top
sums_within xs sums b kept k = omega (arith, kept.sums_are k, kept.top_is, group-le xs k)

-- the worse of the worst block so far and the block of these records
pub worse_is : (w : Covered) (b : Block) (xs : List StressLoss) (sums : List ℕ) → Kept xs sums b
    → worse_of w (cover_in b) b.flagged ≡ worse_of w (cover_sum xs) (flagged_sum xs)
unfolding cover_sum
worse_is w b xs sums kept = ap₂ (worse_of w) (omega (arith, kept.top_is, kept.second_is)) kept.flagged_is

-- what a record adds to the flagged losses
pub flagged_now : (x : StressLoss) (found amount : ℕ) (weak : Bool) → x.loss ≡ amount → nonzero x.weak ≡ weak → found ≡ cond weak amount 0 → found ≡ flagged_loss x
flagged_now x found amount weak l w f = f ∙ sym (ap₂ (λ b n. cond b n 0) w l)

-- the record x joins the block of the records xs
module _ (sums : List ℕ) (b : Block) (xs : List StressLoss) (x : StressLoss) (flagged : ℕ) (kept : Kept xs sums b) (flagged_is : flagged ≡ b.flagged + flagged_loss x) where
  counted : flagged ≡ flagged_sum (x ∷ xs)
  unfolding flagged_sum
  counted = omega (arith, flagged_is, kept.flagged_is)

  abbrev pub flagged_block : Block
  flagged_block = record { floor = b.floor; top = b.top; second = b.second; flagged = flagged }

  -- a member alone
  module _ (alone : x.group ≡ 0) (sum : ℕ) (sum_is : sum ≡ b.floor + x.loss) where
    sums_still : (k : ℕ) → max (get_or sums k 0) b.floor ≡ b.floor + get_or (group_sums (x ∷ xs)) k 0
    sums_still k = rw (sums_same xs x alone) (kept.sums_are k)

    pub joined_alone : Kept (x ∷ xs) sums (placed sum flagged_block)
    joined_alone =
        let now = highest_alone xs x alone in
        let next = second_alone xs x alone in
        check_by (Kept (x ∷ xs) sums) (ltb b.top sum) _ _
        (λ t.
        record {
          long = kept.long;
          sums_are = sums_still;
          top_is = omega (arith, ltb-true b.top sum t, kept.top_is, now);
          second_is = omega (arith, ltb-true b.top sum t, kept.top_is, next, second-le (block_sums xs));
          flagged_is = counted;
        })
        (λ t.
        record {
          long = kept.long;
          sums_are = sums_still;
          top_is = omega (arith, ltb-false b.top sum t, kept.top_is, now);
          second_is = omega (arith, ltb-false b.top sum t, kept.top_is, kept.second_is, next);
          flagged_is = counted;
        })

  -- a member of the group whose sum is at place k
  module _ (k : ℕ) (h : k < group_limit) (in_group : x.group ≡ k + 1)
      (before sum : ℕ) (before_is : before ≡ max (get_or sums k 0) b.floor) (sum_is : sum ≡ before + x.loss) where
    sums_are_now : (i : ℕ) → max (get_or (set sums k sum) i 0) b.floor ≡ b.floor + get_or (group_sums (x ∷ xs)) i 0
    sums_are_now i =
        let was = kept.sums_are i in
        let above = raised_above sums b.floor k x.loss i (omega (arith, kept.long)) in
        let now = raised (group_sums xs) k x.loss i (omega (arith, length-group_sums xs)) in
        rw (sum_is, before_is, sums_raised xs x k h in_group) (omega (arith, was, above, now))

    pub joined_group : Kept (x ∷ xs) (set sums k sum) (grown before sum flagged_block)
    joined_group =
        let was = highest_before xs x k h in_group in
        let next_was = second_before xs x k h in_group in
        let now = highest_now xs x k h in_group in
        let next = second_now xs x k h in_group in
        let least = second-le (others xs x k h in_group) in
        let here = before_is ∙ kept.sums_are k in
        let long = length-set sums k sum ∙ kept.long in
        check_by (Kept (x ∷ xs) (set sums k sum)) (eqb before b.top) _ _
        (λ t.
        let leads = eqb-true before b.top t in
        record {
          long = long;
          sums_are = sums_are_now;
          top_is = omega (arith, leads, here, kept.top_is, was, now);
          second_is = omega (arith, leads, here, kept.top_is, kept.second_is, was, next_was, next, least);
          flagged_is = counted;
        })
        (λ f.
        let below = below_highest (eqb-false before b.top f) in
        check_by (Kept (x ∷ xs) (set sums k sum)) (ltb b.top sum) _ _
        (λ t.
        record {
          long = long;
          sums_are = sums_are_now;
          top_is = omega (arith, ltb-true b.top sum t, here, kept.top_is, was, now);
          second_is = omega (arith, ltb-true b.top sum t, below, here, kept.top_is, was, next, least);
          flagged_is = counted;
        })
        (λ t.
        record {
          long = long;
          sums_are = sums_are_now;
          top_is = omega (arith, ltb-false b.top sum t, below, here, kept.top_is, was, now);
          second_is = omega (arith, ltb-false b.top sum t, below, here, kept.top_is, kept.second_is, was, next_was, next);
          flagged_is = counted;
        }))
      where
        below_highest : (before ≡ b.top → ⊥) → before < b.top
        below_highest n =
            by_order before b.top (λ l. l) (λ e. absurd (n e))
            (λ l. absurd (omega (arith, before_is, kept.sums_are k, kept.top_is, highest_before xs x k h in_group)))

-- the worst of blocks ---------------------------------------------------------------

-- the worst block so far, after further blocks
unfoldable pub worst_of : Covered → List (List StressLoss) → Covered
worst_of w [] = w
worst_of w (b ∷ bs) = worst_of (worse_of w (cover_sum b) (flagged_sum b)) bs

abbrev pub nothing : Covered
nothing = record { cover = 0; weak = 0 }

abbrev most : List (List StressLoss) → ℕ
most bs = highest (map cover_sum bs)

abbrev flagged_with : ℕ → List (List StressLoss) → ℕ
flagged_with c bs = flagged_sum (earliest_with c bs)

-- a block that covers more than the worst so far, and one that does not
worse_by : (w : Covered) (b : List StressLoss)
    → (worse_of w (cover_sum b) (flagged_sum b)).cover ≡ max w.cover (cover_sum b) × (worse_of w (cover_sum b) (flagged_sum b)).weak ≡ check (ltb w.cover (cover_sum b)) (flagged_sum b) w.weak
unfolding check
worse_by w b = (grind (arith, nat_tests), grind (arith, nat_tests))

worst_is : (w : Covered) (bs : List (List StressLoss))
    → (worst_of w bs).cover ≡ max w.cover (most bs) × (worst_of w bs).weak ≡ check (ltb w.cover (most bs)) (flagged_with (most bs) bs) w.weak
unfolding check worst_of highest earliest_with
worst_is w [] = (grind (arith, nat_tests), grind (arith, nat_tests))
worst_is w (b ∷ bs) =
    let one = worse_by w b in
    let rest = worst_is (worse_of w (cover_sum b) (flagged_sum b)) bs in
    (grind (arith, nat_tests, one, rest), grind (arith, nat_tests, one, rest))

-- every group is 1 to 64, or 0
abbrev pub Grouped : List StressLoss → Type 0
Grouped [] = Unit {0}
Grouped (r ∷ rs) = (r.group ≤ group_limit) × Grouped rs

-- a block that covers nothing has no flagged losses
none_flagged : (b : List StressLoss) → Grouped b → highest (block_sums b) ≡ 0 → flagged_sum b ≡ 0
unfolding flagged_sum
none_flagged [] g e = refl
none_flagged (r ∷ b) g e =
    let more = grows b r g.0 in
    omega (arith, more.loss_least, none_flagged b g.1 (omega (arith, more.highest_least)), cond-le (nonzero r.weak) r.loss)

first_flagged : (b : List StressLoss) (bs : List (List StressLoss)) → Grouped b → most (b ∷ bs) ≡ 0 → flagged_with 0 (b ∷ bs) ≡ 0
unfolding highest earliest_with cover_sum
first_flagged b bs g e =
    check_by (λ (c : List StressLoss). flagged_sum c ≡ 0) (eqb (cover_sum b) 0) b (earliest_with 0 bs)
    (λ t. none_flagged b g (omega arith))
    (λ t. absurd (eqb-false (cover_sum b) 0 t (omega arith)))

none_at_all : (block records : List StressLoss) → Grouped block → Grouped records → most (blocks_from block records) ≡ 0 → flagged_with 0 (blocks_from block records) ≡ 0
unfolding check blocks_from
none_at_all block [] g h e = first_flagged block [] g e
none_at_all block (r ∷ rest) g h e = turn (joins r block) (none_at_all (r ∷ block) rest (h.0, g) h.1) e
  where
    turn : (t : Bool) → (most (blocks_from (r ∷ block) rest) ≡ 0 → flagged_with 0 (blocks_from (r ∷ block) rest) ≡ 0)
        → most (check t (blocks_from (r ∷ block) rest) (block ∷ blocks_from (r ∷ []) rest)) ≡ 0
        → flagged_with 0 (check t (blocks_from (r ∷ block) rest) (block ∷ blocks_from (r ∷ []) rest)) ≡ 0
    turn true on m = on m
    turn false on m = first_flagged block (blocks_from (r ∷ []) rest) g m

-- from nothing, the worst of the blocks of a sheet in order is the earliest that covers most
pub worst_of_all : (records : List StressLoss) → Grouped records
    → worst_of nothing (blocks_of records) ≡ record { cover = most (blocks_of records); weak = flagged_with (most (blocks_of records)) (blocks_of records) }
unfolding check
worst_of_all records g =
    let is = worst_is nothing (blocks_of records) in
    let none = none_at_all [] records tt g in
    grind (arith, nat_tests, is, none)
