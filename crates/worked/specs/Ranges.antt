-- Document 02, request 7: what a default of member 1 would take, on document 01's register, where its loss is known only as a range; the ranks are 2:1,
-- 3:2, 4:2. And a range of a member whose call is outstanding.
use Rattle.std.specs.Prelude.{◌≡◌, refl, ℕ, Result, Err, List, [], ◌∷◌, take, drop, replicate}
use Rattle.lists.specs.Checks.{check}
use Rattle.refusal.specs.declared.Refusal.{Refusal}
use Rattle.split.specs.Split.{share_of, split_of}
use Rattle.ranks.specs.Ranks.{charges_from, charges_of}
use Rattle.sheets.specs.Bytes.{le32}
use Rattle.sheets.specs.Columns.{columns_from, columns_of}
use Rattle.sheets.specs.Members.{outside, missing, excessive, member_fault}
use Rattle.sheets.specs.Sheet.{missized, member_refusal_from, member_refusal}
use Rattle.admission.specs.Admission.{misranked, pools_misranked}
use Rattle.pools.specs.Pools.{losses_after, joined_pool, sums_of, charges_in, charges_up_to, charges_together, unmet, still_standing, tied, charges_by_pools}
use Rattle.waterfall.specs.Opening.{opening_register, opening_refusal}
use Rattle.waterfall.specs.Default.{rooms_of, fallen_call, to_place, on_margin, after1, on_contribution, after2, on_tranche1, after3, charges, after4, on_tranche2, after5, on_calls, calls, shortfall, allocation_of, settled_of}
use Rattle.waterfall.specs.Pools.{given_before, pool_sums, pooled_charges, pooled_allocation, pooled_refusal, pooled_of, pooled_slip}
use Rattle.waterfall.specs.Reply.{judged}
use Rattle.ranges.specs.Ranges.{range_checks, range_of, range_slip, lows, highs}
use Rattle.ranges.specs.declared.Losses.{Losses}
use Rattle.ranges.specs.declared.Ranges.{Ranges}
use Rattle.worked.specs.Drills.{register, ranked, answers, default1, default2}

abbrev pub from_to : ℕ → ℕ → Losses
from_to low high = record { low = low; high = high }

-- a slip of 258 numbers
abbrev pub lent : List ℕ
lent = replicate 258 7

abbrev pub answer : ℕ → ℕ → Result Ranges Refusal
answer low high = range_of register 1 (from_to low high) (ranked 255 1 2 2) lent

abbrev pub left : ℕ → ℕ → List ℕ
left low high = range_slip register 1 (from_to low high) (ranked 255 1 2 2) lent

-- 80,000 end in the first tranche, and 160,000 call members 2 and 3: the charges of members 1 to 4 and their calls, the lows and then the highs; further
-- numbers stay.
pub from_80-to-160 : (lows (answer 80_000 160_000) ≡ answers 0 50_000 20_000 10_000 0 0 0 0)
    × (highs (answer 80_000 160_000) ≡ answers 0 50_000 20_000 13_200 60_000 8_800 8_000 0)
    × (take 4 (left 80_000 160_000) ≡ 0 ∷ 0 ∷ 0 ∷ 0 ∷ [])
    × (take 4 (drop 64 (left 80_000 160_000)) ≡ 0 ∷ 0 ∷ 0 ∷ 0 ∷ [])
    × (take 4 (drop 128 (left 80_000 160_000)) ≡ 0 ∷ 30_000 ∷ 10_000 ∷ 20_000 ∷ [])
    × (take 4 (drop 192 (left 80_000 160_000)) ≡ 0 ∷ 6_000 ∷ 2_000 ∷ 0 ∷ [])
    × (drop 256 (left 80_000 160_000) ≡ 7 ∷ 7 ∷ [])
unfolding register opening_refusal member_refusal member_refusal_from member_fault outside missing excessive missized le32 check opening_register columns_of columns_from misranked rooms_of fallen_call to_place on_margin after1 on_contribution after2 on_tranche1 after3 charges after4 on_tranche2 after5 on_calls calls shortfall allocation_of charges_of charges_from split_of share_of range_checks range_of range_slip
from_80-to-160 = (refl, refl, refl, refl, refl, refl, refl)

-- 160,000 call 8,000; 172,001 call all that the caps have, and leave 1 short. A slip of 256 numbers is enough.
pub from_160-to-172 : (lows (answer 160_000 172_001) ≡ answers 0 50_000 20_000 13_200 60_000 8_800 8_000 0)
    × (highs (answer 160_000 172_001) ≡ answers 0 50_000 20_000 13_200 60_000 8_800 20_000 1)
    × (take 4 (left 160_000 172_001) ≡ 0 ∷ 30_000 ∷ 10_000 ∷ 20_000 ∷ [])
    × (take 4 (drop 64 (left 160_000 172_001)) ≡ 0 ∷ 6_000 ∷ 2_000 ∷ 0 ∷ [])
    × (take 4 (drop 192 (left 160_000 172_001)) ≡ 0 ∷ 15_000 ∷ 5_000 ∷ 0 ∷ [])
    × (range_of register 1 (from_to 160_000 172_001) (ranked 255 1 2 2) (replicate 256 7) ≡ answer 160_000 172_001)
unfolding register opening_refusal member_refusal member_refusal_from member_fault outside missing excessive missized le32 check opening_register columns_of columns_from misranked rooms_of fallen_call to_place on_margin after1 on_contribution after2 on_tranche1 after3 charges after4 on_tranche2 after5 on_calls calls shortfall allocation_of charges_of charges_from split_of share_of range_checks range_of range_slip
from_160-to-172 = (refl, refl, refl, refl, refl, refl)

-- one loss, at which both ends are the same
pub at_one-loss : (lows (answer 100_001 100_001) ≡ answers 0 50_000 20_000 13_200 16_801 0 0 0)
    × (highs (answer 100_001 100_001) ≡ lows (answer 100_001 100_001))
    × (take 4 (left 100_001 100_001) ≡ 0 ∷ 0 ∷ 5_600 ∷ 11_201 ∷ [])
    × (take 4 (drop 128 (left 100_001 100_001)) ≡ 0 ∷ 0 ∷ 5_600 ∷ 11_201 ∷ [])
unfolding register opening_refusal member_refusal member_refusal_from member_fault outside missing excessive missized le32 check opening_register columns_of columns_from misranked rooms_of fallen_call to_place on_margin after1 on_contribution after2 on_tranche1 after3 charges after4 on_tranche2 after5 on_calls calls shortfall allocation_of charges_of charges_from split_of share_of range_checks range_of range_slip
at_one-loss = (refl, refl, refl, refl)

-- after document 01's first two defaults, member 2 owes 8,000, which fall with any loss of it; nothing is left to meet them
pub with_a_fallen-call : (lows (range_of default2.register 2 (from_to 0 5) (ranked 255 255 255 1) lent) ≡ answers 8_000 0 0 0 0 0 0 8_000)
    × (highs (range_of default2.register 2 (from_to 0 5) (ranked 255 255 255 1) lent) ≡ answers 8_000 0 0 0 0 0 0 8_005)
unfolding register default1 default2 opening_refusal member_refusal member_refusal_from member_fault outside missing excessive missized le32 check opening_register columns_of columns_from judged pooled_of pooled_slip pooled_refusal pooled_allocation pooled_charges pool_sums given_before pools_misranked misranked rooms_of fallen_call to_place on_margin after1 on_contribution after2 on_tranche1 after3 charges after4 on_tranche2 after5 on_calls calls shortfall allocation_of settled_of losses_after joined_pool sums_of charges_in charges_up_to charges_together unmet still_standing tied charges_by_pools charges_of charges_from split_of share_of range_checks range_of range_slip
with_a_fallen-call = (refl, refl)

-- 11 and 12 first; "23, low above high, just before 13, which tests the high"; 14; "24, range slip below 256 numbers, in the place of the slip part of
-- 14"; 15. The slip stays.
pub refused : (range_of register 5 (from_to 2 1) (ranked 255 1 2 2) lent ≡ Err Refusal.Unregistered)
    × (range_of default2.register 3 (from_to 2 1) (ranked 255 255 255 1) lent ≡ Err Refusal.InDefault)
    × (answer 2 1 ≡ Err Refusal.ReversedLosses)
    × (answer 25_600_000_002 25_600_000_001 ≡ Err Refusal.ReversedLosses)
    × (answer 0 25_600_000_001 ≡ Err Refusal.ExcessiveLoss)
    × (range_of register 1 (from_to 0 1) (255 ∷ []) (replicate 255 7) ≡ Err Refusal.Unready)
    × (range_of register 1 (from_to 0 1) (ranked 255 0 2 2) (replicate 255 7) ≡ Err Refusal.ShortRangeSlip)
    × (range_of register 1 (from_to 0 1) (ranked 255 0 2 2) lent ≡ Err Refusal.Misranked)
    × (left 2 1 ≡ lent)
    × (range_slip register 1 (from_to 0 1) (ranked 255 0 2 2) lent ≡ lent)
unfolding register default1 default2 opening_refusal member_refusal member_refusal_from member_fault outside missing excessive missized le32 check opening_register columns_of columns_from judged pooled_of pooled_slip pooled_refusal pooled_allocation pooled_charges pool_sums given_before pools_misranked misranked rooms_of fallen_call to_place on_margin after1 on_contribution after2 on_tranche1 after3 charges after4 on_tranche2 after5 on_calls calls shortfall allocation_of settled_of losses_after joined_pool sums_of charges_in charges_up_to charges_together unmet still_standing tied charges_by_pools charges_of charges_from split_of share_of range_checks range_of range_slip
refused = (refl, refl, refl, refl, refl, refl, refl, refl, refl, refl)
