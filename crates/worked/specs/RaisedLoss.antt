-- Document 02, request 6: a loss raised in front of the class, from document 01's register: member 1 fails, with ranks 2:1, 3:2, 4:2. And defaults of which the
-- theorem does not speak, where a larger loss charges less.
use Rattle.std.specs.Prelude.{ℕ, ◌≡◌, refl, List, [], ◌∷◌, ◌++◌, take, drop, replicate}
use Rattle.lists.specs.Checks.{check}
use Rattle.split.specs.Split.{share_of, split_of}
use Rattle.ranks.specs.Ranks.{charges_from, charges_of}
use Rattle.sheets.specs.Bytes.{le32}
use Rattle.sheets.specs.Columns.{columns_from, columns_of}
use Rattle.sheets.specs.Members.{outside, missing, excessive, member_fault}
use Rattle.sheets.specs.Sheet.{missized, member_refusal_from, member_refusal}
use Rattle.admission.specs.Admission.{one_pool, misranked, pools_misranked}
use Rattle.admission.specs.declared.Pools.{Pools}
use Rattle.pools.specs.Pools.{losses_after, joined_pool, sums_of, charges_in, charges_up_to, charges_together, unmet, still_standing, tied, charges_by_pools}
use Rattle.waterfall.specs.Opening.{opening_register, opening_refusal, opened_of}
use Rattle.waterfall.specs.Default.{rooms_of, fallen_call, to_place, on_margin, after1, on_contribution, after2, on_tranche1, after3, after4, on_tranche2, after5, on_calls, calls, shortfall, allocation_of, settled_of}
use Rattle.waterfall.specs.Pools.{given_before, pool_sums, pooled_charges, pooled_allocation, pooled_refusal, pooled_of, pooled_slip}
use Rattle.waterfall.specs.Register.{Register}
use Rattle.waterfall.specs.Reply.{Reply, judged}
use Rattle.worked.specs.Drills.{row, register, slip, ranked, answers}

-- the answer to a loss, and the layer 4 charges and the calls of members 1 to 4
abbrev pub answer : ℕ → Reply
answer loss = (pooled_of register 1 (one_pool loss) (ranked 255 1 2 2) slip).reply

abbrev pub charged : ℕ → List ℕ
charged loss = take 4 (pooled_slip register 1 (one_pool loss) (ranked 255 1 2 2) slip)

abbrev pub called : ℕ → List ℕ
called loss = take 4 (drop 64 (pooled_slip register 1 (one_pool loss) (ranked 255 1 2 2) slip))

-- a longer slip with other numbers in it
abbrev pub used_slip : List ℕ
used_slip = replicate 130 7

-- 80,000 end in the first tranche. Of the 20,000 that are added, it gives 3,200 and members 3 and 4 the rest; also where the slip that is lent holds other
-- numbers, of which the further ones stay.
pub from_80-to-100 : (answer 80_000 ≡ answers 0 50_000 20_000 10_000 0 0 0 0)
    × (charged 80_000 ≡ 0 ∷ 0 ∷ 0 ∷ 0 ∷ [])
    × (answer 100_000 ≡ answers 0 50_000 20_000 13_200 16_800 0 0 0)
    × (charged 100_000 ≡ 0 ∷ 0 ∷ 5_600 ∷ 11_200 ∷ [])
    × (called 100_000 ≡ 0 ∷ 0 ∷ 0 ∷ 0 ∷ [])
    × ((pooled_of register 1 (one_pool 100_000) (ranked 255 1 2 2) used_slip).reply ≡ answer 100_000)
    × (pooled_slip register 1 (one_pool 100_000) (ranked 255 1 2 2) used_slip ≡ pooled_slip register 1 (one_pool 100_000) (ranked 255 1 2 2) slip ++ (7 ∷ 7 ∷ []))
unfolding register opening_refusal member_refusal member_refusal_from member_fault outside missing excessive missized le32 check opening_register columns_of columns_from judged pooled_of pooled_slip pooled_refusal pooled_allocation pooled_charges pool_sums given_before pools_misranked misranked rooms_of fallen_call to_place on_margin after1 on_contribution after2 on_tranche1 after3 after4 on_tranche2 after5 on_calls calls shortfall allocation_of settled_of losses_after joined_pool sums_of charges_in charges_up_to charges_together unmet still_standing tied charges_by_pools charges_of charges_from split_of share_of
from_80-to-100 = (refl, refl, refl, refl, refl, refl, refl)

-- One thousand more in layer 4, in layer 6 and past it: it falls on one member alone, or on nobody.
pub by_one-thousand : (answer 100_001 ≡ answers 0 50_000 20_000 13_200 16_801 0 0 0)
    × (charged 100_001 ≡ 0 ∷ 0 ∷ 5_600 ∷ 11_201 ∷ [])
    × (answer 160_000 ≡ answers 0 50_000 20_000 13_200 60_000 8_800 8_000 0)
    × (called 160_000 ≡ 0 ∷ 6_000 ∷ 2_000 ∷ 0 ∷ [])
    × (answer 160_001 ≡ answers 0 50_000 20_000 13_200 60_000 8_800 8_001 0)
    × (called 160_001 ≡ 0 ∷ 6_000 ∷ 2_001 ∷ 0 ∷ [])
    × (answer 172_000 ≡ answers 0 50_000 20_000 13_200 60_000 8_800 20_000 0)
    × (answer 172_001 ≡ answers 0 50_000 20_000 13_200 60_000 8_800 20_000 1)
    × (called 172_001 ≡ 0 ∷ 15_000 ∷ 5_000 ∷ 0 ∷ [])
unfolding register opening_refusal member_refusal member_refusal_from member_fault outside missing excessive missized le32 check opening_register columns_of columns_from judged pooled_of pooled_slip pooled_refusal pooled_allocation pooled_charges pool_sums given_before pools_misranked misranked rooms_of fallen_call to_place on_margin after1 on_contribution after2 on_tranche1 after3 after4 on_tranche2 after5 on_calls calls shortfall allocation_of settled_of losses_after joined_pool sums_of charges_in charges_up_to charges_together unmet still_standing tied charges_by_pools charges_of charges_from split_of share_of
by_one-thousand = (refl, refl, refl, refl, refl, refl, refl, refl, refl)

-- two pools, and two registers ---------------------------------------------------------

unfoldable pub two_others : Register
two_others = (opened_of (row 1 0 10_000 0 ++ row 2 0 100_000 0 ++ row 3 0 100_000 0) 0).register

-- Member 1 fails; in the first pool member 3 is the more junior, in the second member 2.
abbrev pub two_pools : ℕ → ℕ → Pools
two_pools a b = record { count = 2; losses = a ∷ b ∷ 0 ∷ 0 ∷ [] }

abbrev pub two_ranks : List ℕ
two_ranks = ranked 255 1 2 255 ++ ranked 255 2 1 255

abbrev pub by_pools : ℕ → ℕ → Reply
by_pools a b = (pooled_of two_others 1 (two_pools a b) two_ranks slip).reply

abbrev pub charged_by-pools : ℕ → ℕ → List ℕ
charged_by-pools a b = take 3 (pooled_slip two_others 1 (two_pools a b) two_ranks slip)

-- A loss of 30,000 more in the first pool takes portions of both contributions from the second, where member 2 was charged all that it has. And of 100,000 with one
-- pool layer 1 gives nothing here, where on document 01's register it gives 50,000 of 80,000.
pub charged_less : (by_pools 0 110_000 ≡ answers 0 0 10_000 0 100_000 0 0 0)
    × (charged_by-pools 0 110_000 ≡ 0 ∷ 100_000 ∷ 0 ∷ [])
    × (by_pools 30_000 110_000 ≡ answers 0 0 10_000 0 130_000 0 0 0)
    × (charged_by-pools 30_000 110_000 ≡ 0 ∷ 89_232 ∷ 40_768 ∷ [])
    × ((pooled_of two_others 1 (one_pool 100_000) (ranked 255 1 2 255) slip).reply ≡ answers 0 0 10_000 0 90_000 0 0 0)
unfolding two_others opening_refusal member_refusal member_refusal_from member_fault outside missing excessive missized le32 check opening_register columns_of columns_from judged pooled_of pooled_slip pooled_refusal pooled_allocation pooled_charges pool_sums given_before pools_misranked misranked rooms_of fallen_call to_place on_margin after1 on_contribution after2 on_tranche1 after3 after4 on_tranche2 after5 on_calls calls shortfall allocation_of settled_of losses_after joined_pool sums_of charges_in charges_up_to charges_together unmet still_standing tied charges_by_pools charges_of charges_from split_of share_of
charged_less = (refl, refl, refl, refl, refl)
