-- Document 02, request 3: Annexure 4 of source document 000 in thousands, and further defaults with several pools, each from its register sheet on.
use Rattle.std.specs.Prelude.{ℕ, ◌≡◌, refl, List, [], ◌∷◌, ◌++◌, take, replicate}
use Rattle.lists.specs.Checks.{check}
use Rattle.split.specs.Split.{share_of, split_of}
use Rattle.ranks.specs.Ranks.{charges_from, charges_of}
use Rattle.sheets.specs.Bytes.{le32}
use Rattle.sheets.specs.Columns.{columns_from, columns_of}
use Rattle.sheets.specs.Members.{outside, missing, excessive, member_fault}
use Rattle.sheets.specs.Sheet.{missized, member_refusal_from, member_refusal}
use Rattle.admission.specs.Admission.{one_pool, misranked, pools_misranked}
use Rattle.admission.specs.declared.Pools.{Pools}
use Rattle.pools.specs.Pools.{losses_after, joined_pool, sums_of, charges_in, charges_up_to, charges_together, unmet, still_standing, tied, charges_by_pools}
use Rattle.waterfall.specs.Opening.{opening_register, opening_refusal, opened_of}
use Rattle.waterfall.specs.Default.{rooms_of, fallen_call, to_place, on_margin, after1, on_contribution, after2, on_tranche1, after3, after4, on_tranche2, after5, on_calls, calls, shortfall, allocation_of, settled_of}
use Rattle.waterfall.specs.Pools.{given_before, pool_sums, pooled_charges, pooled_allocation, pooled_refusal, pooled_of, pooled_slip}
use Rattle.waterfall.specs.Calls.{replenished_of, replenishment_refusal, replenishment_of}
use Rattle.waterfall.specs.Reply.{judged}
use Rattle.waterfall.specs.Register.{Register}
use Rattle.worked.specs.Drills.{row, slip, answers}

abbrev pub four_pools : ℕ → ℕ → ℕ → ℕ → Pools
four_pools a b c d = record { count = 4; losses = a ∷ b ∷ c ∷ d ∷ [] }

abbrev pub three_pools : ℕ → ℕ → ℕ → Pools
three_pools a b c = record { count = 3; losses = a ∷ b ∷ c ∷ 0 ∷ [] }

-- a pool's ranks of the members after the first, the others' missing
abbrev pub pool7 : ℕ → ℕ → ℕ → ℕ → ℕ → ℕ → ℕ → List ℕ
pool7 p q r s t u v = 255 ∷ p ∷ q ∷ r ∷ s ∷ t ∷ u ∷ v ∷ replicate 56 255

abbrev pub pool4 : ℕ → ℕ → ℕ → ℕ → List ℕ
pool4 b c d e = 255 ∷ b ∷ c ∷ d ∷ e ∷ replicate 59 255

-- Annexure 4: member 1 is the defaulter, members 2 to 8 the annex's P to V -----------------------

unfoldable pub annexure : Register
annexure =
    (opened_of
    (row 1 190_000 10_000 0 ++ row 2 0 100_000 0 ++ row 3 0 200_000 0 ++ row 4 0 300_000 0 ++ row 5 0 400_000 0 ++ row 6 0 500_000 0 ++ row 7 0 600_000 0 ++ row 8 0 400_000 0)
    625_000
    ).register

abbrev pub annexure_losses : Pools
annexure_losses = four_pools 1_475_000 675_000 112_500 37_500

abbrev pub annexure_ranks : List ℕ
annexure_ranks = pool7 5 6 1 2 4 7 3 ++ pool7 2 5 4 3 7 1 6 ++ pool7 5 3 1 2 4 7 6 ++ pool7 1 7 6 3 2 4 5

-- the annex's member totals, 58.70, 195.11, 123.91, 132.07, 489.13, 365.22 and 360.87, but for thousands lost to rounding
pub annexure_4 : ((pooled_of annexure 1 annexure_losses annexure_ranks slip).reply ≡ answers 0 190_000 10_000 375_000 1_725_000 0 0 0)
    × (take 8 (pooled_slip annexure 1 annexure_losses annexure_ranks slip) ≡ 0 ∷ 58_695 ∷ 195_108 ∷ 123_913 ∷ 132_064 ∷ 489_130 ∷ 365_217 ∷ 360_873 ∷ [])
unfolding annexure opening_refusal member_refusal member_refusal_from member_fault outside missing excessive missized le32 check opening_register columns_of columns_from judged pooled_of pooled_slip pooled_refusal pooled_allocation pooled_charges pool_sums given_before pools_misranked misranked rooms_of fallen_call to_place on_margin after1 on_contribution after2 on_tranche1 after3 after4 on_tranche2 after5 on_calls calls shortfall allocation_of settled_of losses_after joined_pool sums_of charges_in charges_up_to charges_together unmet still_standing tied charges_by_pools charges_of charges_from split_of share_of
annexure_4 = (refl, refl)

-- a fallen call: member 2 is called for 25,000 and then fails, three members having put money back -------

unfoldable pub called : Register
called =
    (replenishment_of
    (replenishment_of
    (replenishment_of
    (pooled_of (opened_of (row 1 0 10_000 0 ++ row 2 0 10_000 30_000 ++ row 3 0 20_000 0 ++ row 4 0 30_000 0) 0).register 1 (one_pool 95_000) (pool4 1 1 1 255) slip).register
    2 4_000).register
    3 12_345).register
    4 20_001
    ).register

-- 21,000 of it are left. Pool 1 has no loss, so they join pool 2; and where no pool has a loss, pool 1.
pub fallen-joins : ((pooled_of called 2 (three_pools 0 5_000 3_000) (pool4 255 2 1 255 ++ pool4 255 1 2 255 ++ pool4 255 2 1 255) slip).reply ≡ answers 25_000 0 4_000 0 29_000 0 0 0)
    × (take 4 (pooled_slip called 2 (three_pools 0 5_000 3_000) (pool4 255 2 1 255 ++ pool4 255 1 2 255 ++ pool4 255 2 1 255) slip) ≡ 0 ∷ 0 ∷ 9_347 ∷ 19_653 ∷ [])
    × ((pooled_of called 2 (three_pools 0 0 0) (pool4 255 1 2 255 ++ pool4 255 2 1 255 ++ pool4 255 2 1 255) slip).reply ≡ answers 25_000 0 4_000 0 21_000 0 0 0)
    × (take 4 (pooled_slip called 2 (three_pools 0 0 0) (pool4 255 1 2 255 ++ pool4 255 2 1 255 ++ pool4 255 2 1 255) slip) ≡ 0 ∷ 0 ∷ 999 ∷ 20_001 ∷ [])
unfolding called replenishment_of replenishment_refusal replenished_of opening_refusal member_refusal member_refusal_from member_fault outside missing excessive missized le32 check opening_register columns_of columns_from judged pooled_of pooled_slip pooled_refusal pooled_allocation pooled_charges pool_sums given_before pools_misranked misranked rooms_of fallen_call to_place on_margin after1 on_contribution after2 on_tranche1 after3 after4 on_tranche2 after5 on_calls calls shortfall allocation_of settled_of losses_after joined_pool sums_of charges_in charges_up_to charges_together unmet still_standing tied charges_by_pools charges_of charges_from split_of share_of
fallen-joins = (refl, refl, refl, refl)

-- odd amounts ---------------------------------------------------------------------------

unfoldable pub odd : ℕ → Register
odd g = (opened_of (row 1 0 10_000 0 ++ row 2 0 10_007 0 ++ row 3 0 20_011 5_000 ++ row 4 0 30_013 3 ++ row 5 0 40_017 0) g).register

-- three pools leave 1 for the last tie, which member 3 gives; and four pools of which two have no loss
pub odd_thousands : ((pooled_of (odd 0) 1 (three_pools 43_349 33_349 33_349) (pool4 1 2 3 4 ++ pool4 4 3 2 1 ++ pool4 1 1 2 2) slip).reply ≡ answers 0 0 10_000 0 100_047 0 0 0)
    × (take 5 (pooled_slip (odd 0) 1 (three_pools 43_349 33_349 33_349) (pool4 1 2 3 4 ++ pool4 4 3 2 1 ++ pool4 1 1 2 2) slip) ≡ 0 ∷ 10_006 ∷ 20_011 ∷ 30_013 ∷ 40_017 ∷ [])
    × (tied (pool_sums (odd 0) 1 (three_pools 43_349 33_349 33_349)) (0 ∷ 10_007 ∷ 20_011 ∷ 30_013 ∷ 40_017 ∷ []) (pool4 1 2 3 4 ++ pool4 4 3 2 1 ++ pool4 1 1 2 2) ≡ 0 ∷ 0 ∷ 1 ∷ 0 ∷ 0 ∷ [])
    × ((pooled_of (odd 1_000) 1 (four_pools 0 40_000 0 35_701) (pool4 1 1 1 1 ++ pool4 4 3 2 1 ++ pool4 24 1 1 1 ++ pool4 1 2 2 1) slip).reply ≡ answers 0 0 10_000 600 65_101 0 0 0)
    × (take 5 (pooled_slip (odd 1_000) 1 (four_pools 0 40_000 0 35_701) (pool4 1 1 1 1 ++ pool4 4 3 2 1 ++ pool4 24 1 1 1 ++ pool4 1 2 2 1) slip) ≡ 0 ∷ 6_172 ∷ 20_011 ∷ 30_013 ∷ 8_905 ∷ [])
unfolding odd opening_refusal member_refusal member_refusal_from member_fault outside missing excessive missized le32 check opening_register columns_of columns_from judged pooled_of pooled_slip pooled_refusal pooled_allocation pooled_charges pool_sums given_before pools_misranked misranked rooms_of fallen_call to_place on_margin after1 on_contribution after2 on_tranche1 after3 after4 on_tranche2 after5 on_calls calls shortfall allocation_of settled_of losses_after joined_pool sums_of charges_in charges_up_to charges_together unmet still_standing tied charges_by_pools charges_of charges_from split_of share_of
odd_thousands = (refl, refl, refl, refl, refl)
