-- Document 01, "Drill examples": the register of four members with G = 22,000 and its three defaults, marked *.
use Rattle.std.specs.Prelude.{ℕ, ◌/◌, ◌%◌, ◌≡◌, refl, Some, Ok, List, [], ◌∷◌, ◌++◌, take, drop, replicate}
use Rattle.lists.specs.Checks.{check}
use Rattle.split.specs.Split.{share_of, split_of}
use Rattle.ranks.specs.Ranks.{charges_from, charges_of}
use Rattle.sheets.specs.Bytes.{le32}
use Rattle.sheets.specs.Columns.{columns_from, columns_of}
use Rattle.sheets.specs.Members.{outside, missing, excessive, member_fault}
use Rattle.sheets.specs.Sheet.{missized, member_refusal_from, member_refusal}
use Rattle.waterfall.specs.Opening.{tranche1_of, tranche2_of, opening_register, opening_refusal, opened_of}
use Rattle.admission.specs.Admission.{one_pool, misranked, pools_misranked}
use Rattle.pools.specs.Pools.{losses_after, joined_pool, sums_of, charges_in, charges_up_to, charges_together, unmet, still_standing, tied, charges_by_pools}
use Rattle.waterfall.specs.Default.{rooms_of, fallen_call, to_place, on_margin, after1, on_contribution, after2, on_tranche1, after3, after4, on_tranche2, after5, on_calls, calls, shortfall, allocation_of, settled_of}
use Rattle.waterfall.specs.Pools.{given_before, pool_sums, pooled_charges, pooled_allocation, pooled_refusal, pooled_of, pooled_slip}
use Rattle.waterfall.specs.Register.{Register}
use Rattle.waterfall.specs.Reply.{Reply, judged}
use Rattle.waterfall.specs.declared.Outcome.{Outcome}

-- "G = 22 gives 13 and 9."
tranches : (tranche1_of 22 ≡ 13) × (tranche2_of 22 ≡ 9)
tranches = (refl, refl)

-- an amount's bytes, and a record's
abbrev pub amount : ℕ → List ℕ
amount n = n % 256 ∷ n / 256 % 256 ∷ n / 65_536 % 256 ∷ n / 16_777_216 % 256 ∷ []

abbrev pub row : ℕ → ℕ → ℕ → ℕ → List ℕ
row member margin contribution cap = member ∷ 0 ∷ 0 ∷ 0 ∷ (amount margin ++ amount contribution ++ amount cap)

-- "Register (member: margin, contribution, cap) 1: 50,000, 20,000, 10,000; 2: 0, 30,000, 15,000; 3: 0, 10,000, 5,000; 4: 0, 20,000, 0"
abbrev pub sheet : List ℕ
sheet = row 1 50_000 20_000 10_000 ++ row 2 0 30_000 15_000 ++ row 3 0 10_000 5_000 ++ row 4 0 20_000 0

unfoldable pub register : Register
register = (opened_of sheet 22_000).register

abbrev pub slip : List ℕ
slip = replicate 128 0

-- ranks of members 1 to 4, the others' missing
abbrev pub ranked : ℕ → ℕ → ℕ → ℕ → List ℕ
ranked a b c d = a ∷ b ∷ c ∷ d ∷ replicate 60 255

-- "Default of 1, loss 100,000, ranks 2:1, 3:2, 4:2", "Next default of 3, loss 60,000, ranks 2:1, 4:1", "Next default of 2, loss 0, rank 4:1"
unfoldable pub default1 : Outcome
default1 = pooled_of register 1 (one_pool 100_000) (ranked 255 1 2 2) slip

unfoldable pub default2 : Outcome
default2 = pooled_of default1.register 3 (one_pool 60_000) (ranked 255 1 255 1) slip

unfoldable pub default3 : Outcome
default3 = pooled_of default2.register 2 (one_pool 0) (ranked 255 255 255 1) slip

-- the six layers with fallen call and shortfall
abbrev pub answers : ℕ → ℕ → ℕ → ℕ → ℕ → ℕ → ℕ → ℕ → Reply
answers fallen l1 l2 l3 l4 l5 l6 short =
    Ok (Some (record {
      fallen = fallen;
      margin = l1;
      contribution = l2;
      tranche1 = l3;
      members = l4;
      tranche2 = l5;
      calls = l6;
      short = short;
    }))

pub three-defaults : (default1.reply ≡ answers 0 50_000 20_000 13_200 16_800 0 0 0)
    × (take 4 (pooled_slip register 1 (one_pool 100_000) (ranked 255 1 2 2) slip) ≡ 0 ∷ 0 ∷ 5_600 ∷ 11_200 ∷ [])
    × (default2.reply ≡ answers 0 0 4_400 0 38_800 8_800 8_000 0)
    × (take 4 (drop 64 (pooled_slip default1.register 3 (one_pool 60_000) (ranked 255 1 255 1) slip)) ≡ 0 ∷ 8_000 ∷ 0 ∷ 0 ∷ [])
    × (default3.reply ≡ answers 8_000 0 0 0 0 0 0 8_000)
unfolding register default1 default2 default3 opening_refusal member_refusal member_refusal_from member_fault outside missing excessive missized le32 check opening_register columns_of columns_from judged pooled_of pooled_slip pooled_refusal pooled_allocation pooled_charges pool_sums given_before pools_misranked misranked rooms_of fallen_call to_place on_margin after1 on_contribution after2 on_tranche1 after3 after4 on_tranche2 after5 on_calls calls shortfall allocation_of settled_of losses_after joined_pool sums_of charges_in charges_up_to charges_together unmet still_standing tied charges_by_pools charges_of charges_from split_of share_of
three-defaults = (refl, refl, refl, refl, refl)
