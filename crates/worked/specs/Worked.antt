-- Document 01, "Drill examples": "Those marked * are proved as one fact about the written rules.", in the document's order.
use Rattle.std.specs.Prelude.{◌≡◌, true, false, [], ◌∷◌, take, drop}
use Rattle.split.specs.Split.{split_of}
use Rattle.split.specs.Examples.{split_of_5, split_of_6, split_of_10, split_over-none}
use Rattle.sizing.specs.Fund.{target_of, minimum_of, own_of, quantum_of}
use Rattle.sizing.specs.Review.{review_due}
use Rattle.sizing.specs.Examples.{annex, annex_floor, no_review, review}
use Rattle.admission.specs.Admission.{one_pool}
use Rattle.waterfall.specs.Pools.{pooled_slip}
use Rattle.worked.specs.Drills.{register, ranked, slip, default1, default2, default3, answers, three-defaults}

pub starred :
    -- "Split of 5 over 3, 3, 4: 1, 1, 3. Of 6: 1, 2, 3. Of 10: 3, 3, 4. Of 5 over 0, 5: 0, 5."
    (split_of 5 (3 ∷ 3 ∷ 4 ∷ []) ≡ 1 ∷ 1 ∷ 3 ∷ [])
    × (split_of 6 (3 ∷ 3 ∷ 4 ∷ []) ≡ 1 ∷ 2 ∷ 3 ∷ [])
    × (split_of 10 (3 ∷ 3 ∷ 4 ∷ []) ≡ 3 ∷ 3 ∷ 4 ∷ [])
    × (split_of 5 (0 ∷ 5 ∷ []) ≡ 0 ∷ 5 ∷ [])
    -- "C+W = 100, V = 22, b1 = 10, P = 0: A 125, B 100, own 22, D 103"
    × ((target_of 100 ≡ 125) × (minimum_of 100 0 ≡ 100) × (own_of 100 0 22 10 ≡ 22) × (quantum_of 100 0 22 10 ≡ 103))
    -- "The same with P = 200, V = 50: B 170, own 43, D 170."
    × ((target_of 100 ≡ 125) × (minimum_of 100 200 ≡ 170) × (own_of 100 200 50 10 ≡ 43) × (quantum_of 100 200 50 10 ≡ 170))
    -- "C = 100, A = 125: no review; C = 101: review."
    × (review_due 100 125 ≡ false)
    × (review_due 101 125 ≡ true)
    -- "Default of 1, loss 100,000 ..": fallen call, six layers, shortfall; "member 3 gives 5,600, member 4 11,200"; "Next default of 3, loss 60,000
    -- ..; member 2 is called"; "Next default of 2, loss 0 ..: fallen 8,000, shortfall 8,000"
    × ((default1.reply ≡ answers 0 50_000 20_000 13_200 16_800 0 0 0)
    × (take 4 (pooled_slip register 1 (one_pool 100_000) (ranked 255 1 2 2) slip) ≡ 0 ∷ 0 ∷ 5_600 ∷ 11_200 ∷ [])
    × (default2.reply ≡ answers 0 0 4_400 0 38_800 8_800 8_000 0)
    × (take 4 (drop 64 (pooled_slip default1.register 3 (one_pool 60_000) (ranked 255 1 255 1) slip)) ≡ 0 ∷ 8_000 ∷ 0 ∷ 0 ∷ [])
    × (default3.reply ≡ answers 8_000 0 0 0 0 0 0 8_000))
starred = (
  split_of_5,
  split_of_6,
  split_of_10,
  split_over-none,
  annex,
  annex_floor,
  no_review,
  review,
  three-defaults,
)
