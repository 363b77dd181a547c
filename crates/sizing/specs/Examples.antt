-- Document 01, "Drill examples": those of sizing marked *.
use Rattle.std.specs.Prelude.{◌≡◌, refl, true, false}
use Rattle.sizing.specs.Fund.{target_of, minimum_of, own_of, quantum_of}
use Rattle.sizing.specs.Review.{review_due}

-- "C+W = 100, V = 22, b1 = 10, P = 0: A 125, B 100, own 22, D 103"
pub annex : (target_of 100 ≡ 125) × (minimum_of 100 0 ≡ 100) × (own_of 100 0 22 10 ≡ 22) × (quantum_of 100 0 22 10 ≡ 103)
annex = (refl, refl, refl, refl)

-- "The same with P = 200, V = 50: B 170, own 43, D 170."
pub annex_floor : (target_of 100 ≡ 125) × (minimum_of 100 200 ≡ 170) × (own_of 100 200 50 10 ≡ 43) × (quantum_of 100 200 50 10 ≡ 170)
annex_floor = (refl, refl, refl, refl)

-- "C = 100, A = 125: no review; C = 101: review."
pub no_review : review_due 100 125 ≡ false
unfolding review_due
no_review = refl

pub review : review_due 101 125 ≡ true
unfolding review_due
review = refl
