-- Sums of lists of numbers, and lists taken place by place.
use Rattle.std.specs.Prelude.{ℕ, ◌+◌, ◌-◌, ◌≤◌, Bool, cond, List, [], ◌∷◌, get_or}

-- the numbers of a list, added
abbrev pub total : List ℕ → ℕ
total [] = 0
total (x ∷ xs) = x + total xs

-- two lists added place by place
abbrev pub plus : List ℕ → List ℕ → List ℕ
plus [] ys = ys
plus (x ∷ xs) [] = x ∷ xs
plus (x ∷ xs) (y ∷ ys) = (x + y) ∷ plus xs ys

-- the second list taken from the first place by place, and 0 where it is greater
abbrev pub minus : List ℕ → List ℕ → List ℕ
minus [] ys = []
minus (x ∷ xs) [] = x ∷ xs
minus (x ∷ xs) (y ∷ ys) = (x - y) ∷ minus xs ys

-- the numbers at the marked places, and 0 at the others
abbrev pub keep : List Bool → List ℕ → List ℕ
keep [] xs = []
keep (b ∷ bs) [] = []
keep (b ∷ bs) (x ∷ xs) = cond b x 0 ∷ keep bs xs

-- no number of a list is above a bound
abbrev pub AtMost : List ℕ → ℕ → Type 0
AtMost xs bound = (k : ℕ) → get_or xs k 0 ≤ bound
