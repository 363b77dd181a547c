-- The highest number of a list and the second highest.
use Rattle.std.specs.Prelude.{ℕ, max, List, [], ◌∷◌, eqb}
use Rattle.lists.specs.Checks.{check}

unfoldable pub highest : List ℕ → ℕ
highest [] = 0
highest (x ∷ xs) = max x (highest xs)

-- the list without one x
unfoldable pub without : ℕ → List ℕ → List ℕ
without x [] = []
without x (y ∷ ys) = check (eqb y x) ys (y ∷ without x ys)

-- the highest of the others; of one number, 0
abbrev pub second : List ℕ → ℕ
second xs = highest (without (highest xs) xs)
