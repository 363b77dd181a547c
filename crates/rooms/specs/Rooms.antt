-- Document 01, "Declaring a default": what a layer gives, and what layer 6 is split over. Request 3's last tie of layer 4 is split over such rooms too.
use Rattle.std.specs.Prelude.{ℕ, min, Bool, List}
use Rattle.lists.specs.Sums.{minus, keep}

-- "each giving all it has or all that is left to place"
abbrev pub gives : ℕ → ℕ → ℕ
gives left has = min left has

-- "cap minus what was called since the last close", of the members that are marked: what each may give at most, less what was taken of it
abbrev pub rooms : List Bool → List ℕ → List ℕ → List ℕ
rooms others most taken = keep others (minus most taken)
