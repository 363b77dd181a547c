-- A small shares sheet, and two quanta shared over it.
use Rattle.std.specs.Prelude.{◌≡◌, refl, true, false, [], ◌∷◌}
use Rattle.split.specs.Split.{share_of, split_of}
use Rattle.sheets.specs.declared.columns.Columns.{Columns}
use Rattle.requirements.specs.Requirements.{parts_of, requirements_of}

-- members 1 and 2 of a sheet that has no member 3: volumes 1 and 1, margins 3 and 1, stress losses 5 and 0
abbrev pub two_members : Columns
two_members =
    record {
      present = true ∷ true ∷ false ∷ [];
      first = 1 ∷ 1 ∷ 0 ∷ [];
      second = 3 ∷ 1 ∷ 0 ∷ [];
      third = 5 ∷ 0 ∷ 0 ∷ [];
    }

-- 20,000 by margin, 20,000 by stress loss and 40,002 by volume; 8 is too little, and each gives the least
pub shared : requirements_of 80_002 two_members ≡ 55_001 ∷ 25_001 ∷ 0 ∷ []
unfolding requirements_of parts_of split_of share_of
shared = refl

pub least : requirements_of 8 two_members ≡ 10_000 ∷ 10_000 ∷ 0 ∷ []
unfolding requirements_of parts_of split_of share_of
least = refl
