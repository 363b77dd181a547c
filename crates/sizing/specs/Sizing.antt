-- Document 01, "Stress sheet and sizing": the whole of it. "Sizing takes a stress sheet, a shares sheet, prevailing minimum P (zero for none),
-- own money available V and a requirement slip": the slip is a buffer of numbers that the caller lends.
use Rattle.std.specs.Prelude.{ℕ, ◌≡◌, ◌+◌, ◌||◌, List, ◌++◌, ltb, length, drop, Option, Result, Some, None, Ok, Err, is_some}
use Rattle.std.specs.Option.{option_or}
use Rattle.lists.specs.Checks.{check}
use Rattle.lists.specs.Limits.{member_limit, sum_limit, stress_limit}
use Rattle.refusal.specs.Refusal.{answered, number_of, position_of, refused_number}
use Rattle.refusal.specs.declared.Refusal.{Refusal}
use Rattle.sheets.specs.Columns.{columns_of}
use Rattle.sheets.specs.Sheet.{missized, member_refusal}
use Rattle.sheets.specs.declared.columns.Columns.{Columns}
use Rattle.stress.specs.Stress.{stress_refusal}
use Rattle.cover.specs.Cover.{covered_of}
use Rattle.cover.specs.declared.Covered.{Covered}
use Rattle.requirements.specs.Requirements.{requirements_of, highest_of, sharing_refusal}
use Rattle.sizing.specs.Fund.{target_of, minimum_of, own_of, quantum_of}
use Rattle.sizing.specs.declared.Sized.{Sized}

-- 4 to 7 of a shares sheet: "zero is a figure, and is allowed except as a contribution", so there is no floor
abbrev pub shares_refusal : List ℕ → Option Refusal
shares_refusal shares = member_refusal 0 shares

-- from C, W and the columns of the shares sheet on
module _ (covered : Covered) (columns : Columns) (prevailing available : ℕ) where
  abbrev pub exposure_for : ℕ
  exposure_for = covered.cover + covered.weak

  abbrev pub minimum_for : ℕ
  minimum_for = minimum_of exposure_for prevailing

  -- "b1 = the highest requirement when B is shared"
  abbrev pub highest_for : ℕ
  highest_for = highest_of minimum_for columns

  abbrev pub own_for : ℕ
  own_for = own_of exposure_for prevailing available highest_for

  unfoldable pub quantum_for : ℕ
  quantum_for = quantum_of exposure_for prevailing available highest_for

  -- "9 and 10 are tried for B, then for D"
  unfoldable pub fund_refusal : Option Refusal
  fund_refusal = option_or (sharing_refusal minimum_for columns) (sharing_refusal quantum_for columns)

  -- "The answer holds C, W, A, B, b1, own contribution, D."
  unfoldable pub fund_figures : Sized
  fund_figures =
      record {
        cover = covered.cover;
        weak = covered.weak;
        target = target_of exposure_for;
        minimum = minimum_for;
        highest = highest_for;
        own = own_for;
        quantum = quantum_for;
      }

-- the whole, where so many numbers are lent as `places`
module _ (stress shares : List ℕ) (prevailing available places : ℕ) where
  -- "Checks run in number order, save that 4 to 8 run record by record, stress sheet before shares"
  unfoldable pub sizing_refusal : Option Refusal
  sizing_refusal =
      check (missized stress_limit stress || missized member_limit shares) (Some Refusal.Missized)
      (check (ltb sum_limit prevailing || ltb sum_limit available) (Some Refusal.ExcessiveSum)
      (check (ltb places member_limit) (Some Refusal.ShortSlip)
      (option_or (stress_refusal stress)
      (option_or (shares_refusal shares)
      (fund_refusal (covered_of stress) (columns_of shares) prevailing available)))))

  -- a refusal is all of its answer
  unfoldable pub sized_of : Result Sized Refusal
  sized_of = answered sizing_refusal (fund_figures (covered_of stress) (columns_of shares) prevailing available)

-- "The slip's first 64 numbers receive the requirements for D by member number, 0 where absent; further numbers stay."; at a refusal all
-- stay
unfoldable pub requirements_after : List ℕ → List ℕ → ℕ → ℕ → List ℕ → List ℕ
requirements_after stress shares prevailing available lent =
    check (is_some (sizing_refusal stress shares prevailing available (length lent))) lent
    (requirements_of (quantum_for (covered_of stress) (columns_of shares) prevailing available) (columns_of shares) ++ drop member_limit lent)

-- What sizing answers, in document 01's numbers and values.
-- "A refusal carries its number": 0 where sizing is accepted
abbrev pub sized_number : Result Sized Refusal → ℕ
sized_number (Err refusal) = number_of refusal
sized_number (Ok figures) = 0

-- "and, for 4 to 8, the record's place counted from 1 (0 for the others)"
abbrev pub sized_position : Result Sized Refusal → ℕ
sized_position (Err refusal) = position_of refusal
sized_position (Ok figures) = 0

abbrev pub refused_position : Option Refusal → ℕ
refused_position (Some refusal) = position_of refusal
refused_position None = 0

-- "every other number of its answer is 0"
abbrev pub no_figures : Sized
no_figures =
    record {
      cover = 0;
      weak = 0;
      target = 0;
      minimum = 0;
      highest = 0;
      own = 0;
      quantum = 0;
    }

abbrev pub figures_said : Result Sized Refusal → Sized
figures_said (Err refusal) = no_figures
figures_said (Ok figures) = figures

-- An answer in the paper's numbers and values: the number and the position of its refusal, and the figures where there is none.
pub record Says (answer : Result Sized Refusal) (refusal : Option Refusal) (figures : Sized) : Type 0 where
  pub number_is : sized_number answer ≡ refused_number refusal
  pub position_is : sized_position answer ≡ refused_position refusal
  pub figures_are : figures_said answer ≡ check (is_some refusal) no_figures figures
