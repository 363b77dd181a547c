-- What the parts of `sizing` promise each other. No rule of document 01 is here.
use Rattle.std.specs.Prelude.{ℕ, List, Result}
use Rattle.refusal.specs.Refusal.{answered}
use Rattle.refusal.specs.declared.Refusal.{Refusal}
use Rattle.sheets.specs.Columns.{columns_of}
use Rattle.sheets.specs.declared.columns.Columns.{Columns}
use Rattle.cover.specs.Cover.{covered_of}
use Rattle.cover.specs.declared.Covered.{Covered}
use Rattle.requirements.specs.Requirements.{requirements_of}
use Rattle.sizing.specs.Sizing.{quantum_for, fund_refusal, fund_figures, sizing_refusal}
use Rattle.sizing.specs.declared.Funded.{Funded}

-- the figures, and the requirements of their quantum
abbrev pub funded_of : Covered → Columns → ℕ → ℕ → Funded
funded_of covered columns prevailing available =
    record {
      sized = fund_figures covered columns prevailing available;
      requirements = requirements_of (quantum_for covered columns prevailing available) columns;
    }

-- the fund from C, W and the columns of the shares sheet on
abbrev pub funded : Covered → Columns → ℕ → ℕ → Result Funded Refusal
funded covered columns prevailing available =
    answered (fund_refusal covered columns prevailing available) (funded_of covered columns prevailing available)

-- the fund from the sheets on, where so many numbers are lent as `places`
abbrev pub judged : List ℕ → List ℕ → ℕ → ℕ → ℕ → Result Funded Refusal
judged stress shares prevailing available places =
    answered (sizing_refusal stress shares prevailing available places) (funded_of (covered_of stress) (columns_of shares) prevailing available)
