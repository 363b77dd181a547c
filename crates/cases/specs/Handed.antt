-- How many ranks and how many numbers of a slip a case hands over.
use Rattle.std.specs.Prelude.{ℕ}
use Rattle.cases.specs.declared.Called.{Called}
use Rattle.cases.specs.declared.Called.TheVariants.{Size, Open, Drill, Range}

abbrev pub ranks_handed : Called → ℕ
ranks_handed (Size prevailing available slip) = 0
ranks_handed (Open own) = 0
ranks_handed (Drill call ranks slip) = ranks
ranks_handed (Range member losses ranks slip) = ranks

abbrev pub slip_handed : Called → ℕ
slip_handed (Size prevailing available slip) = slip
slip_handed (Open own) = 0
slip_handed (Drill call ranks slip) = slip
slip_handed (Range member losses ranks slip) = slip
