-- What the parts of `requirements` promise each other. No rule of document 01 is here.
use Rattle.std.specs.Prelude.{ℕ, ◌≡◌}
use Rattle.lists.specs.Sums.{total}
use Rattle.sheets.specs.declared.columns.Columns.{Columns}
use Rattle.requirements.specs.Requirements.{average_volumes, average_margins, stress_losses, margin_part, stress_part, volume_part}
use Rattle.requirements.specs.declared.ByColumn.{ByColumn}

-- what the columns add to
pub record Totalled (columns : Columns) (totals : ByColumn ℕ) : Type 0 where
  pub volumes_add : totals.volume ≡ total (average_volumes columns)
  pub margins_add : totals.margin ≡ total (average_margins columns)
  pub stresses_add : totals.stress ≡ total (stress_losses columns)

-- the totals that these then are
abbrev pub totals_of : Columns → ByColumn ℕ
totals_of columns =
    record { volume = total (average_volumes columns); margin = total (average_margins columns); stress = total (stress_losses columns) }

-- the parts of a quantum, by column
abbrev pub parts_of_quantum : ℕ → ByColumn ℕ
parts_of_quantum q = record { volume = volume_part q; margin = margin_part q; stress = stress_part q }
