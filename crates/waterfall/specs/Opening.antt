-- Document 01, "The opening register": a register sheet and our own contribution G.
use Rattle.std.specs.Prelude.{ℕ, ◌-◌, ◌*◌, ◌/◌, List, map, ltb, Option, Some, is_some}
use Rattle.lists.specs.Checks.{check}
use Rattle.lists.specs.Limits.{member_limit, sum_limit, contribution_floor}
use Rattle.refusal.specs.declared.Refusal.{Refusal}
use Rattle.sheets.specs.Columns.{columns_of}
use Rattle.sheets.specs.Sheet.{missized, member_refusal}
use Rattle.sheets.specs.declared.columns.Columns.{Columns}
use Rattle.figures.specs.Figures.{none, status_of}
use Rattle.waterfall.specs.Register.{Register, empty_register}
use Rattle.waterfall.specs.declared.Opened.{Opened}

-- "The first tranche is 60G/100 rounded down, the second is the rest"
abbrev pub tranche1_of : ℕ → ℕ
tranche1_of g = 60 * g / 100

abbrev pub tranche2_of : ℕ → ℕ
tranche2_of g = g - tranche1_of g

-- "Everyone is live"; "In a register they are margin, contribution (..) and assessment cap."; "nobody has been called; the opening contribution is the
-- requirement"
abbrev pub entered_of : Columns → ℕ → Register
entered_of columns g =
    record {
      status = map status_of columns.present;
      margin = columns.first;
      contribution = columns.second;
      requirement = columns.second;
      cap = columns.third;
      outstanding = none;
      called = none;
      tranche1 = tranche1_of g;
      tranche2 = tranche2_of g;
    }

unfoldable pub opening_register : List ℕ → ℕ → Register
opening_register sheet g = entered_of (columns_of sheet) g

-- 1. "A sheet is empty, overlong or not whole records." 2. "A sum handed to opening or sizing is above 25,600,000,000." Then 4 to 7.
unfoldable pub opening_refusal : List ℕ → ℕ → Option Refusal
opening_refusal sheet g =
    check (missized member_limit sheet) (Some Refusal.Missized)
    (check (ltb sum_limit g) (Some Refusal.ExcessiveSum)
    (member_refusal contribution_floor sheet))

-- "A refused opening hands back a register with no members and both tranches 0."
abbrev pub opened_of : List ℕ → ℕ → Opened
opened_of sheet g =
    record {
      refusal = opening_refusal sheet g;
      register = check (is_some (opening_refusal sheet g)) empty_register (opening_register sheet g);
    }
