-- The columns of a register or a shares sheet, by member number. Document 01, "The opening register": "byte 0 member, bytes 1 to 3 zero, then
-- three 4-byte amounts. In a register they are margin, contribution (..) and assessment cap. In a shares sheet they are average volume, average
-- initial margin and highest stress loss."
use Rattle.std.specs.Prelude.{ℕ, zero, suc, ◌+◌, ◌-◌, true, false, List, set, replicate}
use Rattle.lists.specs.Limits.{member_limit}
use Rattle.sheets.specs.Bytes.{record_at}
use Rattle.sheets.specs.Members.{record_of}
use Rattle.sheets.specs.Sheet.{record_count}
use Rattle.sheets.specs.declared.Record.{Record}
use Rattle.sheets.specs.declared.columns.Columns.{Columns}

-- the columns of a sheet of no records
abbrev pub no_columns : Columns
no_columns =
    record {
      present = replicate member_limit false;
      first = replicate member_limit 0;
      second = replicate member_limit 0;
      third = replicate member_limit 0;
    }

-- a member's three amounts, put at its place
abbrev pub entered : Columns → Record → Columns
entered columns r =
    record {
      present = set columns.present (r.member - 1) true;
      first = set columns.first (r.member - 1) r.first;
      second = set columns.second (r.member - 1) r.second;
      third = set columns.third (r.member - 1) r.third;
    }

-- the n records of a sheet from record i on
unfoldable pub columns_from : ℕ → List ℕ → ℕ → Columns → Columns
columns_from zero sheet i columns = columns
columns_from (suc n) sheet i columns = columns_from n sheet (i + 1) (entered columns (record_of (record_at sheet i)))

unfoldable pub columns_of : List ℕ → Columns
columns_of sheet = columns_from (record_count sheet) sheet 0 no_columns
