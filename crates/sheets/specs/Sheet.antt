-- A sheet as a whole: its size, and the first of its records that is refused.
use Rattle.std.specs.Prelude.{ℕ, zero, suc, ◌+◌, ◌*◌, ◌/◌, ◌%◌, Bool, ◌||◌, List, eqb, ltb, length, Option, None}
use Rattle.refusal.specs.Refusal.{at_record}
use Rattle.refusal.specs.declared.Refusal.{Refusal}
use Rattle.sheets.specs.Bytes.{record_at, nonzero}
use Rattle.sheets.specs.Members.{member_at, member_fault}

-- 1. "A sheet is empty, overlong or not whole records."
unfoldable pub missized : ℕ → List ℕ → Bool
missized most sheet = eqb (length sheet) 0 || ltb (most * 16) (length sheet) || nonzero (length sheet % 16)

abbrev pub record_count : List ℕ → ℕ
record_count sheet = length sheet / 16

-- 4 to 7, record by record: the first that is refused of the n records from record i on, `last` being the member before them
unfoldable pub member_refusal_from : ℕ → ℕ → List ℕ → ℕ → ℕ → Option Refusal
member_refusal_from floor zero sheet i last = None
member_refusal_from floor (suc n) sheet i last =
    at_record (i + 1) (member_fault floor last (record_at sheet i))
    (member_refusal_from floor n sheet (i + 1) (member_at (record_at sheet i)))

unfoldable pub member_refusal : ℕ → List ℕ → Option Refusal
member_refusal floor sheet = member_refusal_from floor (record_count sheet) sheet 0 0
