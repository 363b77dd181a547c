-- A record of a stress sheet, document 01, "Stress sheet and sizing": "bytes 0-1 day (1 to 184), 2-3 scenario (1 to 64), 4 member, 5 weak
-- flag (0 or 1), 6-7 zero, 8-11 loss (FFFFFFFF is missing), 12-15 zero"; but for byte 6, since document 02, request 5: "Byte 6 of a stress record is
-- the group, 1 to 64, or 0 for a member alone."
use Rattle.std.specs.Prelude.{ℕ, zero, suc, ◌+◌, Bool, true, false, ◌||◌, ◌&&◌, not, cond, List, eqb, ltb, Option, Some, None}
use Rattle.lists.specs.Checks.{check}
use Rattle.lists.specs.Limits.{member_limit, amount_limit, day_limit, scenario_limit, weak_limit, group_limit}
use Rattle.refusal.specs.Refusal.{at_record}
use Rattle.refusal.specs.declared.Fault.{Fault}
use Rattle.refusal.specs.declared.Refusal.{Refusal}
use Rattle.sheets.specs.Bytes.{record_at, byte, le16, le32, absent_amount, beyond, nonzero}
use Rattle.sheets.specs.Sheet.{record_count}
use Rattle.stress.specs.declared.Before.{Before}
use Rattle.stress.specs.declared.Loss.{Loss}

abbrev pub day_at : List ℕ → ℕ
day_at s = le16 s 0

abbrev pub scenario_at : List ℕ → ℕ
scenario_at s = le16 s 2

abbrev pub stressed_at : List ℕ → ℕ
stressed_at s = byte s 4

abbrev pub weak_at : List ℕ → ℕ
weak_at s = byte s 5

abbrev pub group_at : List ℕ → ℕ
group_at s = byte s 6

abbrev pub loss_at : List ℕ → ℕ
loss_at s = le32 s 8

-- "A block is one day and scenario.": whether a day and a scenario are of the block of another day and scenario
abbrev pub one_block : ℕ → ℕ → ℕ → ℕ → Bool
one_block day scenario otherDay otherScenario = eqb day otherDay && eqb scenario otherScenario

-- whether a record is of the block of the one before; nothing stands before the first record
abbrev pub same_block : Option Before → List ℕ → Bool
same_block None s = false
same_block (Some before) s = one_block (day_at s) (scenario_at s) before.day before.scenario

-- the weak flags of the record's block that stand before it
abbrev pub flags_before : Option Before → List ℕ → ℕ
flags_before None s = 0
flags_before (Some before) s = cond (same_block (Some before) s) before.flags 0

-- what stands before the next record
abbrev pub passed : Option Before → List ℕ → Before
passed before s =
    record {
      day = day_at s;
      scenario = scenario_at s;
      member = stressed_at s;
      flags = flags_before before s + weak_at s;
    }

abbrev pub loss_of : Option Before → List ℕ → Loss
loss_of before s = record { amount = loss_at s; weak = nonzero (weak_at s); group = group_at s; next = passed before s }

-- whether a day, a scenario, a member, a flag or a group is outside its values
abbrev pub stress_beyond : List ℕ → Bool
stress_beyond s =
    beyond 1 day_limit (day_at s) || beyond 1 scenario_limit (scenario_at s) || beyond 1 member_limit (stressed_at s) || beyond 0 1 (weak_at s)
    || beyond 0 group_limit (group_at s)

-- 4. "A member, day, scenario, flag or zero byte is outside its values."; document 02, request 5: "refusal 4 covers byte 6 above 64"
unfoldable pub stress_outside : List ℕ → Bool
stress_outside s =
    stress_beyond s
    || nonzero (byte s 7)
    || nonzero (byte s 12) || nonzero (byte s 13) || nonzero (byte s 14) || nonzero (byte s 15)

-- 7. "A record does not rise above the one before.": "Day, scenario, member strictly rise as a triple."
unfoldable pub stress_rises : Option Before → List ℕ → Bool
stress_rises None s = true
stress_rises (Some before) s =
    ltb before.day (day_at s)
    || (eqb (day_at s) before.day
    && (ltb before.scenario (scenario_at s)
    || (eqb (scenario_at s) before.scenario
    && ltb before.member (stressed_at s))))

-- 8. "A record carries the sixth weak flag of its block."
abbrev pub sixth_weak : Option Before → List ℕ → Bool
sixth_weak before s = ltb weak_limit (flags_before before s + weak_at s)

-- what is wrong with a record, if anything is
unfoldable pub stress_fault : Option Before → List ℕ → Option Fault
stress_fault before s =
    check (stress_outside s) (Some Fault.Outside)
    (check (absent_amount (loss_at s)) (Some Fault.Missing)
    (check (ltb amount_limit (loss_at s)) (Some Fault.Excessive)
    (check (not (stress_rises before s)) (Some Fault.NotRising)
    (check (sixth_weak before s) (Some Fault.SixthWeak)
    None))))

-- 4 to 8, record by record: the first that is refused of the n records from record i on
unfoldable pub stress_refusal_from : ℕ → List ℕ → ℕ → Option Before → Option Refusal
stress_refusal_from zero sheet i before = None
stress_refusal_from (suc n) sheet i before =
    at_record (i + 1) (stress_fault before (record_at sheet i))
    (stress_refusal_from n sheet (i + 1) (Some (passed before (record_at sheet i))))

unfoldable pub stress_refusal : List ℕ → Option Refusal
stress_refusal sheet = stress_refusal_from (record_count sheet) sheet 0 None
