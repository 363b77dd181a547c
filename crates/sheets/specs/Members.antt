-- A record of a register or a shares sheet, document 01, "The opening register": "byte 0 member, bytes 1 to 3 zero, then three 4-byte amounts".
-- One reader serves both: a register's second amount, the contribution, has a floor of 10,000; a shares sheet's has one of 0.
use Rattle.std.specs.Prelude.{ℕ, Bool, ◌||◌, List, leb, ltb, Option, Some, None}
use Rattle.lists.specs.Checks.{check}
use Rattle.lists.specs.Limits.{member_limit, amount_limit}
use Rattle.refusal.specs.declared.Fault.{Fault}
use Rattle.sheets.specs.Bytes.{byte, le32, absent_amount, beyond, nonzero}
use Rattle.sheets.specs.declared.Record.{Record}

abbrev pub member_at : List ℕ → ℕ
member_at s = byte s 0

abbrev pub first_at : List ℕ → ℕ
first_at s = le32 s 4

abbrev pub second_at : List ℕ → ℕ
second_at s = le32 s 8

abbrev pub third_at : List ℕ → ℕ
third_at s = le32 s 12

abbrev pub record_of : List ℕ → Record
record_of s = record { member = member_at s; first = first_at s; second = second_at s; third = third_at s }

-- 4. "A member, day, scenario, flag or zero byte is outside its values."
unfoldable pub outside : List ℕ → Bool
outside s = beyond 1 member_limit (member_at s) || nonzero (byte s 1) || nonzero (byte s 2) || nonzero (byte s 3)

-- 5. "An amount is missing."
unfoldable pub missing : Record → Bool
missing r = absent_amount r.first || absent_amount r.second || absent_amount r.third

-- 6. "An amount is above 400,000,000, or a register's contribution is below 10,000."
unfoldable pub excessive : ℕ → Record → Bool
excessive floor r = ltb amount_limit r.first || ltb amount_limit r.second || ltb amount_limit r.third || ltb r.second floor

-- 7. "A record does not rise above the one before.": `last` is the member of that one, 0 where there is none
abbrev pub not_rising : ℕ → Record → Bool
not_rising last r = leb r.member last

-- what is wrong with a record, if anything is
unfoldable pub member_fault : ℕ → ℕ → List ℕ → Option Fault
member_fault floor last s =
    check (outside s) (Some Fault.Outside)
    (check (missing (record_of s)) (Some Fault.Missing)
    (check (excessive floor (record_of s)) (Some Fault.Excessive)
    (check (not_rising last (record_of s)) (Some Fault.NotRising)
    None)))
