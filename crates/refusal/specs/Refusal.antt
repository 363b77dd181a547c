-- Document 01, "When the console says no", and document 02: the refusals by number. What is refused has the first that applies.
use Rattle.std.specs.Prelude.{ℕ, Option, Result, Some, None, Ok, Err}
use Rattle.refusal.specs.declared.Fault.{Fault}
use Rattle.refusal.specs.declared.Refusal.{Refusal}

-- "4 to 8 run record by record"
abbrev pub fault_number : Fault → ℕ
-- 4. "A member, day, scenario, flag or zero byte is outside its values.", and with document 02, request 5, a group
fault_number Fault.Outside = 4
-- 5. "An amount is missing."
fault_number Fault.Missing = 5
-- 6. "An amount is above 400,000,000, or a register's contribution is below 10,000."
fault_number Fault.Excessive = 6
-- 7. "A record does not rise above the one before."
fault_number Fault.NotRising = 7
-- 8. "A record carries the sixth weak flag of its block."
fault_number Fault.SixthWeak = 8

-- "A refusal carries its number"
abbrev pub number_of : Refusal → ℕ
-- 1. "A sheet is empty, overlong or not whole records."
number_of Refusal.Missized = 1
-- 2. "A sum handed to opening or sizing is above 25,600,000,000."
number_of Refusal.ExcessiveSum = 2
-- 3. "The requirement slip has fewer than 64 numbers."
number_of Refusal.ShortSlip = 3
number_of (Refusal.Record fault position) = fault_number fault
-- 9. "A shares column adds to zero while its part of the quantum is above zero."
number_of Refusal.Unshared = 9
-- 10. "A requirement is above 400,000,000."
number_of Refusal.ExcessiveRequirement = 10
-- 11. "A call's member is not in the register."
number_of Refusal.Unregistered = 11
-- 12. "A call's member is in default already."
number_of Refusal.InDefault = 12
-- 13. "A loss is above 25,600,000,000."
number_of Refusal.ExcessiveLoss = 13
-- 14. "Ranks are not 64 bytes, or the default slip has fewer than 128 numbers."
number_of Refusal.Unready = 14
-- 15. "A rank that is read is missing or outside 1 to 64.", a limit that document 02, request 2, lowers
number_of Refusal.Misranked = 15
-- 16. "A payment is zero or above the outstanding call."
number_of Refusal.UnfitPayment = 16
-- 17. "A replenishment is zero or lifts the contribution above the requirement."
number_of Refusal.UnfitReplenishment = 17
-- 18. "A close finds an outstanding call."
number_of Refusal.CallOutstanding = 18
-- 20, document 02, request 1
number_of Refusal.Unprintable = 20
-- 21, document 02, request 3: "pool count not 1 to 4"
number_of Refusal.Miscounted = 21
-- 22, document 02, request 3: "pool losses together above 25,600,000,000"
number_of Refusal.ExcessiveLosses = 22
-- 23, document 02, request 7: "low above high"
number_of Refusal.ReversedLosses = 23
-- 24, document 02, request 7: "range slip below 256 numbers"
number_of Refusal.ShortRangeSlip = 24

-- "and, for 4 to 8, the record's place counted from 1 (0 for the others)"
abbrev pub position_of : Refusal → ℕ
position_of (Refusal.Record fault position) = position
position_of _ = 0

-- an answer, or the refusal or the fault that comes before it
abbrev pub answered : {A E : Type 0} → Option E → A → Result A E
answered (Some refusal) answer = Err refusal
answered None answer = Ok answer

-- "4 to 8 run record by record": what is wrong with the record at a position, or else what comes after it
abbrev pub at_record : ℕ → Option Fault → Option Refusal → Option Refusal
at_record position (Some fault) rest = Some (Refusal.Record fault position)
at_record position None rest = rest

-- what was found of the record at a position
abbrev pub located : {A : Type 0} → ℕ → Result A Fault → Result A Refusal
located position (Ok answer) = Ok answer
located position (Err fault) = Err (Refusal.Record fault position)

-- the number of a refusal, where there is one; 0 says that nothing is refused
abbrev pub refused_number : Option Refusal → ℕ
refused_number (Some refusal) = number_of refusal
refused_number None = 0
