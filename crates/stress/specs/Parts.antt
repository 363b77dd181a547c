-- What the parts of `stress` promise each other. No rule of document 01 is here.
use Rattle.std.specs.Prelude.{ℕ, ◌+◌, ◌*◌, Bool, ◌||◌, List, ltb}
use Rattle.lists.specs.Limits.{member_limit, amount_limit, day_limit, scenario_limit, group_limit}
use Rattle.sheets.specs.Bytes.{byte, le32, absent_amount, beyond, nonzero}
use Rattle.stress.specs.Stress.{day_at, scenario_at, stressed_at, weak_at, group_at, loss_at, stress_outside}

-- a number of eight bytes, the lowest first
unfoldable pub le64 : List ℕ → ℕ → ℕ
le64 s at = le32 s at + le32 s (at + 4) * 4_294_967_296

-- whether a record's day or scenario is outside its values
abbrev pub block_beyond : List ℕ → Bool
block_beyond s = beyond 1 day_limit (day_at s) || beyond 1 scenario_limit (scenario_at s)

-- whether the group or the zero byte after it is outside its values
abbrev pub group_beyond : List ℕ → Bool
group_beyond s = beyond 0 group_limit (group_at s) || nonzero (byte s 7)

-- whether the member, the flag, or one of these is
abbrev pub marks_beyond : List ℕ → Bool
marks_beyond s = beyond 1 member_limit (stressed_at s) || beyond 0 1 (weak_at s) || group_beyond s

-- whether one of 4, 5 and 6 refuses a record
unfoldable pub stress_faulty : List ℕ → Bool
stress_faulty s = stress_outside s || absent_amount (loss_at s) || ltb amount_limit (loss_at s)
