-- The limits of document 01 and of the requests of document 02, each once. Money is whole thousands of rupees.
use Rattle.std.specs.Prelude.{ℕ, ◌+◌, ◌*◌, ◌/◌}

-- "Members are numbered 1 to 64."
abbrev pub member_limit : ℕ
member_limit = 64

-- "1 is most senior, 64 most junior"; document 02, request 2: "The limit of 64 becomes 24 in refusal 15"
abbrev pub rank_limit : ℕ
rank_limit = 24

-- document 02, request 3: "A default may name 1 to 4 pools"
abbrev pub pool_limit : ℕ
pool_limit = 4

-- "An amount is 0 to 400,000,000"
abbrev pub amount_limit : ℕ
amount_limit = 400_000_000

-- "Hexadecimal FFFFFFFF means missing."
abbrev pub missing_amount : ℕ
missing_amount = 0xffffffff

-- "a sum handed alone (..) is 0 to 25,600,000,000"
abbrev pub sum_limit : ℕ
sum_limit = 25_600_000_000

-- "contribution (at least 10,000: one crore, ..)"; the least requirement
abbrev pub contribution_floor : ℕ
contribution_floor = 10_000

-- the most that a default has to allocate: losses and a fallen call
abbrev pub allocation_limit : ℕ
allocation_limit = 26_000_000_000

-- "A stress sheet has 1 to 4,096 records: bytes 0-1 day (1 to 184), 2-3 scenario (1 to 64)"
abbrev pub stress_limit : ℕ
stress_limit = 4_096

abbrev pub day_limit : ℕ
day_limit = 184

abbrev pub scenario_limit : ℕ
scenario_limit = 64

-- the weak flags that a block may have: the sixth is refused
abbrev pub weak_limit : ℕ
weak_limit = 5

-- document 02, request 5: "the group, 1 to 64"
abbrev pub group_limit : ℕ
group_limit = 64

-- the most that C + W comes to, 27,600,000,000, since a group's sum may be that of all losses of a block: 64 amounts, and the five flagged ones again
abbrev pub exposure_limit : ℕ
exposure_limit = (member_limit + weak_limit) * amount_limit

-- the most that A comes to, 125 percent of that, 34,500,000,000; no quantum is above it
abbrev pub quantum_limit : ℕ
quantum_limit = 125 * exposure_limit / 100

-- document 02, request 1: "an amount above 26,000,000,000" is not printed
abbrev pub printed_limit : ℕ
printed_limit = 26_000_000_000
