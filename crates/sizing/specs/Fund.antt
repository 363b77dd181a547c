-- Document 01, "Stress sheet and sizing": the figures of the fund, as functions of plain numbers: `exposure` is C + W,
-- `prevailing` P, `available` V, `highest` b1.
use Rattle.std.specs.Prelude.{ℕ, ◌+◌, ◌-◌, ◌*◌, ◌/◌, min, max}

-- n percent of x, "rounded up"
abbrev pub percent_up : ℕ → ℕ → ℕ
percent_up n x = (n * x + 99) / 100

-- "A = 125(C+W)/100, rounded up"
abbrev pub target_of : ℕ → ℕ
target_of exposure = percent_up 125 exposure

-- "minimum B = the greater of C+W and 85P/100 rounded up"
abbrev pub minimum_of : ℕ → ℕ → ℕ
minimum_of exposure prevailing = max exposure (percent_up 85 prevailing)

-- "own contribution = the lesser of V and max(25B/100 rounded up, b1)"
abbrev pub own_of : ℕ → ℕ → ℕ → ℕ → ℕ
own_of exposure prevailing available highest =
    min available (max (percent_up 25 (minimum_of exposure prevailing)) highest)

-- "quantum D = the greater of B and A less own contribution (0 if that is negative)": a difference of numbers is 0 there
abbrev pub quantum_of : ℕ → ℕ → ℕ → ℕ → ℕ
quantum_of exposure prevailing available highest =
    max (minimum_of exposure prevailing) (target_of exposure - own_of exposure prevailing available highest)
