-- Document 01, "The opening register": "records of 16 bytes, no header, numbers little-endian".
use Rattle.std.specs.Prelude.{ℕ, ◌+◌, ◌*◌, Bool, ◌||◌, List, eqb, ltb, get_or, take, drop}
use Rattle.lists.specs.Limits.{missing_amount}

-- record i of a sheet, counted from 0
abbrev pub record_at : List ℕ → ℕ → List ℕ
record_at sheet i = take 16 (drop (i * 16) sheet)

abbrev pub byte : List ℕ → ℕ → ℕ
byte s at = get_or s at 0

-- a number of two bytes and one of four, the lowest byte first
unfoldable pub le16 : List ℕ → ℕ → ℕ
le16 s at = byte s at + byte s (at + 1) * 256

unfoldable pub le32 : List ℕ → ℕ → ℕ
le32 s at = byte s at + byte s (at + 1) * 256 + byte s (at + 2) * 65_536 + byte s (at + 3) * 16_777_216

-- "Hexadecimal FFFFFFFF means missing."
abbrev pub absent_amount : ℕ → Bool
absent_amount amount = eqb amount missing_amount

-- whether a number is none of `low` to `high`
abbrev pub beyond : ℕ → ℕ → ℕ → Bool
beyond low high n = ltb n low || ltb high n

abbrev pub nonzero : ℕ → Bool
nonzero n = ltb 0 n
