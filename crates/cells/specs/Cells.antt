-- A line of a sheet, as make_sheet reads it: "no header; spaces around a cell are dropped; CR before the line's end is dropped"
use Rattle.std.specs.Prelude.{ℕ, ◌-◌, ◌≡◌, refl, List, [], ◌==◌, ltb, length, get_or, take, drop, Option, Some, None}
use Rattle.std.specs.Borrow.{Bor}
use Rattle.std.specs.List.{prefix_len, suffix_len, before_first, slice_split}
use Rattle.lists.specs.Limits.{missing_amount}
use Rattle.lists.specs.Checks.{check}
use Rattle.lists.specs.Texts.{ascii}
use Rattle.numbers.specs.Numbers.{read_of}
use Rattle.words.specs.Words.{is_space}

-- the line before a CR, where that is the last byte
unfoldable pub without_return : List ℕ → List ℕ
without_return line = check (get_or line (length line - 1) 0 == 13) (take (length line - 1) line) line

-- the line before its CR and before its comment
unfoldable pub content_of : List ℕ → List ℕ
content_of line = before_first (λ b. b == 35) (without_return line)

-- the spaces at the end dropped
abbrev pub trim_end : List ℕ → List ℕ
trim_end s = take (length s - suffix_len is_space s) s

-- the spaces around dropped
unfoldable pub trimmed : List ℕ → List ℕ
trimmed s = trim_end (drop (prefix_len is_space s) s)

-- "A cell that is no number or does not fit its field" is bad
abbrev pub within : ℕ → Option ℕ → Option ℕ
within limit (Some v) = check (ltb v limit) (Some v) None
within limit None = None

-- what a cell says, with the value of a blank and the number that its values stay below
unfoldable pub field_of : ℕ → ℕ → List ℕ → Option ℕ
field_of blank limit s = check (length (trimmed s) == 0) (Some blank) (within limit (read_of (trimmed s)))

-- "A blank amount is written as FFFFFFFF, missing"; "An amount of 4,294,967,295 typed as a number is refused the same way, since it would read as missing."
abbrev pub amount_of : List ℕ → Option ℕ
amount_of = field_of missing_amount missing_amount

-- "any other blank cell as all bits set, which no check accepts. A blank is never written as zero."
abbrev pub byte_of : List ℕ → Option ℕ
byte_of = field_of 255 256

abbrev pub half_of : List ℕ → Option ℕ
half_of = field_of 65535 65536

-- "comma-separated lines": a line cut at its commas
abbrev pub cells_of : List ℕ → List (List ℕ)
cells_of = slice_split (λ b. b == 44)

-- what is left of a line, None where its last cell is taken
abbrev pub cells_left : Option (Bor (List ℕ)) → List (List ℕ)
cells_left (Some line) = cells_of line.now
cells_left None = []

seven_cell : byte_of (ascii " 7 ") ≡ Some 7
unfolding field_of trimmed read_of check
seven_cell = refl

blank_cell : byte_of (ascii "  ") ≡ Some 255
unfolding field_of trimmed read_of check
blank_cell = refl

bad_cell : byte_of (ascii "7x") ≡ None
unfolding field_of trimmed read_of check
bad_cell = refl
