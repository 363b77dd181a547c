-- make_sheet: "`member,margin,contribution,cap`, `member,volume,margin,loss`, or `day,scenario,member,weak,loss`." "A line of `stress`
-- may have a sixth cell, the group: `day,scenario,member,weak,loss,group`."
use Rattle.std.specs.Prelude.{ℕ, ◌≡◌, refl, List, [], ◌∷◌, ◌++◌, ◌==◌, length, bytes_eq, Option, Some, None, Result, Ok, Err}
use Rattle.std.specs.List.{flat_map}
use Rattle.std.specs.Int.{to_le_bytes, w16, w32}
use Rattle.lists.specs.Checks.{check}
use Rattle.lists.specs.Texts.{ascii}
use Rattle.numbers.specs.Numbers.{read_of}
use Rattle.words.specs.Words.{or_unreadable}
use Rattle.words.specs.declared.Unreadable.{Unreadable}
use Rattle.cells.specs.Cells.{without_return, content_of, trimmed, field_of, byte_of, half_of, amount_of, cells_of}
use Rattle.rows.specs.declared.Kind.{Kind}
use Rattle.rows.specs.declared.Record.{Record}

-- "KIND is `register`, `shares` or `stress`."
unfoldable pub named_of : List ℕ → Option Kind
named_of word =
    check (bytes_eq word (ascii "register")) (Some Kind.Register)
    (check (bytes_eq word (ascii "shares")) (Some Kind.Shares)
    (check (bytes_eq word (ascii "stress")) (Some Kind.Stress)
    None))

-- a record, where each of its fields is good
abbrev pub member_row : Option ℕ → Option ℕ → Option ℕ → Option ℕ → Option Record
member_row (Some m) (Some a) (Some b) (Some c) = Some (Record.Member m (a ∷ b ∷ c ∷ []))
member_row _ _ _ _ = None

abbrev pub stress_row : Option ℕ → Option ℕ → Option ℕ → Option ℕ → Option ℕ → Option ℕ → Option Record
stress_row (Some d) (Some s) (Some m) (Some w) (Some l) (Some g) = Some (Record.Stress d s m w l g)
stress_row _ _ _ _ _ _ = None

-- "a line with too few or too many cells" holds no record
abbrev pub member_of : List (List ℕ) → Option Record
member_of (m ∷ a ∷ b ∷ c ∷ []) = member_row (byte_of m) (amount_of a) (amount_of b) (amount_of c)
member_of _ = None

-- "A line of five cells has no group column, and its byte is 0, a member alone."
abbrev pub stress_of : List (List ℕ) → Option Record
stress_of (d ∷ s ∷ m ∷ w ∷ l ∷ []) = stress_row (half_of d) (half_of s) (byte_of m) (byte_of w) (amount_of l) (Some 0)
stress_of (d ∷ s ∷ m ∷ w ∷ l ∷ g ∷ []) = stress_row (half_of d) (half_of s) (byte_of m) (byte_of w) (amount_of l) (byte_of g)
stress_of _ = None

abbrev pub record_of : Kind → List (List ℕ) → Option Record
record_of Kind.Register cells = member_of cells
record_of Kind.Shares cells = member_of cells
record_of Kind.Stress cells = stress_of cells

-- "a line with no word is skipped"
unfoldable pub row_of : Kind → List ℕ → Result (Option Record) Unreadable
row_of kind line =
    check (length (trimmed (content_of line)) == 0) (Ok None) (or_unreadable (record_of kind (cells_of (content_of line))))

-- "the 16-byte records": the lowest byte first, and zeros between
abbrev pub bytes_of : Record → List ℕ
bytes_of (Record.Member m amounts) = (m ∷ 0 ∷ 0 ∷ 0 ∷ []) ++ flat_map (to_le_bytes w32) amounts
bytes_of (Record.Stress d s m w l g) = to_le_bytes w16 d ++ to_le_bytes w16 s ++ (m ∷ w ∷ g ∷ 0 ∷ []) ++ to_le_bytes w32 l ++ (0 ∷ 0 ∷ 0 ∷ 0 ∷ [])

one : row_of Kind.Register (ascii "1,2,,4") ≡ Ok (Some (Record.Member 1 (2 ∷ 4294967295 ∷ 4 ∷ [])))
unfolding row_of content_of without_return trimmed field_of read_of check
one = refl

few : row_of Kind.Register (ascii "1,2,4") ≡ Err (record {})
unfolding row_of content_of without_return trimmed field_of read_of check
few = refl

none : row_of Kind.Register (ascii "  # n") ≡ Ok None
unfolding row_of content_of without_return trimmed field_of read_of check
none = refl

-- without a group column, with one, and with its cell left blank
alone : row_of Kind.Stress (ascii "9,8,7,1,5") ≡ Ok (Some (Record.Stress 9 8 7 1 5 0))
unfolding row_of content_of without_return trimmed field_of read_of check
alone = refl

grouped : row_of Kind.Stress (ascii "9,8,7,1,5,64") ≡ Ok (Some (Record.Stress 9 8 7 1 5 64))
unfolding row_of content_of without_return trimmed field_of read_of check
grouped = refl

blank : row_of Kind.Stress (ascii "9,8,7,1,5, ") ≡ Ok (Some (Record.Stress 9 8 7 1 5 255))
unfolding row_of content_of without_return trimmed field_of read_of check
blank = refl
