-- run_drill: what a line of standard input says.
use Rattle.std.specs.Prelude.{ℕ, List, [], ◌∷◌, bytes_eq, Option, Some, None, Result, Ok}
use Rattle.std.specs.Option.{option_map}
use Rattle.lists.specs.Checks.{check}
use Rattle.lists.specs.Texts.{ascii}
use Rattle.words.specs.Words.{words_of, or_unreadable}
use Rattle.words.specs.declared.Unreadable.{Unreadable}
use Rattle.numbers.specs.Numbers.{read_of}
use Rattle.drill.specs.declared.DrillCall.{DrillCall}
use Rattle.lines.specs.Defaults.{default_line, default_ranks, no_ranks}
use Rattle.lines.specs.RangeLines.{range_line, range_ranks}
use Rattle.lines.specs.declared.Line.{Line}

-- unreadable: "something that is no number"
abbrev pub both : Option ℕ → Option ℕ → Option (ℕ × ℕ)
both (Some m) (Some n) = Some (m, n)
both _ _ = None

-- two words as numbers: a word too few and "a word too many" are unreadable
abbrev pub pair_of : List (List ℕ) → Option (ℕ × ℕ)
pair_of (m ∷ n ∷ []) = both (read_of m) (read_of n)
pair_of _ = None

-- `payment M AMOUNT`, `replenishment M AMOUNT`
abbrev pub pair_line : (ℕ → ℕ → DrillCall) → List (List ℕ) → Option Line
pair_line make ws = option_map (λ p. Line.Call (make p.0 p.1)) (pair_of ws)

-- `close`, `register`, `page`
abbrev pub alone : Line → List (List ℕ) → Option Line
alone line [] = Some line
alone line (w ∷ ws) = None

-- a line that begins neither with `default` nor with `range`, by its first word and the others: "another word" is unreadable
unfoldable pub other_line : List ℕ → List (List ℕ) → Option Line
other_line word ws =
    check (bytes_eq word (ascii "payment")) (pair_line DrillCall.Payment ws)
    (check (bytes_eq word (ascii "replenishment")) (pair_line DrillCall.Replenishment ws)
    (check (bytes_eq word (ascii "close")) (alone (Line.Call DrillCall.Close) ws)
    (check (bytes_eq word (ascii "register")) (alone Line.Register ws)
    (check (bytes_eq word (ascii "page")) (alone Line.Page ws)
    None))))

-- and with these two, which have ranks
unfoldable pub said_of : List ℕ → List (List ℕ) → Option Line
said_of word ws =
    check (bytes_eq word (ascii "default")) (option_map Line.Call (default_line ws))
    (check (bytes_eq word (ascii "range")) (range_line ws)
    (other_line word ws))

unfoldable pub ranks_for : List ℕ → List (List ℕ) → List (List ℕ)
ranks_for word ws =
    check (bytes_eq word (ascii "default")) (default_ranks ws)
    (check (bytes_eq word (ascii "range")) (range_ranks ws)
    no_ranks)

-- "a line with no word is skipped"
abbrev pub line_in : List (List ℕ) → Result (Option Line) Unreadable
line_in [] = Ok None
line_in (word ∷ ws) = or_unreadable (said_of word ws)

abbrev pub ranks_with : List (List ℕ) → List (List ℕ)
ranks_with [] = no_ranks
ranks_with (word ∷ ws) = ranks_for word ws

-- what a line says
abbrev pub line_of : List ℕ → Result (Option Line) Unreadable
line_of line = line_in (words_of line)

-- the ranks beside it: those that the words of a readable default give to its first four pools, or those of a readable range to the first, and 255 for
-- everyone else
abbrev pub ranks_of : List ℕ → List (List ℕ)
ranks_of line = ranks_with (words_of line)
