-- Lines of a default as they are typed, with one pool and with more, and of a range.
use Rattle.std.specs.Prelude.{ℕ, ◌≡◌, refl, [], ◌∷◌, set, Option, Some, Result, Ok, Err}
use Rattle.lists.specs.Checks.{check}
use Rattle.lists.specs.Texts.{ascii}
use Rattle.words.specs.Words.{words_of}
use Rattle.words.specs.declared.Unreadable.{Unreadable}
use Rattle.numbers.specs.Numbers.{read_of}
use Rattle.cells.specs.Cells.{trimmed, field_of}
use Rattle.typed_ranks.specs.TypedRanks.{rank_of, missing_ranks}
use Rattle.typed_ranks.specs.Pools.{pools_of}
use Rattle.drill.specs.declared.DrillCall.{DrillCall}
use Rattle.lines.specs.Defaults.{no_ranks, default_line, default_ranks}
use Rattle.lines.specs.RangeLines.{range_line, range_ranks}
use Rattle.lines.specs.Lines.{said_of, ranks_for, line_of, ranks_of}
use Rattle.lines.specs.declared.Line.{Line}

-- a default of member 1: how many pools it has, and the losses of the first four
abbrev pub called : ℕ → ℕ → ℕ → ℕ → ℕ → Result (Option Line) Unreadable
called count a b c d = Ok (Some (Line.Call (DrillCall.Default 1 (record { count = count; losses = a ∷ b ∷ c ∷ d ∷ [] }))))

abbrev pub unread : Result (Option Line) Unreadable
unread = Err (record {})

-- the same member in two pools, and "A fifth pool and more are readable"
pub readable :
    (line_of (ascii "default 1 50 2:1") ≡ called 1 50 0 0 0)
    × (line_of (ascii "default 1 50 2:1 3:2 / 70 3:4") ≡ called 2 50 70 0 0)
    × (line_of (ascii "default 1 5 / 6 / 7 / 8 / 9 2:1") ≡ called 5 5 6 7 8)
unfolding said_of default_line pools_of words_of read_of rank_of field_of trimmed check
readable = (refl, refl, refl)

-- "a pool without a loss, or two ranks for one member in one pool, make the line unreadable"; so does a bad word in a fifth pool,
-- and a `/` that is no word by itself
pub unreadable :
    (line_of (ascii "default 1 5 2:1 /") ≡ unread)
    × (line_of (ascii "default 1 5 / / 6") ≡ unread)
    × (line_of (ascii "default 1 / 6") ≡ unread)
    × (line_of (ascii "default 1 5 / 2:1") ≡ unread)
    × (line_of (ascii "default 1 5 / 6 2:1 2:3") ≡ unread)
    × (line_of (ascii "default 1 5 / 6 / 7 / 8 / 9 2:x") ≡ unread)
    × (line_of (ascii "default 1 5 /6") ≡ unread)
unfolding said_of default_line pools_of words_of read_of rank_of field_of trimmed check
unreadable = (refl, refl, refl, refl, refl, refl, refl)

-- members 2 and 3 have places 1 and 2, and member 3 in the second pool; a fifth pool has no places, and neither has an unreadable line
pub ranks :
    (ranks_of (ascii "default 1 50 2:1 3:2 / 70 3:4") ≡ set (set no_ranks 0 (set (set missing_ranks 1 1) 2 2)) 1 (set missing_ranks 2 4))
    × (ranks_of (ascii "default 1 5 / 6 / 7 / 8 / 9 2:1") ≡ no_ranks)
    × (ranks_of (ascii "default 1 5 2:1 /") ≡ no_ranks)
unfolding ranks_for default_ranks pools_of words_of read_of rank_of field_of trimmed check
ranks = (refl, refl, refl)

-- a range of losses of member 1: HIGH stands behind LOW and is no rank, and no word `/` is among the ranks
abbrev pub ranged : ℕ → ℕ → Result (Option Line) Unreadable
ranged low high = Ok (Some (Line.Range 1 (record { low = low; high = high })))

pub ranges :
    (line_of (ascii "range 1 5 9 2:1") ≡ ranged 5 9)
    × (line_of (ascii "range 1 9 5") ≡ ranged 9 5)
    × (line_of (ascii "range 1 5") ≡ unread)
    × (line_of (ascii "range 1 5 2:1") ≡ unread)
    × (line_of (ascii "range 1 5 9 7") ≡ unread)
    × (line_of (ascii "range 1 5 9 2:1 2:3") ≡ unread)
    × (line_of (ascii "range 1 5 9 2:1 / 3:2") ≡ unread)
    × (line_of (ascii "range 1 5 9 2:1 / 9 3:2") ≡ unread)
    × (line_of (ascii "range 1 5 9 /") ≡ unread)
    × (ranks_of (ascii "range 1 5 9 2:1 3:") ≡ set no_ranks 0 (set missing_ranks 1 1))
    × (ranks_of (ascii "range 1 5 9 2:1 / 9 3:2") ≡ no_ranks)
unfolding said_of ranks_for range_line range_ranks default_line default_ranks pools_of words_of read_of rank_of field_of trimmed check
ranges = (refl, refl, refl, refl, refl, refl, refl, refl, refl, refl, refl)
