-- What run_drill prints of the line `range`.
use Rattle.std.specs.Prelude.{ℕ, zero, suc, ◌+◌, ◌&&◌, List, [], ◌++◌, Result, Ok, Err, eqb, get_or}
use Rattle.lists.specs.Limits.{member_limit}
use Rattle.lists.specs.Checks.{check}
use Rattle.lists.specs.Texts.{ascii}
use Rattle.numbers.specs.Numbers.{labelled}
use Rattle.refusal.specs.declared.Refusal.{Refusal}
use Rattle.print_answers.specs.Texts.{layers_text, refused_text}
use Rattle.ranges.specs.Ranges.{half}
use Rattle.ranges.specs.declared.Ranges.{Ranges}

-- "`accepted low layers L1 L2 L3 L4 L5 L6 short S high layers H1 H2 H3 H4 H5 H6 short T`"
unfoldable pub ends_text : Ranges → List ℕ
ends_text ranges =
    ascii "accepted low" ++ layers_text ranges.low ++ ascii " high" ++ layers_text ranges.high ++ ascii "\n"

-- "for each member with a high charge or call above zero, in rising order, `  member M charged X to Y called A to B`"
unfoldable pub member_text : ℕ → ℕ × ℕ → ℕ × ℕ → List ℕ
member_text member charges calls =
    check (eqb charges.1 0 && eqb calls.1 0) []
    (labelled (ascii "  member ") member
    ++ labelled (ascii " charged ") charges.0
    ++ labelled (ascii " to ") charges.1
    ++ labelled (ascii " called ") calls.0
    ++ labelled (ascii " to ") calls.1
    ++ ascii "\n")

-- of the first k members: each half of a slip has a charge for each member number, and then a call for each, and the lows stand before the highs
unfoldable pub members_text : List ℕ → ℕ → List ℕ
members_text slip zero = []
members_text slip (suc k) =
    members_text slip k
    ++ member_text (k + 1) (get_or slip k 0, get_or slip (k + half) 0) (get_or slip (k + member_limit) 0, get_or slip (k + (half + member_limit)) 0)

-- what is printed of a range's answer, with the slip that it left; "or `refused N`"
abbrev pub range_text : Result Ranges Refusal → List ℕ → List ℕ
range_text (Err refusal) slip = refused_text refusal
range_text (Ok ranges) slip = ends_text ranges ++ members_text slip member_limit
