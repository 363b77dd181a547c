-- What run_sizing prints.
use Rattle.std.specs.Prelude.{ℕ, zero, suc, ◌+◌, List, [], ◌++◌, Result, Ok, Err, eqb, get_or}
use Rattle.lists.specs.Limits.{member_limit}
use Rattle.lists.specs.Checks.{check}
use Rattle.lists.specs.Texts.{ascii}
use Rattle.numbers.specs.Numbers.{labelled}
use Rattle.print_refusal.specs.Texts.{refusal_text}
use Rattle.refusal.specs.declared.Refusal.{Refusal}
use Rattle.sizing.specs.declared.Sized.{Sized}

-- "`accepted C .. W .. A .. B .. b1 .. own .. D ..`"
unfoldable pub figures_text : Sized → List ℕ
figures_text s =
    labelled (ascii "accepted C ") s.cover
    ++ labelled (ascii " W ") s.weak
    ++ labelled (ascii " A ") s.target
    ++ labelled (ascii " B ") s.minimum
    ++ labelled (ascii " b1 ") s.highest
    ++ labelled (ascii " own ") s.own
    ++ labelled (ascii " D ") s.quantum
    ++ ascii "\n"

-- "for each member of the shares sheet, `  member M requirement R`". A requirement is at least 10,000, and the slip has 0 where a member is absent
unfoldable pub requirement_text : ℕ → ℕ → List ℕ
requirement_text member requirement =
    check (eqb requirement 0) []
    (labelled (ascii "  member ") member
    ++ labelled (ascii " requirement ") requirement
    ++ ascii "\n")

-- of the first k members
unfoldable pub requirements_text : List ℕ → ℕ → List ℕ
requirements_text slip zero = []
requirements_text slip (suc k) = requirements_text slip k ++ requirement_text (k + 1) (get_or slip k 0)

-- what is printed of a sizing, with the slip that it left: "`refused N record P` for 4 to 8, `refused N` else"
unfoldable pub sized_text : Result Sized Refusal → List ℕ → List ℕ
sized_text (Err refusal) slip = refusal_text refusal
sized_text (Ok s) slip = figures_text s ++ requirements_text slip member_limit
