-- What run_drill prints of a call, and of a line that it cannot read.
use Rattle.std.specs.Prelude.{ℕ, zero, suc, ◌+◌, ◌&&◌, List, [], ◌++◌, Option, Result, Some, None, Ok, Err, eqb, get_or}
use Rattle.lists.specs.Limits.{member_limit}
use Rattle.lists.specs.Checks.{check}
use Rattle.lists.specs.Texts.{ascii}
use Rattle.numbers.specs.Numbers.{labelled}
use Rattle.refusal.specs.declared.Refusal.{Refusal}
use Rattle.refusal.specs.Refusal.{number_of}
use Rattle.layers.specs.declared.Allocation.{Allocation}

-- "`unreadable line K`"
unfoldable pub unreadable_text : ℕ → List ℕ
unreadable_text k = labelled (ascii "unreadable line ") k ++ ascii "\n"

-- "` layers L1 L2 L3 L4 L5 L6 short S`"
unfoldable pub layers_text : Allocation → List ℕ
layers_text a =
    labelled (ascii " layers ") a.margin
    ++ labelled (ascii " ") a.contribution
    ++ labelled (ascii " ") a.tranche1
    ++ labelled (ascii " ") a.members
    ++ labelled (ascii " ") a.tranche2
    ++ labelled (ascii " ") a.calls
    ++ labelled (ascii " short ") a.short

-- "`accepted fallen F layers L1 L2 L3 L4 L5 L6 short S`"
unfoldable pub allocation_text : Allocation → List ℕ
allocation_text a = labelled (ascii "accepted fallen ") a.fallen ++ layers_text a ++ ascii "\n"

-- "for each member with a charge or a call, in rising order, `  member M charged X called Y`"
unfoldable pub charge_text : ℕ → ℕ → ℕ → List ℕ
charge_text member charge call =
    check (eqb charge 0 && eqb call 0) []
    (labelled (ascii "  member ") member
    ++ labelled (ascii " charged ") charge
    ++ labelled (ascii " called ") call
    ++ ascii "\n")

-- of the first k members: a slip has a charge for each member number, and then a call for each
unfoldable pub charges_text : List ℕ → ℕ → List ℕ
charges_text slip zero = []
charges_text slip (suc k) = charges_text slip k ++ charge_text (k + 1) (get_or slip k 0) (get_or slip (k + member_limit) 0)

-- "`refused N`"
abbrev pub refused_text : Refusal → List ℕ
refused_text refusal = labelled (ascii "refused ") (number_of refusal) ++ ascii "\n"

-- what is printed of a call's answer, with the slip that the call left
abbrev pub reply_text : Result (Option Allocation) Refusal → List ℕ → List ℕ
reply_text (Err refusal) slip = refused_text refusal
reply_text (Ok None) slip = ascii "accepted\n"
reply_text (Ok (Some a)) slip = allocation_text a ++ charges_text slip member_limit
