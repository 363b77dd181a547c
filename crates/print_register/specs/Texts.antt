-- What the line `register` of a drill prints.
use Rattle.std.specs.Prelude.{ℕ, zero, suc, ◌+◌, List, [], ◌++◌}
use Rattle.lists.specs.Limits.{member_limit}
use Rattle.lists.specs.Texts.{ascii}
use Rattle.numbers.specs.Numbers.{labelled}
use Rattle.figures.specs.declared.Status.{Status}
use Rattle.waterfall.specs.Register.{Register}
use Rattle.waterfall.specs.View.{figures_of}
use Rattle.waterfall.specs.declared.view.MemberView.{MemberView}

-- "margin A contribution B requirement C cap D outstanding E called F"
unfoldable pub figures_text : MemberView → List ℕ
figures_text v =
    labelled (ascii " margin ") v.margin
    ++ labelled (ascii " contribution ") v.contribution
    ++ labelled (ascii " requirement ") v.requirement
    ++ labelled (ascii " cap ") v.cap
    ++ labelled (ascii " outstanding ") v.outstanding
    ++ labelled (ascii " called ") v.called
    ++ ascii "\n"

-- "for each member of the sheet, in rising order, `  member M live margin A ..`; `default` in place of `live` for a defaulter"
unfoldable pub row_text : Status → ℕ → MemberView → List ℕ
row_text Status.Absent member v = []
row_text Status.Live member v = labelled (ascii "  member ") member ++ ascii " live" ++ figures_text v
row_text Status.InDefault member v = labelled (ascii "  member ") member ++ ascii " default" ++ figures_text v

-- of the first k members
unfoldable pub members_text : Register → ℕ → List ℕ
members_text r zero = []
members_text r (suc k) = members_text r k ++ row_text (figures_of r (k + 1)).status (k + 1) (figures_of r (k + 1))

-- "`register tranche1 X tranche2 Y`, then for each member"
abbrev pub register_text : Register → List ℕ
register_text r =
    labelled (ascii "register tranche1 ") r.tranche1
    ++ labelled (ascii " tranche2 ") r.tranche2
    ++ ascii "\n"
    ++ members_text r member_limit
