-- What run_drill prints of the line `page`.
use Rattle.std.specs.Prelude.{ℕ, List, Option, Some, None, Ok, Err}
use Rattle.lists.specs.Texts.{ascii}
use Rattle.waterfall.specs.Reply.{Reply}
use Rattle.layers.specs.declared.Allocation.{Allocation}
use Rattle.page.specs.Page.{page_of}

-- "the latest accepted default": no other call has an allocation in its answer
abbrev pub latest_of : Option Allocation → Reply → Option Allocation
latest_of latest (Err refusal) = latest
latest_of latest (Ok None) = latest
latest_of latest (Ok (Some a)) = Some a

-- "the wall page of the latest accepted default, its eight lines; `no page` where there has been none"
abbrev pub page_text : Option Allocation → List ℕ
page_text None = ascii "no page\n"
page_text (Some a) = page_of a
