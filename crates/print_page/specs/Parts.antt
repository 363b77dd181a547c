-- What the parts of `print_page` promise each other. No rule of document 01 is here.
use Rattle.std.specs.Prelude.{◌≡◌, Bool, false, Option, Some, None}
use Rattle.lists.specs.Limits.{printed_limit}
use Rattle.layers.specs.declared.Allocation.{Allocation}
use Rattle.page.specs.Page.{amounts_of, any_above}

-- whether an answer has an amount above what a page prints
abbrev pub unprintable : Option Allocation → Bool
unprintable None = false
unprintable (Some a) = any_above printed_limit (amounts_of a)

-- that of no accepted default has one (`answers-within` in crates/page/proofs/Theorem.antt)
abbrev pub Printable : Option Allocation → Type 0
Printable latest = unprintable latest ≡ false
