use mathlib.Core.Bool.{false}
use native.Mathlib.Omega.{arith}
use lib.ListN.{length-map}
use Rattle.std.proofs.Common.{rules}
use Rattle.std.proofs.lemmas.List.{get_or-map}
use Rattle.figures.specs.Figures.{status_of}
use Rattle.figures.specs.declared.Status.TheVariants.{Absent}
use Rattle.figures.proofs.Made.{mapped_as}
use Rattle.figures.proofs.statuses.Goals as goal

pub returns : goal.returns
returns c = mapped_as _ _ false Absent _ _ _ (λ i y p q h t. search (rules, get_or-map)) (omega (arith, length-map c.args.present status_of)) c.map.ensures.items
