use mathlib.Core.Path.{sym}
use native.Mathlib.Omega.{arith}
use Rattle.std.proofs.Common.{rules}
use Rattle.lists.proofs.Sums.{none-plus, get_or-plus, length-plus}
use Rattle.figures.proofs.Made.{made_as}
use Rattle.figures.proofs.add_to.Goals as goal

pub returns-then-whole-eq0 : goal.returns-then-whole-eq0
returns-then-whole-eq0 c =
    sym (none-plus c.args.figures.now c.args.amounts.now (omega arith) (omega (arith, c.requires.total_is, c.if-whole-eq0.true)))

pub returns : goal.returns
returns c =
    made_as _ _ 0 _ _ (λ i y q h t. search (rules, get_or-plus)) (omega (arith, length-plus c.args.figures.now c.args.amounts.now (omega arith))) c.from_fn.ensures.items
