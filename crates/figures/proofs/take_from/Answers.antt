use native.Mathlib.Omega.{arith}
use Rattle.std.proofs.Common.{rules}
use Rattle.lists.proofs.Sums.{get_or-minus, length-minus}
use Rattle.figures.proofs.Made.{made_as}
use Rattle.figures.proofs.take_from.Goals as goal

pub returns : goal.returns
returns c = made_as _ _ 0 _ _ (λ i y q h t. search (rules, get_or-minus)) (omega (arith, length-minus c.args.figures.now c.args.amounts.now)) c.from_fn.ensures.items
