use native.Mathlib.Omega.{arith}
use Rattle.std.proofs.Common.{rules}
use Rattle.figures.proofs.Figures.{get_or-of_live, length-of_live}
use Rattle.figures.proofs.Made.{made_as}
use Rattle.figures.proofs.of_live.Goals as goal

pub returns : goal.returns
returns g c =
    made_as _ _ c.args.nothing _ _ (λ i y q h t. search (rules, get_or-of_live)) (omega (arith, length-of_live c.args.nothing c.args.status.now c.args.values.now)) c.from_fn.ensures.items
