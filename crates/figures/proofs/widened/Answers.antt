use native.Mathlib.Omega.{arith}
use Rattle.std.proofs.Common.{rules}
use Rattle.figures.proofs.Made.{made_as}
use Rattle.figures.proofs.widened.Goals as goal

pub returns : goal.returns
returns c = made_as _ _ 0 _ c.args.amounts.now (λ i y q h t. search rules) (omega arith) c.from_fn.ensures.items
