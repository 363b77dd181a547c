use native.Mathlib.Omega.{arith}
use lib.ListN.{length-map}
use Rattle.std.proofs.Common.{rules}
use Rattle.split.specs.Split.{share_of}
use Rattle.figures.proofs.Made.{made_as}
use Rattle.pools.specs.Parts.{shares}
use Rattle.pools.proofs.Turns.{shares-last, get_or-shares}
use Rattle.pools.proofs.portions_of.Goals as goal

pub returns-then-sum-rest : goal.returns-then-sum-rest
returns-then-sum-rest c =
    shares-last c.args.sum c.args.rest c.args.left c.requires.1 c.if-sum-rest.true

pub returns : goal.returns
returns c =
    let a = c.args in
    made_as _ _ 0 _ (shares a.sum a.rest a.left) (λ i y q h t. search (rules, get_or-shares))
    (omega (arith, length-map a.left (λ w. share_of w a.sum a.rest))) c.from_fn.ensures.items
