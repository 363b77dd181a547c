-- `pools::portion` meets its contract.
use mathlib.Core.Path.{◌≡◌, sym}
use native.Mathlib.Omega.{arith}
use Rattle.split.proofs.Laws.{share-le_left, share_whole}
use Rattle.pools.proofs.portion.Goals as goal

pub returns-then-left-eq0 : goal.returns-then-left-eq0
returns-then-left-eq0 c =
    omega (arith, c.if-left-eq0.true, share-le_left c.args.left c.args.sum c.args.rest (omega arith))

-- just the sums of the pools are left of it
pub returns-then-left-rest : goal.returns-then-left-rest
returns-then-left-rest c =
    let a = c.args in
    let e : a.left ≡ a.rest = omega (arith, c.if-left-rest.true) in
    rw e (sym (share_whole a.rest a.sum (omega arith)))

pub overflow_cast-result-2 : goal.overflow_cast-result-2
overflow_cast-result-2 c =
    omega (arith, c.requires, c.share.ensures, share-le_left c.from-left.result c.args.sum c.args.rest (omega arith))
