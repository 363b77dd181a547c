-- `requirements::joined` meets its contract.
use native.Mathlib.Omega.{arith}
use borrow.Author.Rules.{rules}
use Rattle.figures.proofs.Made.{made_as}
use Rattle.requirements.proofs.Sharing.{joined_of, length-joined, get_or-joined}
use Rattle.requirements.proofs.joined.Goals as goal

pub returns : goal.returns
returns c =
    let a = c.args in
    made_as _ _ 0 _ (joined_of a.present.now a.shares.now.margin a.shares.now.stress a.shares.now.volume)
    (λ i y q h t. rw (get_or-joined a.present.now a.shares.now.margin a.shares.now.stress a.shares.now.volume 64 c.told-present (omega arith) (omega arith) (omega arith) i h) (search rules))
    (length-joined a.present.now a.shares.now.margin a.shares.now.stress a.shares.now.volume 64 c.told-present (omega arith) (omega arith) (omega arith))
    c.from_fn.ensures.items
