-- `split::split` meets its contract.
use mathlib.Core.Path.{ap, sym, ◌∙◌}
use native.Mathlib.Omega.{arith}
use lib.ListN.{length}
use Rattle.lists.proofs.Sums.{total_zeros}
use Rattle.split.specs.Split.{split_of}
use Rattle.split.proofs.Laws.{split_whole}
use Rattle.split.proofs.split.Goals as goal

pub returns-then-sum-whole : goal.returns-then-sum-whole
returns-then-sum-whole c =
    let ws = c.args.weights.now in
    c.copy_from_slice.ensures.after ∙ sym (ap (λ n. split_of n ws) (omega (arith, c.if-sum-whole.true, c.requires.whole_is)) ∙ split_whole ws)

pub share_each-requires-clause-cleared : goal.share_each-requires-clause-cleared
share_each-requires-clause-cleared c = rw (c.fill.ensures.after (λ y e. e)) (total_zeros (length c.args.shares.now))
