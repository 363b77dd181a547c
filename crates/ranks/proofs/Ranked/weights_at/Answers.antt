-- `ranks::Ranked::weights_at` meets its contract.
use mathlib.Core.Path.{sym, ◌∙◌}
use native.Mathlib.Omega.{arith}
use borrow.Author.Rules.{rules}
use lib.Dec.{eqb}
use lib.ListN.{replicate}
use Rattle.lists.specs.Limits.{allocation_limit}
use Rattle.lists.proofs.Sums.{none-plus, total_zeros, zeros_within}
use Rattle.ranks.specs.Ranks.{at_rank}
use Rattle.ranks.proofs.Laws.{length_at}
use Rattle.ranks.proofs.Ranked.weights_at.Goals as goal

pub add_chosen-requires-clause-charges_fit : goal.add_chosen-requires-clause-charges_fit
add_chosen-requires-clause-charges_fit c k = zeros_within allocation_limit 64 k

pub returns : goal.returns
returns c =
    let s = c.args.self.now in
    c.add_chosen.ensures (eqb c.args.rank) (λ r b p. search rules)
    ∙ none-plus (at_rank c.args.rank s.weights.now s.ranks.now) (replicate 64 0)
    (omega (arith, length_at c.args.rank s.weights.now s.ranks.now (s.as_many ∙ sym s.long), s.long))
    (total_zeros 64)
