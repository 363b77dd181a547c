use Prim.Native.Nat.{◌+◌}
use native.Mathlib.Omega.{arith}
use mathlib.Core.Path.{refl, ◌∙◌}
use borrow.Author.Rules.{rules}
use lib.ListN.{length, length-append, length-set}
use Rattle.std.proofs.lemmas.Slice.Zip.{zip_turn}
use Rattle.lists.specs.Limits.{rank_limit}
use Rattle.ranks.proofs.Parts.{adding_start, adding_turn}
use Rattle.ranks.proofs.Ranked.totals.Goals as goal

pub loop-weight-init : goal.loop-weight-init
loop-weight-init c =
    let s = c.args.self.now in
    (refl, adding_start (rank_limit + 1) s.weights.now s.ranks.now)

pub loop-weight-preserved : goal.loop-weight-preserved
loop-weight-preserved c =
    let s = c.args.self.now in
    let l = c.loop-weight in
    let z = zip_turn s.weights.now s.ranks.now l.yielded c.into_iter-weight-iterator.result _ c.next.new.self c.next.result (search rules) (search rules) l.yielded_by _ c.in-Some.is c.next.ensures.steps in
    let weight = c.from.ensures ∙ z.2 0 in
    let rank = c.from-in-loop-weight.ensures ∙ z.3 0 in
    simp (length-append, length-set, weight) (
      l.invariant.0,
      adding_turn l.totals s.weights.now s.ranks.now _ c.from-in-loop-weight.result z.0 z.1 (omega (arith, rank, s.weighed.ranks_fit (length l.yielded), l.invariant.0)) rank (s.weighed.weights_fit (length l.yielded)) l.invariant.1,
    )
