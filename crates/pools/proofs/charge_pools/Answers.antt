use Prim.Native.Nat.{◌<◌}
use mathlib.Core.Path.{◌≡◌}
use mathlib.Core.List.{[]}
use native.Mathlib.Omega.{arith}
use lib.ListN.{length, length-append, get_or}
use Rattle.std.proofs.Common.{rules}
use Rattle.std.proofs.lemmas.Slice.Zip.{zip_turn}
use Rattle.admission.specs.Admission.{pool_ranks}
use Rattle.pools.proofs.Charging.{ranks_of-turn, divisible, divided_turn, divided_start}
use Rattle.pools.proofs.charge_pools.Goals.{In-Some}
use Rattle.pools.proofs.charge_pools.Goals as goal

-- the pool of a turn: one of them, with its sum and its ranks
module _ (c : In-Some) where
  turn : let a = c.args in let p = length c.loop-sum.yielded in
      (p < length a.sums.now) × (c.in-Some.field-0-0.now ≡ get_or a.sums.now p 0) × (c.in-Some.own.now ≡ pool_ranks a.ranks.now p)
  turn =
      let a = c.args in
      let l = c.loop-sum in
      let z = zip_turn a.sums.now c.as_chunks.result.0.now l.yielded c.into_iter-sum-iterator.result _ c.next.new.self c.next.result (search rules)
      (search rules) l.yielded_by _ c.in-Some.is c.next.ensures.steps in
      (z.0, z.2 0, ranks_of-turn _ _ a.ranks.now _ _ c.as_chunks.ensures.front c.as_chunks.ensures.front_len z.1 (z.3 []))

pub loop-sum-init : goal.loop-sum-init
loop-sum-init c = divided_start _ _ _ _ _ (omega arith) (omega arith) c.requires.whole_is

pub charge-requires : goal.charge-requires
charge-requires c =
    let a = c.args in
    let t = turn (goal.at.charge-requires c).In-Some in
    rw (t.1, t.2) (divisible a.sums.now a.status.now a.contribution a.ranks.now (omega arith)
    (omega arith) c.requires.poolable _ t.0 c.loop-sum.division c.loop-sum.invariant)

pub loop-sum-preserved : goal.loop-sum-preserved
loop-sum-preserved c =
    let a = c.args in
    let t = turn (goal.at.loop-sum-preserved c).In-Some in
    simp length-append (divided_turn a.sums.now a.status.now a.contribution a.ranks.now (omega arith)
    (omega arith) c.requires.poolable _ t.0 c.loop-sum.division c.loop-sum.invariant c.charge.new.self
    (rw (t.1, t.2) at c.charge.ensures))
