-- `pools::sums_of` meets its contract.
use native.Mathlib.Omega.{arith}
use Rattle.pools.proofs.Sums.{Joining, joining-within, joining-sums, joining_fits}
use Rattle.pools.proofs.sums_of.Goals.{After-joined_pool-p}
use Rattle.pools.proofs.sums_of.Goals as goal

module _ (c : After-joined_pool-p) where
  joining : let a = c.args in Joining a.given a.fallen c.min-met.result c.joined_pool-p.result a.losses.now c.meet.new.losses
  joining =
      record {
        some = c.requires.some;
        met_is = c.min-met.ensures;
        lefts_are = c.meet.ensures;
        pool_is = c.joined_pool-p.ensures;
      }

pub offset_bounds-losses-p : goal.offset_bounds-losses-p
offset_bounds-losses-p c = omega (arith, joining-within (joining (goal.at.offset_bounds-losses-p c).After-joined_pool-p))

pub bounds-losses-p : goal.bounds-losses-p
bounds-losses-p c = omega (arith, joining-within (joining (goal.at.bounds-losses-p c).After-joined_pool-p))

pub overflow_add-losses : goal.overflow_add-losses
overflow_add-losses c = omega (arith, joining_fits (joining (goal.at.overflow_add-losses c).After-joined_pool-p), c.requires.moderate)

pub bounds-losses-p-2 : goal.bounds-losses-p-2
bounds-losses-p-2 c = omega (arith, joining-within (joining (goal.at.bounds-losses-p-2 c).After-joined_pool-p))

pub returns : goal.returns
returns c = joining-sums (joining (goal.at.returns c).After-joined_pool-p)
