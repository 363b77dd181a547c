-- `pools::charge_by_pools` meets its contract.
use mathlib.Core.Path.{◌≡◌, ◌∙◌}
use native.Mathlib.Omega.{arith}
use Rattle.lists.specs.Sums.{keep}
use Rattle.figures.specs.Figures.{live_in}
use Rattle.figures.proofs.Figures.{of_live-keep}
use Rattle.pools.specs.Parts.{Poolable}
use Rattle.pools.proofs.Charging.{standing_poolable, standing-charges, tiable, by-pools_so, alone, alone_so}
use Rattle.pools.proofs.charge_by_pools.Goals.{After-of_live-standing}
use Rattle.pools.proofs.charge_by_pools.Goals as goal

-- the contributions that are divided
module _ (c : After-of_live-standing) where
  stands : c.of_live-standing.result ≡ keep (live_in c.args.status.now) c.args.contribution.now
  stands = c.of_live-standing.ensures ∙ of_live-keep c.args.status.now c.args.contribution.now

  poolable : let a = c.args in Poolable a.sums.now a.status.now c.of_live-standing.result a.ranks.now
  poolable =
      let a = c.args in
      standing_poolable a.sums.now a.status.now a.contribution.now a.ranks.now c.of_live-standing.result c.requires stands

pub charge_others-requires-clause-chargeable : goal.charge_others-requires-clause-chargeable
charge_others-requires-clause-chargeable c =
    let a = c.args in
    alone a.sums.now a.status.now a.contribution.now a.ranks.now (omega arith) (omega arith) c.requires c.if-sums-eq1.true

pub returns-then-sums-eq1 : goal.returns-then-sums-eq1
returns-then-sums-eq1 c =
    let a = c.args in
    let e = c.charge_others.ensures in
    record {
      charges_are = e.charges_are ∙ alone_so a.sums.now a.status.now a.contribution.now a.ranks.now (omega arith)
          (omega arith) c.requires c.if-sums-eq1.true _ c.total-whole.ensures;
      total_is = e.total_is;
    }

pub charge_pools-division-requires-clause-poolable : goal.charge_pools-division-requires-clause-poolable
charge_pools-division-requires-clause-poolable c = poolable (goal.at.charge_pools-division-requires-clause-poolable c).After-of_live-standing

pub tie-requires : goal.tie-requires
tie-requires c =
    let a = c.args in
    tiable a.sums.now a.status.now c.of_live-standing.result a.ranks.now (omega arith) (omega arith)
    (poolable (goal.at.tie-requires c).After-of_live-standing) c.charge_pools-division.result c.charge_pools-division.ensures _ c.total-whole.ensures

pub returns : goal.returns
returns c =
    let a = c.args in
    let at = goal.at.returns c in
    standing-charges a.sums.now a.status.now a.contribution.now a.ranks.now c.of_live-standing.result c.requires (stands at.After-of_live-standing) _ _
    (by-pools_so a.sums.now a.status.now c.of_live-standing.result a.ranks.now (omega arith) (omega arith)
    (poolable at.After-of_live-standing) c.charge_pools-division.result c.charge_pools-division.ensures _ c.total-whole.ensures _ _ c.tie.ensures)
