-- `pools::Division::charge` meets its contract.
use native.Mathlib.Omega.{arith}
use Rattle.pools.proofs.Turns.{chargeable_so, can-take, can-add, total_most, charged_most, pool_charged, pool_uncharged}
use Rattle.pools.proofs.Division.charge.Goals as goal

pub returns-then-sum-eq0 : goal.returns-then-sum-eq0
returns-then-sum-eq0 c =
    pool_uncharged c.args.sum c.args.status.now c.args.ranks.now c.args.self.now (omega arith) c.requires c.if-sum-eq0.true

pub charge_others-charged-requires-clause-chargeable : goal.charge_others-charged-requires-clause-chargeable
charge_others-charged-requires-clause-chargeable c =
    chargeable_so c.args.sum c.args.status.now c.args.ranks.now c.args.self.now (omega arith) c.requires _ c.portions_of-portions.ensures

pub take_from-requires : goal.take_from-requires
take_from-requires c =
    can-take c.args.sum c.args.status.now c.args.ranks.now c.args.self.now (omega arith) c.requires _ _ c.widened.ensures c.portions_of-portions.ensures

pub add_to-requires-clause-fits : goal.add_to-requires-clause-fits
add_to-requires-clause-fits c =
    can-add c.args.sum c.args.status.now c.args.ranks.now c.args.self.now
    (omega arith) c.requires _ _ c.portions_of-portions.ensures c.charge_others-charged.ensures.charges_are

pub overflow_add-self : goal.overflow_add-self
overflow_add-self c =
    let e = c.charge_others-charged.ensures in
    omega (
      arith,
      c.requires.sum_fits,
      c.requires.rest_fits,
      total_most c.args.sum c.args.status.now c.args.ranks.now c.args.self.now (omega arith) c.requires,
      charged_most c.args.sum c.args.status.now c.args.ranks.now c.args.self.now
          (omega arith) c.requires _ _ _ c.portions_of-portions.ensures e.charges_are e.total_is,
    )

pub returns : goal.returns
returns c =
    let e = c.charge_others-charged.ensures in
    pool_charged c.args.sum c.args.status.now c.args.ranks.now c.args.self.now
    (omega arith) c.requires _ _ _ _ _ _ c.portions_of-portions.ensures c.widened.ensures e.charges_are e.total_is c.take_from.ensures c.add_to.ensures
