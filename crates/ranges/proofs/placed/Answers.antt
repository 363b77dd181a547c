-- `ranges::placed` meets its contract.
use mathlib.Core.Path.{◌≡◌, refl, ◌∙◌}
use Rattle.std.specs.Prelude.{None, replicate}
use Rattle.admission.specs.Admission.{one_pool}
use Rattle.admission.proofs.Admitted.{Admitted, admitted}
use Rattle.waterfall.specs.Pools.{pooled_refusal}
use Rattle.waterfall.proofs.OnePool.{one_pool-admits, same-charges, one_pool-allocation, one_pool-calls}
use Rattle.waterfall.proofs.Placing.{allocatable, layer4_is, called_is, allocation_is}
use Rattle.ranges.specs.Ranges.{half}
use Rattle.ranges.proofs.placed.Goals.{After-figures}
use Rattle.ranges.proofs.placed.Goals as goal

-- a default with one pool is admitted as document 01 has it, and as the calls have it
module _ (c : After-figures) where
  can : Admitted c.args.register.now.status c.args.member c.args.loss c.args.ranks.now half
  can = admitted c.args.register.now.status c.args.member c.args.loss c.args.ranks.now half c.requires

  passed : pooled_refusal c.args.register.now c.args.member (one_pool c.args.loss) c.args.ranks.now (replicate half 0) ≡ None
  unfolding pooled_refusal
  passed = one_pool-admits c.args.register.now c.given_back.ensures c.args.member (one_pool c.args.loss) refl c.args.ranks.now half can

pub allocate-requires : goal.allocate-requires
allocate-requires c =
    let a = c.args in
    let m = c.figures.ensures.members in
    rw (m.0, m.2, m.3, m.4, m.5)
    (allocatable a.register.now c.given_back.ensures a.member (one_pool a.loss) a.ranks.now (replicate half 0)
    (passed (goal.at.allocate-requires c).After-figures))

pub returns : goal.returns
returns c =
    let a = c.args in
    let r = a.register.now in
    let g = c.given_back.ensures in
    let m = c.figures.ensures.members in
    let t = c.figures.ensures.tranches in
    let at = (goal.at.returns c).After-figures in
    let down = rw (m.0, m.1, m.2, m.3, m.4, m.5, t.0, t.1) at c.allocate.ensures in
    record {
      allocation_is =
          allocation_is r g a.member (one_pool a.loss) a.ranks.now (replicate half 0) (passed at) _ down
          ∙ one_pool-allocation r g a.member (one_pool a.loss) refl a.ranks.now half (can at);
      charges_are =
          layer4_is r g a.member (one_pool a.loss) a.ranks.now (replicate half 0) (passed at) _ down
          ∙ same-charges r g a.member (one_pool a.loss) refl a.ranks.now half (can at);
      calls_are =
          called_is r g a.member (one_pool a.loss) a.ranks.now (replicate half 0) (passed at) _ down
          ∙ one_pool-calls r g a.member (one_pool a.loss) refl a.ranks.now half (can at);
    }
