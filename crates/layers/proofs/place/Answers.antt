-- `layers::place` meets its contract.
use Prim.Native.Nat.{ℕ, ◌+◌}
use mathlib.Core.Path.{◌≡◌, refl, ap, ◌∙◌}
use mathlib.Core.List.{List}
use native.Mathlib.Omega.{arith}
use lib.ListN.{length, take}
use Rattle.lists.specs.Sums.{total, keep}
use Rattle.figures.specs.Figures.{live_in}
use Rattle.admission.specs.Admission.{losses_of}
use Rattle.admission.proofs.EachPool.{first-losses}
use Rattle.rooms.specs.Parts.{Leaves}
use Rattle.rooms.proofs.Shares.{layer_as}
use Rattle.pools.specs.Pools.{sums_of, charges_by_pools}
use Rattle.pools.specs.Parts.{Poolable}
use Rattle.pools.proofs.Laws.{by-pools-placed}
use Rattle.layers.proofs.Calls.{left_to-pools, poolable}
use Rattle.layers.proofs.place.Goals.{After-layer-third}
use Rattle.layers.proofs.place.Goals as goal

-- layers 1 to 3
module _ (c : After-layer-third) where
  layer1 : Leaves (total (losses_of c.args.pools) + c.args.estate.fallen) c.args.estate.margin c.layer-first.result.gives c.layer-first.result.left
  layer1 = layer_as _ _ _ _ _ _ (c.layer-first.ensures.gives, c.layer-first.ensures.leaves) (ap (λ (n : ℕ). n + c.args.estate.fallen) c.together.ensures) refl

  layer2 : Leaves c.layer-first.result.left c.args.estate.contribution c.layer-second.result.gives c.layer-second.result.left
  layer2 = (c.layer-second.ensures.gives, c.layer-second.ensures.leaves)

  layer3 : Leaves c.layer-second.result.left c.args.figures.tranche1 c.layer-third.result.gives c.layer-third.result.left
  layer3 = (c.layer-third.ensures.gives, c.layer-third.ensures.leaves)

  abbrev given : ℕ
  given = c.layer-first.result.gives + c.layer-second.result.gives + c.layer-third.result.gives

  abbrev sums : List ℕ
  sums = sums_of given c.args.estate.fallen (losses_of c.args.pools)

  left3 : c.layer-third.result.left ≡ total sums
  left3 = left_to-pools c.args.pools _ _ _ _ _ _ _ _ _ _ layer1 layer2 layer3 c.requires.pooled.few c.requires.pooled.some

  pooled : Poolable sums c.args.figures.status.now c.args.figures.contribution.now c.args.ranks.now
  pooled =
      poolable c.args.pools _ _ _ _ _ _ _ _ _ _ layer1 layer2 layer3 c.requires.pooled.few c.requires.pooled.some _ _ _ c.requires.moderate c.requires.pooled

  -- the losses that are counted, which become the sums
  counted : (four : length c.args.pools.losses ≡ 4) → sums_of given c.args.estate.fallen (take c.args.pools.count c.args.pools.losses) ≡ sums
  counted four = ap (sums_of given c.args.estate.fallen) (first-losses c.args.pools (omega (arith, c.requires.pooled.few)))

pub sums_of-requires-clause-moderate : goal.sums_of-requires-clause-moderate
sums_of-requires-clause-moderate c =
    let at = (goal.at.sums_of-requires-clause-moderate c).After-layer-third in
    omega (arith, ap total (counted at (omega arith)), (pooled at).sums_fit)

pub charge_by_pools-members-requires : goal.charge_by_pools-members-requires
charge_by_pools-members-requires c =
    let at = (goal.at.charge_by_pools-members-requires c).After-layer-third in
    rw (c.sums_of.ensures ∙ counted at (omega arith)) (pooled at)

pub overflow_sub-third : goal.overflow_sub-third
overflow_sub-third c =
    let a = c.args in
    let at = (goal.at.overflow_sub-third c).After-layer-third in
    let e = c.charge_by_pools-members.ensures in
    omega (
      arith,
      e.total_is,
      ap total e.charges_are,
      by-pools-placed c.sums_of.new.losses (keep (live_in a.figures.status.now) a.figures.contribution.now) a.ranks.now,
      ap total (c.sums_of.ensures ∙ counted at (omega arith)),
      left3 at,
    )

pub returns : goal.returns
returns c =
    let a = c.args in
    let at = (goal.at.returns c).After-layer-third in
    let e = c.charge_by_pools-members.ensures in
    let s = c.sums_of.ensures ∙ counted at (omega arith) in
    record {
      left1 = c.layer-first.result.left;
      left2 = c.layer-second.result.left;
      left3 = c.layer-third.result.left;
      left5 = c.layer-fifth.result.left;
      fallen_is = refl;
      layer1 = layer1 at;
      layer2 = layer2 at;
      layer3 = layer3 at;
      charges_are = e.charges_are ∙ ap (λ (xs : List ℕ). charges_by_pools xs (keep (live_in a.figures.status.now) a.figures.contribution.now) a.ranks.now) s;
      members_are = e.total_is;
      layer5 = (c.layer-fifth.ensures.gives, c.layer-fifth.ensures.leaves);
      layer6 = c.share_rooms-sixth.ensures;
    }
