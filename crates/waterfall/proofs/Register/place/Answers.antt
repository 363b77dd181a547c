-- `waterfall::Register::place` meets its contract.
use mathlib.Core.Path.{◌≡◌, refl, sym, ◌∙◌}
use Rattle.std.specs.Prelude.{Some, None}
use Rattle.std.proofs.lemmas.Result.{err_from_is_err_and}
use Rattle.figures.specs.Figures.{others}
use Rattle.admission.specs.Admission.{losses_of}
use Rattle.rooms.specs.Rooms.{rooms}
use Rattle.layers.specs.Parts.{GoesDown, estate_of}
use Rattle.waterfall.specs.Pools.{pooled_refusal}
use Rattle.waterfall.specs.Inside.{seen}
use Rattle.waterfall.proofs.Answer.{is_refused, is_passed}
use Rattle.waterfall.proofs.Placing.{refused, PlacedAs, accepted, allocatable, placed_as}
use Rattle.waterfall.proofs.Register.place.Goals.{In_ok-default_admission, After-allocate-placed}
use Rattle.waterfall.proofs.Register.place.Goals as goal

pub returns-in_err-default_admission : goal.returns-in_err-default_admission
unfolding pooled_refusal
returns-in_err-default_admission c =
    let a = c.args in
    let e = err_from_is_err_and c.from_residual.result c.from_residual.ensures.1 in
    let found : pooled_refusal a.self.now a.member a.pools a.ranks.now a.slip.now ≡ Some e.0 =
    rw (← c.self.view_is) (is_refused _ (sym c.default_admission.ensures ∙ rw e.2 c.in_err-default_admission.was)) in
    let r = refused a.self.now a.member a.pools a.ranks.now a.slip.now found in
    rw e.1 (record { answer = r.answer; register_after = r.register_after; slip_after = r.slip_after })

module _ (c : In_ok-default_admission) where
  passed : pooled_refusal (seen c.self.inside) c.args.member c.args.pools c.args.ranks.now c.args.slip.now ≡ None
  unfolding pooled_refusal
  passed = is_passed _ (sym c.default_admission.ensures ∙ c.in_ok-default_admission.was)

pub allocate-placed-requires : goal.allocate-placed-requires
allocate-placed-requires c =
    let m = c.figures.ensures.members in
    rw (m.0, m.2, m.3, m.4, m.5, ← c.self.view_is)
    (allocatable (seen c.self.inside) c.self.invariant c.args.member c.args.pools c.args.ranks.now c.args.slip.now
    (passed (goal.at.allocate-placed-requires c).In_ok-default_admission))

-- what goes down the layers, by what the register has
module _ (c : After-allocate-placed) where
  goes_down : let r = seen c.self.inside in
      GoesDown (losses_of c.args.pools) (estate_of r.outstanding r.margin r.contribution c.args.member) r.tranche1 r.tranche2 (others r.status c.args.member)
      r.contribution (rooms (others r.status c.args.member) r.cap r.called) c.args.ranks.now c.allocate-placed.result
  goes_down =
      let m = c.figures.ensures.members in
      let t = c.figures.ensures.tranches in
      rw (m.0, m.1, m.2, m.3, m.4, m.5, t.0, t.1, ← c.self.view_is) at c.allocate-placed.ensures

  placed : PlacedAs c.args.self.now c.args.member c.args.pools c.args.ranks.now c.args.slip.now c.allocate-placed.result
  unfolding pooled_refusal
  placed =
      rw (← c.self.view_is)
      (placed_as (seen c.self.inside) c.self.invariant c.args.member c.args.pools c.args.ranks.now c.args.slip.now
      (is_passed _ (sym c.default_admission.ensures ∙ c.in_ok-default_admission.was)) _ goes_down)

pub settle-requires : goal.settle-requires
settle-requires c = (placed (goal.at.settle-requires c).After-allocate-placed).settles

pub tell-requires : goal.tell-requires
tell-requires c = (placed (goal.at.tell-requires c).After-allocate-placed).slip_fits

pub returns : goal.returns
returns c =
    let a = c.args in
    let p = placed (goal.at.returns c).After-allocate-placed in
    let d = accepted a.self.now a.member a.pools a.ranks.now a.slip.now p refl c.settle.ensures c.tell.ensures in
    record { answer = d.answer; register_after = d.register_after; slip_after = d.slip_after }
