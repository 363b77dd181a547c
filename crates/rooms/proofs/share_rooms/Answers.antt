-- `rooms::share_rooms` meets its contract.
use mathlib.Core.Path.{refl, ap, ◌∙◌}
use native.Mathlib.Omega.{arith}
use Rattle.lists.specs.Sums.{total}
use Rattle.split.proofs.Laws.{splits_as}
use Rattle.rooms.proofs.Places.{length-rooms, room_fits, rooms_fit}
use Rattle.rooms.proofs.Shares.{shared-none, shared_so}
use Rattle.rooms.proofs.share_rooms.Goals as goal

pub returns-then-left-eq0 : goal.returns-then-left-eq0
returns-then-left-eq0 c =
    let a = c.args in
    shared-none _ _ (length-rooms a.status.now a.most.now a.taken.now (omega arith) (omega arith)) c.if-left-eq0.true

pub total-whole-requires : goal.total-whole-requires
total-whole-requires c =
    let a = c.args in
    omega (arith, ap total c.rooms_of-rooms.ensures, rooms_fit a.status.now a.most.now a.taken.now c.requires.roomy (omega arith) (omega arith))

pub split-requires : goal.split-requires
split-requires c =
    let a = c.args in
    splits_as _ _ _ _ _ c.rooms_of-rooms.ensures
    (omega (arith, c.layer-step.ensures.gives, c.requires.moderate))
    (c.total-whole.ensures ∙ ap total c.rooms_of-rooms.ensures)
    (room_fits a.status.now a.most.now a.taken.now c.requires.roomy)
    (length-rooms a.status.now a.most.now a.taken.now (omega arith) (omega arith))
    refl

pub returns : goal.returns
returns c =
    shared_so _ _ _ _ _ _ _ c.rooms_of-rooms.ensures c.total-whole.ensures (c.layer-step.ensures.gives, c.layer-step.ensures.leaves) c.split.ensures
