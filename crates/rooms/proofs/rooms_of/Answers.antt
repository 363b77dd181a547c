use native.Mathlib.Omega.{arith}
use Rattle.std.proofs.Common.{rules}
use Rattle.figures.proofs.Made.{made_as}
use Rattle.figures.specs.Figures.{live_in}
use Rattle.rooms.specs.Rooms.{rooms}
use Rattle.rooms.proofs.Places.{length-rooms, room_at}
use Rattle.rooms.proofs.rooms_of.Goals as goal

pub returns : goal.returns
returns c =
    let a = c.args in
    made_as _ _ 0 _ (rooms (live_in a.status.now) a.most.now a.taken.now) (λ i y q h t. search (rules, room_at)) (length-rooms a.status.now a.most.now a.taken.now (omega arith) (omega arith)) c.from_fn.ensures.items
