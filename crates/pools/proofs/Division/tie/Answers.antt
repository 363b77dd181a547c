-- `pools::Division::tie` meets its contract.
use Rattle.rooms.proofs.Shares.{whole_shared}
use Rattle.pools.proofs.Turns.{tie_adds, tied_so}
use Rattle.pools.proofs.Division.tie.Goals as goal

pub add_to-requires-clause-total_is : goal.add_to-requires-clause-total_is
add_to-requires-clause-total_is c = whole_shared _ _ _ _ _ c.share_rooms-tie.ensures

pub add_to-requires-clause-fits : goal.add_to-requires-clause-fits
add_to-requires-clause-fits c = tie_adds _ c.args.status.now _ c.args.self c.requires _ _ _ c.share_rooms-tie.ensures

pub returns : goal.returns
returns c =
    tied_so _ c.args.status.now _ c.args.self c.requires _ _ _ c.share_rooms-tie.ensures _ _ c.add_to.ensures c.widened.ensures
