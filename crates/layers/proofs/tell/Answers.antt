-- `layers::tell` meets its contract.
use native.Mathlib.Omega.{arith}
use Rattle.layers.proofs.Calls.{slip-written}
use Rattle.layers.proofs.tell.Goals as goal

pub returns : goal.returns
returns c =
    slip-written c.args.placed.now.charges c.args.placed.now.called c.args.slip.now _ _ (omega arith) c.write.ensures c.write-2.ensures
