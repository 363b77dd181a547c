-- `pools::charge_pools` meets its contract. The loop's invariant: the pools so far are charged.
use lib.ListN.{length}
use Rattle.pools.specs.Parts.{Divided}
use Rattle.pools.proofs.charge_pools.Given as goal

abbrev pub invariant-loop-sum : goal.invariant-loop-sum
invariant-loop-sum l = Divided (length l.yielded) l.sums l.status l.initial.division.left l.ranks l.division
