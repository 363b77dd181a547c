-- `read_on` leaves as many bytes searched as it keeps of those that were.
use Rattle.std.proofs.Common.{◌+◌, arith}
use Rattle.input.proofs.Taking.{stays_searched}
use Rattle.input.proofs.Lines.read_on.Goals as goal

pub invariant_of-self : goal.invariant_of-self
invariant_of-self g c = (
  omega arith,
  omega arith,
  stays_searched c.self.inside.bytes c.keep-kept.new.bytes c.read_behind.new.bytes c.self.inside.from c.self.inside.have c.keep-kept.result
      c.keep-kept.result c.self.inside.searched _ (omega arith) c.keep-kept.ensures.count c.keep-kept.ensures.front
      c.read_behind.ensures.front (omega arith) c.self.invariant.2 (omega arith),
)

pub invariant_of-self-in-Ok : goal.invariant_of-self-in-Ok
invariant_of-self-in-Ok g c = (
  omega arith,
  omega (arith, c.in-Ok.ensures.within),
  stays_searched c.self.inside.bytes c.keep-kept.new.bytes c.read_behind.new.bytes c.self.inside.from c.self.inside.have c.keep-kept.result
      (c.keep-kept.result + c.in-Ok.n) c.self.inside.searched _ (omega arith) c.keep-kept.ensures.count c.keep-kept.ensures.front
      c.read_behind.ensures.front (omega arith) c.self.invariant.2 (omega arith),
)

pub invariant_of-self-in-Err : goal.invariant_of-self-in-Err
invariant_of-self-in-Err g c = (
  omega arith,
  omega arith,
  stays_searched c.self.inside.bytes c.keep-kept.new.bytes c.read_behind.new.bytes c.self.inside.from c.self.inside.have c.keep-kept.result
      c.keep-kept.result c.self.inside.searched _ (omega arith) c.keep-kept.ensures.count c.keep-kept.ensures.front
      c.read_behind.ensures.front (omega arith) c.self.invariant.2 (omega arith),
)
