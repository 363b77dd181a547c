-- `read_pools` begins with all the pools left to read.
use Rattle.std.proofs.Common.{arith}
use Rattle.typed_ranks.specs.Pools.{pools_of}
use Rattle.lines.proofs.Pooling.{reading_starts}
use Rattle.lines.proofs.read_pools.Goals as goal

pub loop-pool-init : goal.loop-pool-init
loop-pool-init c = record { reading = reading_starts (pools_of c.args.words.now); countable = λ h. absurd (omega (arith, h)) }
