use Rattle.cover.proofs.Pass.{Pass}
use Rattle.cover.proofs.read.Given as goal

abbrev pub invariant-loop-i : goal.invariant-loop-i
invariant-loop-i l = Pass l.sheet l.i l.before l.sums l.block l.worst
