-- Without a turn the checksum is 0.
use Rattle.std.proofs.Common.{◌≡◌}
use Rattle.bench_defaults.proofs.range.measured.Given as goal

abbrev pub invariant-loop-turn : goal.invariant-loop-turn
invariant-loop-turn l = l.turn ≡ 0 → l.sum ≡ 0
