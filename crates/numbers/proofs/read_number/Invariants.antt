-- `read_number` meets its contract. The invariant: the value so far with the digits that are left behind it is what the whole word makes.
use Prim.Native.Nat.{◌^◌, ◌<◌}
use mathlib.Core.Path.{◌≡◌}
use lib.ListN.{drop}
use Rattle.numbers.specs.Numbers.{read_of}
use Rattle.numbers.proofs.Reading.{read_from}
use Rattle.numbers.proofs.read_number.Given as goal

abbrev pub invariant-loop-byte : goal.invariant-loop-byte
invariant-loop-byte l =
    (l.value < 2 ^ 64) × (read_from l.value (drop l.byte-index l.word) ≡ read_of l.word)
