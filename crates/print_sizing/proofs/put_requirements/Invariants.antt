-- `put_requirements` meets its contract. The invariant: the rows of the members so far are put.
use Rattle.std.proofs.Common.{◌≡◌, ◌+◌, ◌*◌, ◌≤◌, ◌++◌, length}
use Rattle.print_sizing.specs.Texts.{requirements_text}
use Rattle.print_sizing.proofs.put_requirements.Given as goal

abbrev pub invariant-loop-place : goal.invariant-loop-place
invariant-loop-place g l = record {
  rows : l.out ≡ l.initial.out ++ requirements_text l.slip l.place;
  len : length l.out ≤ length l.initial.out + l.place * 63;
}
