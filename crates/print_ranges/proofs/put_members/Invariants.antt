-- `put_members` meets its contract. The invariant: the rows of the members so far are put.
use Rattle.std.proofs.Common.{◌≡◌, ◌+◌, ◌*◌, ◌≤◌, ◌++◌, length}
use Rattle.print_ranges.specs.Texts.{members_text}
use Rattle.print_ranges.proofs.put_members.Given as goal

abbrev pub invariant-loop-place : goal.invariant-loop-place
invariant-loop-place g l = record {
  rows : l.out ≡ l.initial.out ++ members_text l.slip l.place;
  len : length l.out ≤ length l.initial.out + l.place * 135;
}
