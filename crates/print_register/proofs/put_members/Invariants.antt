-- `put_members` meets its contract. The invariant: the rows of the members below the number are put.
use Rattle.std.proofs.Common.{◌≡◌, ◌+◌, ◌-◌, ◌*◌, ◌≤◌, ◌++◌, length}
use Rattle.print_register.specs.Texts.{members_text}
use Rattle.print_register.proofs.put_members.Given as goal

abbrev pub invariant-loop-number : goal.invariant-loop-number
invariant-loop-number g l = record {
  least : 1 ≤ l.number;
  rows : l.out ≡ l.initial.out ++ members_text l.register (l.number - 1);
  len : length l.out ≤ length l.initial.out + (l.number - 1) * 219;
}
