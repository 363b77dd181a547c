-- `put_charges` meets its contract. The invariant: the rows of the members so far are put.
use Rattle.std.proofs.Common.{◌≡◌, ◌+◌, ◌*◌, ◌≤◌, ◌++◌, length, take, drop}
use Rattle.print_answers.specs.Texts.{charges_text}
use Rattle.print_answers.proofs.put_charges.Given as goal

abbrev pub invariant-loop-place : goal.invariant-loop-place
invariant-loop-place g l = record {
  rows : l.out ≡ l.initial.out ++ charges_text l.slip l.place-iterator.count;
  len : length l.out ≤ length l.initial.out + l.place-iterator.count * 87;
  charges : l.place-iterator.iter.a.rest.now ≡ drop l.place-iterator.count (take 64 l.slip);
  calls : l.place-iterator.iter.b.rest.now ≡ drop l.place-iterator.count (drop 64 l.slip);
  within : l.place-iterator.count ≤ 64;
}
