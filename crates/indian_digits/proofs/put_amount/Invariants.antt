-- `put_amount` meets its contract. The invariant: what is put are the last digits, and what is left has the others.
use Rattle.indian_digits.proofs.Commas.{Putting}
use Rattle.indian_digits.proofs.put_amount.Given as goal

abbrev pub invariant-loop-left : goal.invariant-loop-left
invariant-loop-left l = Putting l.initial.out l.amount l.out l.begin l.left l.following

abbrev pub decreases-loop-left : goal.decreases-loop-left
decreases-loop-left l = l.left
