use Rattle.std.proofs.Common.{rules, arith, refl}
use Rattle.indian_digits.proofs.Commas.{starts, few, turn_asks, turn, end_asks, begins, done}
use Rattle.indian_digits.proofs.put_amount.Goals as goal

pub loop-left-init : goal.loop-left-init
loop-left-init c = starts _ _ _ c.ranges.amount.fits refl

pub put_digit-begin-requires : goal.put_digit-begin-requires
put_digit-begin-requires c =
    turn_asks _ _ _ _ _ _ c.loop-left.invariant c.requires _ c.loop-left-test.true (omega arith)

pub overflow_add-following : goal.overflow_add-following
overflow_add-following c =
    let k = few _ _ _ _ _ _ c.loop-left.invariant c.requires in
    search rules

pub loop-left-preserved : goal.loop-left-preserved
loop-left-preserved c =
    turn _ _ _ _ _ _ c.loop-left.invariant c.requires _ c.loop-left-test.true (omega arith) _ _ c.put_digit-begin.ensures

pub put_digit-requires : goal.put_digit-requires
put_digit-requires c =
    end_asks _ _ _ _ _ _ c.loop-left.invariant c.requires _ c.loop-left-test.false (omega arith)

pub returns-clause-begins : goal.returns-clause-begins
returns-clause-begins c =
    begins _ _ _ _ _ _ c.loop-left.invariant c.requires _ c.loop-left-test.false (omega arith) _ _ c.put_digit.ensures

pub returns-clause-put : goal.returns-clause-put
returns-clause-put c =
    done _ _ _ _ _ _ c.loop-left.invariant c.requires _ c.loop-left-test.false (omega arith) _ _ c.put_digit.ensures
