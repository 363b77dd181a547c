use Rattle.sheets.proofs.Reading.{Reading}
use Rattle.sheets.proofs.columns.read.Given as goal

abbrev pub invariant-loop-i : goal.invariant-loop-i
invariant-loop-i l = Reading l.floor l.sheet l.i l.last l.columns
