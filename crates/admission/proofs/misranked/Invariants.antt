-- `admission::misranked` meets its contract. The loop's invariant: what was found so far, or the test at a place not yet passed, is the answer.
use mathlib.Core.Path.{◌≡◌}
use mathlib.Core.Bool.{◌||◌}
use lib.ListN.{drop, length}
use Rattle.figures.specs.Figures.{live_in}
use Rattle.admission.specs.Admission.{misranked}
use Rattle.admission.proofs.misranked.Given as goal

abbrev pub invariant-loop-status : goal.invariant-loop-status
invariant-loop-status l = (l.found || misranked (drop (length l.yielded) (live_in l.status)) (drop (length l.yielded) l.ranks)) ≡ misranked (live_in l.status) l.ranks
