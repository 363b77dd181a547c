-- `ranges::range_admission` meets its contract.
use mathlib.Core.Path.{sym, ◌∙◌}
use native.Mathlib.Omega.{arith}
use Rattle.admission.proofs.Passed.{place}
use Rattle.waterfall.proofs.Answer.{is_passed}
use Rattle.ranges.proofs.range_admission.Goals as goal

pub defaulted-requires : goal.defaulted-requires
defaulted-requires c = place c.args.status.now c.args.member _ (omega arith) (is_passed _ (sym c.standing.ensures ∙ c.in_ok-standing.was))
