use Rattle.std.proofs.Common.{arith, get_or}
use Rattle.sheets.specs.Bytes.{le16}
use Rattle.stress.proofs.Laws.{group_with_zero}
use Rattle.stress.proofs.losses.grouped.Goals as goal

pub returns : goal.returns
unfolding le16
returns c = group_with_zero (get_or c.args.bytes.now 6 0) (get_or c.args.bytes.now 7 0) _ (omega arith)
