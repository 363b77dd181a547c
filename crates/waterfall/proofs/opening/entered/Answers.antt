-- `waterfall::opening::entered` meets its contract.
use Rattle.std.proofs.Common.{rules}
use Rattle.waterfall.proofs.Entered.{given-entered}
use Rattle.waterfall.proofs.opening.entered.Goals as goal

pub invariant_of-result : goal.invariant_of-result
invariant_of-result c =
    rw c.statuses.ensures
    (given-entered (record {
      present = c.columns.inside.present;
      first = c.columns.inside.first;
      second = c.columns.inside.second;
      third =
          c.columns.inside.third;
    }) c.args.own
    (record {
      present-length = search rules;
      first-length = search rules;
      second-length = search rules;
      third-length = search rules;
      amounts = c.columns.invariant;
    })
    c.requires)
