-- `requirements::part` meets its contract.
use Rattle.split.proofs.Laws.{split-le}
use Rattle.requirements.proofs.part.Goals as goal

pub returns-clause-within : goal.returns-clause-within
returns-clause-within c k = rw c.split.ensures (split-le c.args.sum c.wide.result k)
