use Rattle.waterfall.proofs.Answer.{says_replenished}
use Rattle.waterfall.proofs.Register.replenish.Goals as goal

pub returns-clause-says : goal.returns-clause-says
returns-clause-says c = says_replenished _ _ _ c.raise_contribution-reply.ensures.answer
