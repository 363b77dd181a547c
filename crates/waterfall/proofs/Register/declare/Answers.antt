use Rattle.waterfall.proofs.Placing.{says_pooled}
use Rattle.waterfall.proofs.Register.declare.Goals as goal

pub returns-clause-says : goal.returns-clause-says
returns-clause-says c = says_pooled _ _ _ _ _ c.place-reply.ensures.answer
