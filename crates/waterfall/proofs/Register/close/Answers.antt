use Rattle.waterfall.proofs.Answer.{says_closed}
use Rattle.waterfall.proofs.Register.close.Goals as goal

pub returns-clause-says : goal.returns-clause-says
returns-clause-says c = says_closed _ c.start_afresh-reply.ensures.answer
