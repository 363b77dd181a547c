use Rattle.waterfall.proofs.Answer.{says_paid}
use Rattle.waterfall.proofs.Register.pay.Goals as goal

pub returns-clause-says : goal.returns-clause-says
returns-clause-says c = says_paid _ _ _ c.lower_outstanding-reply.ensures.answer
