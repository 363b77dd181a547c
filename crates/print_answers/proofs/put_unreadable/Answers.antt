use Rattle.text.proofs.Putting.{put_more}
use Rattle.print_answers.specs.Texts.{unreadable_text}
use Rattle.print_answers.proofs.put_unreadable.Goals as goal

pub returns-clause-bytes : goal.returns-clause-bytes
unfolding unreadable_text
returns-clause-bytes g c = put_more _ _ _ c.put_labelled.ensures.bytes c.put.ensures.bytes
