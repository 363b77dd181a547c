use borrow.Author.Tests.{ne_eqb}
use Rattle.lists.specs.Checks.{check}
use Rattle.text.proofs.Putting.{put_more}
use Rattle.print_sizing.specs.Texts.{requirement_text}
use Rattle.print_sizing.proofs.put_requirement.Goals as goal

pub returns-clause-bytes : goal.returns-clause-bytes
unfolding requirement_text check
returns-clause-bytes g c =
    rw (ne_eqb _ 0 c.if-requirement-eq0.false) (put_more _ _ _ (put_more _ _ _ c.put_labelled.ensures.bytes c.put_labelled-2.ensures.bytes) c.put.ensures.bytes)
