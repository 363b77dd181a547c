use Rattle.std.proofs.Common.{append_assoc, append-nil}
use Rattle.page.specs.Page.{page_of}
use Rattle.page.proofs.page_rows.Goals as goal

pub returns : goal.returns
unfolding page_of
returns c =
    rw (c.heading.ensures, c.row.ensures, c.row-2.ensures, c.row-3.ensures, c.row-4.ensures, c.row-5.ensures, c.row-6.ensures, c.row-7.ensures, append-nil) (simp append_assoc)
