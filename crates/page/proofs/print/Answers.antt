use Rattle.page.proofs.Rows.{page_asks, page_printed, page_refused}
use Rattle.page.proofs.print.Goals as goal

pub returns-in_err-printable-clause-page_after : goal.returns-in_err-printable-clause-page_after
returns-in_err-printable-clause-page_after c = page_refused _ _ c.printable.ensures c.in_err-printable.was

pub put_page-requires : goal.put_page-requires
put_page-requires c = page_asks _ _ c.printable.ensures c.in_ok-printable.was

pub returns-clause-page_after : goal.returns-clause-page_after
returns-clause-page_after c = page_printed _ _ c.printable.ensures c.in_ok-printable.was c.put_page.ensures
