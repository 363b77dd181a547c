use Rattle.std.proofs.Common.{arith, append_assoc, append-nil}
use Rattle.lists.specs.Texts.{ascii}
use Rattle.page.specs.Page.{heading, line, page_of}
use Rattle.page.proofs.Blank.{blank_put}
use Rattle.page.proofs.lines.Goals as goal

pub returns : goal.returns
unfolding page_of heading line
returns c =
    let margin = blank_put (ascii "MARGIN") c.args.a.margin (omega arith) c.requires.margin c.put_in_line.ensures in
    let contribution = blank_put (ascii "OWN FUND") c.args.a.contribution (omega arith) c.requires.contribution c.put_in_line-2.ensures in
    let tranche1 = blank_put (ascii "TRANCHE 1") c.args.a.tranche1 (omega arith) c.requires.tranche1 c.put_in_line-3.ensures in
    let members = blank_put (ascii "MEMBERS") c.args.a.members (omega arith) c.requires.members c.put_in_line-4.ensures in
    let tranche2 = blank_put (ascii "TRANCHE 2") c.args.a.tranche2 (omega arith) c.requires.tranche2 c.put_in_line-5.ensures in
    let calls = blank_put (ascii "CALLS") c.args.a.calls (omega arith) c.requires.calls c.put_in_line-6.ensures in
    let short = blank_put (ascii "SHORT") c.args.a.short (omega arith) c.requires.short c.put_in_line-7.ensures in
    rw (margin, contribution, tranche1, members, tranche2, calls, short, append-nil) (simp append_assoc)
