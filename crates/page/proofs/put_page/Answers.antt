use Rattle.std.proofs.Common.{arith, ap, ◌∙◌, length, length-take}
use Rattle.page.proofs.Rows.{page-length}
use Rattle.page.proofs.put_page.Goals as goal

pub copy_from_slice-requires : goal.copy_from_slice-requires
copy_from_slice-requires c =
    omega (arith, length-take 328 c.args.page.now, ap length (c.as_flattened.ensures.value ∙ c.page_rows.ensures), page-length c.args.a c.requires.1)
