use Rattle.std.proofs.Common.{arith}
use Rattle.indian_digits.proofs.Theorems.{amount_fits}
use Rattle.page.specs.Page.{row_of}
use Rattle.page.proofs.Rows.{column-length, row_put}
use Rattle.page.proofs.row.Goals as goal

pub slice_bounds-put_amount-end : goal.slice_bounds-put_amount-end
slice_bounds-put_amount-end c =
    rw c.copy_from_slice.ensures.after (column-length _ _ c.requires.0 (amount_fits _ c.requires.1))

pub put_amount-requires : goal.put_amount-requires
put_amount-requires c =
    let k = amount_fits c.args.amount c.requires.1 in
    rw c.copy_from_slice.ensures.after (omega (arith, k, column-length _ _ c.requires.0 k))

pub returns : goal.returns
unfolding row_of
returns c =
    let k = amount_fits c.args.amount c.requires.1 in
    rw c.copy_from_slice.ensures.after (row_put _ _ c.requires.0 k _ (rw c.copy_from_slice.ensures.after at c.put_amount.ensures.put))
