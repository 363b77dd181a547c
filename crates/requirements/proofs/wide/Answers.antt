-- `requirements::wide` meets its contract.
use native.Mathlib.Omega.{arith}
use Rattle.lists.proofs.Sums.{total_bound}
use Rattle.requirements.proofs.wide.Goals as goal

pub returns : goal.returns
returns c =
    let same = c.widened.ensures in
    record { same = same; small = rw same (omega (arith, total_bound 0xffffffff c.args.column.now (λ k. omega (arith, c.fits-column k)))) }
