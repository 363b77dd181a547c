use Rattle.std.proofs.Common.{arith}
use Rattle.std.proofs.lemmas.Result.{err_from_is_err_and}
use Rattle.sheets.proofs.Reading.{begins, refused, within, goes_on, ends}
use Rattle.sheets.proofs.columns.read.Goals as goal

pub loop-i-init : goal.loop-i-init
loop-i-init c = rw c.no_columns-columns.ensures (begins _ _)

pub returns-in_err-found : goal.returns-in_err-found
returns-in_err-found c =
    let p = err_from_is_err_and c.from_residual.result c.from_residual.ensures.1 in
    rw (p.1, p.2) (refused _ _ _ _ _ c.loop-i.invariant (omega (arith, c.as_chunks.ensures.front_len)) _ _ _ c.as_chunks.ensures.front c.read_record.ensures c.located.ensures _ c.in_err-found.was)

pub enter-requires : goal.enter-requires
enter-requires c = within _ _ _ _ _ c.loop-i.invariant (omega (arith, c.as_chunks.ensures.front_len)) _ _ _ c.as_chunks.ensures.front c.read_record.ensures c.located.ensures _ c.in_ok-found.was

pub loop-i-preserved : goal.loop-i-preserved
loop-i-preserved c = rw c.enter.ensures (goes_on _ _ _ _ _ c.loop-i.invariant (omega (arith, c.as_chunks.ensures.front_len)) _ _ _ c.as_chunks.ensures.front c.read_record.ensures c.located.ensures _ c.in_ok-found.was)

pub returns : goal.returns
returns c = ends _ _ _ _ _ c.loop-i.invariant (omega (arith, c.as_chunks.ensures.front_len))
