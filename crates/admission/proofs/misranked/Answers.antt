use mathlib.Core.Path.{◌≡◌}
use mathlib.Core.Bool.{◌||◌, ◌&&◌}
use native.Mathlib.Omega.{arith}
use borrow.Author.Rules.{rules}
use lib.Dec.{ltb}
use lib.ListN.{length, length-append, get_or}
use Rattle.std.proofs.lemmas.Slice.Zip.{zip_turn, zip_end}
use Rattle.lists.specs.Limits.{rank_limit}
use Rattle.lists.proofs.Checks.{any_turn, any_done}
use Rattle.figures.specs.declared.Status.{Status}
use Rattle.figures.specs.Figures.{is_live}
use Rattle.admission.proofs.Ranked.{misranked_step, misranked-end}
use Rattle.admission.proofs.misranked.Goals as goal

pub loop-status-preserved : goal.loop-status-preserved
loop-status-preserved c =
    let a = c.args in
    let l = c.loop-status in
    let z = zip_turn a.status.now a.ranks.now l.yielded c.into_iter-status-iterator.result _ c.next.new.self c.next.result (search rules) (search rules) l.yielded_by _ c.in-Some.is c.next.ensures.steps in
    let at : c.unranked-found.result ≡ (is_live (get_or a.status.now (length l.yielded) Status.Absent) && (ltb (get_or a.ranks.now (length l.yielded) 0) 1 || ltb rank_limit (get_or a.ranks.now (length l.yielded) 0))) = cc (z.2 Status.Absent, z.3 0) in
    simp length-append
    (any_turn l.found _ _ _ _ _ at (misranked_step a.status.now a.ranks.now (length l.yielded) z.0 z.1) l.invariant)

pub returns : goal.returns
returns c =
    let a = c.args in
    let l = c.loop-status in
    let z = zip_end a.status.now a.ranks.now l.yielded c.into_iter-status-iterator.result _ c.next.new.self c.next.result (search rules) (search rules) l.yielded_by c.in-None.is c.next.ensures.steps in
    any_done _ _ _ (misranked-end a.status.now a.ranks.now (length l.yielded) (omega arith)) l.invariant
