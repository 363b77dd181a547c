use Prim.Native.Nat.{◌/◌}
use mathlib.Core.Path.{◌∙◌}
use borrow.Author.Tests.{tests}
use lib.ListN.{length}
use Rattle.std.proofs.Common.{rules}
use Rattle.std.specs.Simd.{first_chunks}
use Rattle.std.proofs.lemmas.Iterator.{YieldsList-from_slice}
use Rattle.std.proofs.lemmas.Iterator.Search.{any_from_yields_List}
use Rattle.lists.specs.Limits.{member_limit}
use Rattle.figures.specs.Figures.{live_in}
use Rattle.admission.specs.Admission.{misranked}
use Rattle.admission.proofs.EachPool.{any-pools}
use Rattle.admission.proofs.pools_misranked.Goals as goal

pub returns : goal.returns
returns c =
    let ranks = c.args.ranks.now in
    let read = live_in c.args.status.now in
    let n = length ranks / member_limit in
    any_from_yields_List (misranked read) _ _ _ c.any.ensures.ran (YieldsList-from_slice (first_chunks member_limit n ranks) cc) (λ x b q k. search (rules, tests)) ∙ any-pools read ranks n
