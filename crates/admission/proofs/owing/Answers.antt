use mathlib.Core.Path.{◌∙◌}
use borrow.Author.Tests.{tests}
use lib.Dec.{ltb}
use Rattle.std.proofs.Common.{rules}
use Rattle.std.proofs.lemmas.Iterator.{YieldsList-from_slice}
use Rattle.std.proofs.lemmas.Iterator.Search.{any_from_yields_List}
use Rattle.admission.proofs.EachPool.{any-owing}
use Rattle.admission.proofs.owing.Goals as goal

pub returns : goal.returns
returns c =
    let due = c.args.outstanding.now in
    any_from_yields_List (ltb 0) _ _ _ c.any.ensures.ran (YieldsList-from_slice due cc) (λ x b q k. search (rules, tests)) ∙ any-owing due
