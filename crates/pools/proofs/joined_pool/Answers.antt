use Prim.Native.Nat.{ℕ}
use mathlib.Core.Path.{◌≡◌, ap, ◌∙◌}
use borrow.Author.Tests.{tests}
use lib.Dec.{ltb}
use Rattle.std.proofs.Common.{rules, Option}
use Rattle.std.specs.Prelude.{unwrap_or}
use Rattle.std.specs.List.{position}
use Rattle.std.proofs.lemmas.Iterator.{YieldsList-from_slice}
use Rattle.std.proofs.lemmas.Iterator.Search.{position_from_yields_List}
use Rattle.pools.specs.Pools.{joined_pool}
use Rattle.pools.proofs.joined_pool.Goals as goal

pub returns : goal.returns
unfolding joined_pool
returns c =
    let lefts = c.args.lefts.now in
    let found : c.position.result ≡ position (ltb 0) lefts =
    position_from_yields_List (ltb 0) _ _ _ c.position.ensures.ran (YieldsList-from_slice lefts cc) (λ x b q k. search (rules, tests)) in
    c.unwrap_or.ensures ∙ ap (λ (o : Option ℕ). unwrap_or o 0) found
