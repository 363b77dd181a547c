-- `read_pool` meets its contract: where its ranks can be used, the pool can.
use Rattle.std.proofs.Common.{◌≡◌, ◌∙◌, sym, ap, true, Some}
use Rattle.std.specs.Option.{is_some}
use Rattle.typed_ranks.specs.TypedRanks.{unnamed, all_good}
use Rattle.typed_ranks.specs.Pools.{to_slash}
use Rattle.lines.specs.Defaults.{number_in}
use Rattle.lines.proofs.Pooling.{Begins, number_some}
use Rattle.lines.proofs.read_pool.Goals as goal

pub returns-clause-readable : goal.returns-clause-readable
returns-clause-readable c =
    let typed : number_in c.args.words.now ≡ Some c.in_ok-loss.loss = cc in
    let begun : Begins c.args.words.now c.in_ok-loss.loss = number_some c.args.words.now c.in_ok-loss.loss typed in
    let good : is_some c.read_ranks.result ≡ all_good unnamed (to_slash c.number.new.words) = c.read_ranks.ensures.readable in
    let some : is_some c.read_ranks.result ≡ true = ap is_some c.in_ok-more.was in
    sym (begun.readable ∙ ap (λ ws. all_good unnamed (to_slash ws)) (sym c.number.ensures.words_left) ∙ sym good ∙ some)
