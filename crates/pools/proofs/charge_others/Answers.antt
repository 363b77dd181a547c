-- `pools::charge_others` meets its contract.
use mathlib.Core.Path.{◌≡◌, ap, sym, ◌∙◌}
use native.Mathlib.Omega.{arith}
use lib.ListN.{length}
use Rattle.lists.specs.Sums.{total, keep}
use Rattle.lists.proofs.Sums.{length-keep}
use Rattle.ranks.specs.Ranks.{charges_of}
use Rattle.ranks.proofs.Laws.{charges_unread}
use Rattle.figures.specs.Figures.{live_in}
use Rattle.figures.proofs.Figures.{of_live-keep, length-live}
use Rattle.admission.proofs.Ranked.{ranks_fit}
use Rattle.pools.proofs.charge_others.Goals.{After-of_live-read}
use Rattle.pools.proofs.charge_others.Goals as goal

-- the ranks that are read
read : (c : After-of_live-read) → c.of_live-read.result ≡ keep (live_in c.args.status.now) c.args.ranks.now
read c = c.of_live-read.ensures ∙ of_live-keep c.args.status.now c.args.ranks.now

pub charge_by_rank-requires-clause-weighed : goal.charge_by_rank-requires-clause-weighed
charge_by_rank-requires-clause-weighed c =
    let a = c.args in
    let p = c.requires.chargeable in
    record {
      weights_fit = p.contribution_fits;
      ranks_fit = λ k. rw (read (goal.at.charge_by_rank-requires-clause-weighed c).After-of_live-read)
          (ranks_fit (live_in a.status.now) a.ranks.now p.well_ranked k);
    }

pub returns : goal.returns
returns c =
    let a = c.args in
    let e = c.charge_by_rank.ensures in
    let marks = live_in a.status.now in
    let n : length marks ≡ length a.contribution.now = omega (arith, length-live a.status.now) in
    record {
      charges_are =
          e.charges_after
          ∙ ap (charges_of a.sum a.contribution.now) (read (goal.at.returns c).After-of_live-read)
          ∙ charges_unread marks a.contribution.now a.ranks.now (length-keep marks a.contribution.now n) a.sum;
      total_is = e.total_is ∙ ap total (sym e.charges_after);
    }
