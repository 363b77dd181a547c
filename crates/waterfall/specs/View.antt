-- What a host prints of a register.
use Rattle.std.specs.Prelude.{ℕ}
use Rattle.figures.specs.Figures.{figure, status_at}
use Rattle.waterfall.specs.Register.{Register}
use Rattle.waterfall.specs.declared.view.MemberView.{MemberView}
use Rattle.waterfall.specs.declared.view.TranchesView.{TranchesView}

-- a member's figures, all 0 for a number that is not in the register
abbrev pub figures_of : Register → ℕ → MemberView
figures_of r member =
    record {
      status = status_at r.status member;
      margin = figure r.margin member;
      contribution = figure r.contribution member;
      requirement = figure r.requirement member;
      cap = figure r.cap member;
      outstanding = figure r.outstanding member;
      called = figure r.called member;
    }

abbrev pub tranches_of : Register → TranchesView
tranches_of r = record { tranche1 = r.tranche1; tranche2 = r.tranche2 }
