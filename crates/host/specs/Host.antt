-- A default's answer as C hands it over: six layers and the shortfall. The fallen call is not on a page.
use Rattle.layers.specs.declared.Allocation.{Allocation}
use Rattle.host.specs.declared.DefaultAnswer.{DefaultAnswer}

abbrev pub answer_of : DefaultAnswer → Allocation
answer_of a =
    record {
      fallen = 0;
      margin = a.margin;
      contribution = a.contribution;
      tranche1 = a.tranche1;
      members = a.members;
      tranche2 = a.tranche2;
      calls = a.calls;
      short = a.short;
    }
