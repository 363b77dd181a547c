-- The register's fields as the code holds them, seen as the register that the rules speak of.
use Rattle.waterfall.specs.Register.{Register, GivenBack}
use Rattle.waterfall.specs.declared.Register.TheInside.{Inside}

abbrev pub seen : Inside → Register
seen r =
    record {
      status = r.status;
      margin = r.margin;
      contribution = r.contribution;
      requirement = r.requirement;
      cap = r.cap;
      outstanding = r.outstanding;
      called = r.called;
      tranche1 = r.tranche1;
      tranche2 = r.tranche2;
    }

abbrev pub held : Register → Inside
held r =
    record {
      status = r.status;
      margin = r.margin;
      contribution = r.contribution;
      requirement = r.requirement;
      cap = r.cap;
      outstanding = r.outstanding;
      called = r.called;
      tranche1 = r.tranche1;
      tranche2 = r.tranche2;
    }

-- "hosts can make no other, and calls may rest on that"
abbrev pub Given : Inside → Type 0
Given r = GivenBack (seen r)
