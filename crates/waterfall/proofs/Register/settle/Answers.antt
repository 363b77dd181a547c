-- `waterfall::Register::settle` meets its contract.
use Prim.Native.Nat.{ℕ, ◌-◌}
use mathlib.Core.Path.{◌≡◌, sym, subst}
use native.Mathlib.Omega.{arith}
use Rattle.waterfall.specs.Register.{Register, GivenBack}
use Rattle.waterfall.specs.Parts.{settled_as}
use Rattle.waterfall.proofs.Register.settle.Goals.{After-add_to-2}
use Rattle.waterfall.proofs.Register.settle.Goals as goal

-- a fallen call "is no longer outstanding"
cleared : {fallen figure : ℕ} → fallen ≡ figure → figure - fallen ≡ 0
cleared f = omega arith

-- the register as it is left
module _ (c : After-add_to-2) where
  abbrev left : Register
  left =
      record {
        status = c.defaulted-self-inside.result;
        margin = c.lower.new.figures;
        contribution = c.take_from.new.figures;
        requirement = c.self.inside.requirement;
        cap = c.self.inside.cap;
        outstanding = c.add_to.new.figures;
        called = c.add_to-2.new.figures;
        tranche1 = c.self.inside.tranche1 - c.args.placed.now.allocation.tranche1;
        tranche2 = c.self.inside.tranche2 - c.args.placed.now.allocation.tranche2;
      }

  same : left ≡ settled_as c.args.self.now c.args.member c.args.placed.now
  same =
      let fallen_is = rw (← c.self.view_is) at c.requires.fallen_is in
      rw (
        ← c.self.view_is,
        c.add_to-2.ensures,
        c.add_to.ensures,
        c.take_from.ensures,
        c.lower.ensures,
        c.lower-2.ensures,
        c.lower-3.ensures,
        c.defaulted-self-inside.ensures,
        cleared fallen_is,
      )

pub invariant_of-self : goal.invariant_of-self
invariant_of-self c = subst GivenBack (sym (same c)) c.requires.given_back

pub returns : goal.returns
returns c = same c
