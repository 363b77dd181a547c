-- `waterfall::opening::open` meets its contract.
use mathlib.Core.Path.{◌≡◌}
use Rattle.std.specs.Prelude.{Option, Some, None, Ok, Err, is_some}
use Rattle.lists.specs.Checks.{check}
use Rattle.refusal.specs.Refusal.{answered}
use Rattle.refusal.specs.declared.Refusal.{Refusal}
use Rattle.waterfall.specs.Register.{Register, empty_register}
use Rattle.waterfall.specs.declared.Opened.{Opened}
use Rattle.waterfall.proofs.opening.open.Goals as goal

-- an opening by what the sheet and our own contribution answer
module _ (refusal : Option Refusal) (opened : Register) where
  abbrev Opening : Opened → Type 0
  Opening o = o ≡ record { refusal = refusal; register = check (is_some refusal) empty_register opened }

accepts : (refusal : Option Refusal) (opened register : Register) → Ok register ≡ answered refusal opened
    → Opening refusal opened (record { refusal = None; register = register })
unfolding check
accepts (Some f) opened register e = absurd (cc)
accepts None opened register e = cc

refuses : (refusal : Option Refusal) (opened : Register) (found : Refusal) → Err found ≡ answered refusal opened
    → Opening refusal opened (record { refusal = Some found; register = empty_register })
unfolding check
refuses (Some f) opened found e = cc
refuses None opened found e = absurd (cc)

pub returns-in-Ok : goal.returns-in-Ok
returns-in-Ok c = accepts _ _ _ c.in-Ok.ensures

pub returns-in-Err : goal.returns-in-Err
returns-in-Err c = rw (c.entered.ensures, c.no_columns.ensures) (refuses _ _ _ c.in-Err.ensures)
