-- What the parts of `waterfall` promise each other. No rule of document 01 is here.
use Rattle.std.specs.Prelude.{ℕ, ◌+◌, ◌-◌, ◌≤◌, ◌<◌, ◌≡◌, get_or}
use Rattle.lists.specs.Limits.{member_limit, amount_limit}
use Rattle.lists.specs.Sums.{total}
use Rattle.figures.specs.Figures.{figure, replace}
use Rattle.layers.specs.declared.Placed.{Placed}
use Rattle.waterfall.specs.Register.{Register, GivenBack}
use Rattle.waterfall.specs.Default.{settled_by}

-- the register once a default is settled as it was placed
abbrev pub settled_as : Register → ℕ → Placed → Register
settled_as r member x = let a = x.allocation in settled_by r member a.margin a.contribution a.tranche1 a.tranche2 x.charges x.called

-- each pocket has what is taken from it, and the register is then one that may be given back
pub record Settles (r : Register) (member : ℕ) (x : Placed) : Type 0 where
  pub member_least : 0 < member
  pub member_most : member ≤ member_limit
  pub fallen_is : x.allocation.fallen ≡ figure r.outstanding member
  pub margin_within : x.allocation.margin ≤ figure r.margin member
  pub contribution_within : x.allocation.contribution ≤ figure r.contribution member
  pub tranche1_within : x.allocation.tranche1 ≤ r.tranche1
  pub tranche2_within : x.allocation.tranche2 ≤ r.tranche2
  pub charges_within : (k : ℕ) → get_or x.charges k 0 ≤ get_or (replace r.contribution member (figure r.contribution member - x.allocation.contribution)) k 0
  pub called_within : (k : ℕ) → get_or r.called k 0 + get_or x.called k 0 ≤ amount_limit
  pub calls_are : x.allocation.calls ≡ total x.called
  pub given_back : GivenBack (settled_as r member x)
