-- What the parts of `page` promise each other. No rule of document 01 is here.
use Rattle.std.specs.Prelude.{◌≤◌}
use Rattle.lists.specs.Limits.{printed_limit}
use Rattle.layers.specs.declared.Allocation.{Allocation}

-- the amounts of an answer that a page prints
pub record Within (a : Allocation) : Type 0 where
  pub margin : a.margin ≤ printed_limit
  pub contribution : a.contribution ≤ printed_limit
  pub tranche1 : a.tranche1 ≤ printed_limit
  pub members : a.members ≤ printed_limit
  pub tranche2 : a.tranche2 ≤ printed_limit
  pub calls : a.calls ≤ printed_limit
  pub short : a.short ≤ printed_limit
