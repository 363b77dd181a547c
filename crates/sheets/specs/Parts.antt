-- What the parts of `sheets` promise each other. No rule of document 01 is here.
use Rattle.std.specs.Prelude.{ℕ, ◌≤◌, List}
use Rattle.lists.specs.Limits.{member_limit, amount_limit}
use Rattle.lists.specs.Sums.{AtMost}
use Rattle.sheets.specs.declared.Record.{Record}

-- a member and amounts that are in order
pub record WithinLimits (r : Record) : Type 0 where
  pub member_least : 1 ≤ r.member
  pub member_most : r.member ≤ member_limit
  pub first_most : r.first ≤ amount_limit
  pub second_most : r.second ≤ amount_limit
  pub third_most : r.third ≤ amount_limit

-- every amount of the columns is in order
pub record AmountsFit (first second third : List ℕ) : Type 0 where
  pub first_fits : AtMost first amount_limit
  pub second_fits : AtMost second amount_limit
  pub third_fits : AtMost third amount_limit
