-- What stands before a record of a stress sheet, as numbers.
use Rattle.std.specs.Prelude.{ℕ, ◌≤◌}
use Rattle.lists.specs.Limits.{day_limit, scenario_limit, weak_limit}

-- the record before, and the weak flags of its block so far: the fields of the struct again, since what a model is seen as is a type of the
-- logic, and clauses name these fields
pub record BeforeFigures : Type 0 where
  pub day : ℕ
  pub scenario : ℕ
  pub member : ℕ
  pub flags : ℕ

-- the values of a block in order
pub record BlockWithin (day scenario flags : ℕ) : Type 0 where
  pub day_least : 1 ≤ day
  pub day_most : day ≤ day_limit
  pub scenario_least : 1 ≤ scenario
  pub scenario_most : scenario ≤ scenario_limit
  pub flags_most : flags ≤ weak_limit
