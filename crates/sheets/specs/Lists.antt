-- The columns of a register or a shares sheet as lists. A record of its own, though it has the fields of the struct: what a model is seen as
-- is a type of the logic, and clauses name these fields.
use Rattle.std.specs.Prelude.{ℕ, Bool, List}

pub record ColumnLists : Type 0 where
  pub present : List Bool
  pub first : List ℕ
  pub second : List ℕ
  pub third : List ℕ
