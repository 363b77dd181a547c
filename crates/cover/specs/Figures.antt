-- C and W as numbers: the fields of the struct again, since what a model is seen as is a type of the logic, and clauses name these fields.
use Rattle.std.specs.Prelude.{ℕ, ◌*◌, ◌≤◌}
use Rattle.lists.specs.Limits.{member_limit, amount_limit, weak_limit}

pub record CoveredFigures : Type 0 where
  pub cover : ℕ
  pub weak : ℕ

-- no more than the losses of a block's 64 members, and five flagged ones
pub record Bounded (cover weak : ℕ) : Type 0 where
  pub cover_most : cover ≤ member_limit * amount_limit
  pub weak_most : weak ≤ weak_limit * amount_limit
