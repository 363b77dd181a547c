-- What the parts of `rooms` promise each other and their callers. No rule of document 01 is here.
use Rattle.std.specs.Prelude.{ℕ, ◌-◌, ◌≤◌, ◌≡◌, List, get_or}
use Rattle.lists.specs.Limits.{amount_limit}
use Rattle.lists.specs.Sums.{total, AtMost}
use Rattle.split.specs.Split.{split_of}
use Rattle.rooms.specs.Rooms.{gives}

-- what rooms are found with
pub record Roomy (most taken : List ℕ) : Type 0 where
  pub most_fits : AtMost most amount_limit
  pub taken_fits : (k : ℕ) → get_or taken k 0 ≤ get_or most k 0

-- a layer gives `given` of `left`, and leaves `rest`
abbrev pub Leaves : ℕ → ℕ → ℕ → ℕ → Type 0
Leaves left has given rest = (given ≡ gives left has) × (rest ≡ left - gives left has)

-- the shares over the rooms, their total, and what is left after them
pub record Shares (rooms : List ℕ) (left : ℕ) (shares : List ℕ) (given rest : ℕ) : Type 0 where
  pub total_is : given ≡ gives left (total rooms)
  pub rest_is : rest ≡ left - gives left (total rooms)
  pub shares_are : shares ≡ split_of (gives left (total rooms)) rooms
