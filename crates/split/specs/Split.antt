-- Document 01, "The split": a sum shared over weights, in rising order.
use Rattle.std.specs.Prelude.{ℕ, ◌+◌, ◌-◌, ◌*◌, ◌/◌, List, [], ◌∷◌}
use Rattle.lists.specs.Sums.{total}

-- "w times the sum still left, divided by the weights still left (its own included), rounded down". A weight of 0 takes 0, also where no
-- weight is left: a quotient by 0 is 0.
unfoldable pub share_of : ℕ → ℕ → ℕ → ℕ
share_of left weight weights = weight * left / weights

-- "both then fall"
unfoldable pub split_of : ℕ → List ℕ → List ℕ
split_of left [] = []
split_of left (w ∷ ws) =
    share_of left w (w + total ws) ∷ split_of (left - share_of left w (w + total ws)) ws
