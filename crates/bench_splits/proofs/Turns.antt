-- What the old split ends with.
use Prim.Native.Nat.{ℕ, ◌≤◌}
use mathlib.Core.Path.{◌≡◌, ap}
use mathlib.Core.List.{List, ◌++◌}
use lib.ListN.{length, take, drop, drop_of_length-le}
use Rattle.lists.proofs.Fill.{fill_done}
use Rattle.split.specs.Split.{split_of}

-- at the end the list is the split
pub split_done : (l : ℕ) (ws out r : List ℕ) (k : ℕ) → length ws ≤ k → length out ≤ k → take k out ++ split_of l (drop k ws) ≡ r → out ≡ r
unfolding split_of
split_done l ws out r k hw ho h = fill_done out r _ k ho (ap (split_of l) (drop_of_length-le ws hw)) h
