-- `ranks::Ranked::add_chosen` meets its contract. The loop's invariant: what is added to so far, with what is still to be added to behind it, is
-- the result.
use Prim.Native.Nat.{ℕ, ◌≤◌}
use mathlib.Core.Path.{◌≡◌}
use mathlib.Core.Bool.{Bool}
use mathlib.Core.List.{◌++◌}
use lib.ListN.{length, get_or, take, drop}
use Rattle.lists.specs.Limits.{allocation_limit}
use Rattle.lists.specs.Sums.{plus}
use Rattle.ranks.specs.Parts.{Answers, chosen_by}
use Rattle.ranks.proofs.Ranked.add_chosen.Given as goal

abbrev pub invariant-loop-i : goal.invariant-loop-i
invariant-loop-i g l =
    goal.F-IsAlwaysCallable g l.chosen × (length l.charges ≡ 64) × ((k : ℕ) → l.i ≤ k → get_or l.charges k 0 ≤ allocation_limit)
    × ((test : ℕ → Bool) → Answers (goal.F-post g l.chosen) test
    → take l.i l.charges ++ plus (chosen_by test (drop l.i l.self.weights.now) (drop l.i l.ranks)) (drop l.i l.charges)
    ≡ plus (chosen_by test l.self.weights.now l.ranks) l.initial.charges)
