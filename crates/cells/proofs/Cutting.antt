-- Laws of a line cut at its commas.
use Rattle.std.proofs.Common.{ℕ, length-drop, ◌-◌, ◌+◌, ◌<◌, ◌≡◌, refl, ap, ◌∙◌, Bool, false}
use Rattle.std.proofs.Common.{List, [], ◌∷◌, length, take, drop, Some, None, nat_lt, arith}
use Rattle.std.specs.List.{position, position_or_len, slice_split}
use Rattle.std.proofs.lemmas.List.Elements.{All-from_get_or}
use Rattle.std.proofs.lemmas.List.Splits.{slice_split_first, slice_split_none}
use Rattle.std.proofs.lemmas.List.Sums.{fails_before_first, suffix_len-le-length}
use Rattle.std.proofs.lemmas.Option.{cond_some}
use borrow.Author.Tests.{ltb-true}
use lib.Seq.{take_all}
use Rattle.lists.specs.Checks.{check}
use Rattle.words.proofs.Theorems.{runs_out}
use Rattle.cells.specs.Cells.{without_return}

-- an attribute cannot name it by itself, for its dashes
pub ruleset suffix_within = (suffix_len-le-length)

-- by the first comma, where there is one
module _ (p : ℕ → Bool) (s : List ℕ) where
  pub first_part : (n : ℕ) → position p s ≡ Some n → slice_split p s ≡ take n s ∷ slice_split p (take (length s - (n + 1)) (drop (n + 1) s))
  first_part n e =
      let found = cond_some (nat_lt (position_or_len p s) (length s)) (position_or_len p s) n e in
      let behind : take (length s - (n + 1)) (drop (n + 1) s) ≡ drop (n + 1) s = take_all _ (drop (n + 1) s) (simp length-drop (omega arith)) in
      rw behind (slice_split_first p s 0 (ltb-true _ _ found.0) ∙ ap (λ m. take m s ∷ slice_split p (drop (m + 1) s)) found.1)

  pub last_part : position p s ≡ None → slice_split p s ≡ s ∷ []
  last_part e =
      slice_split_none p s (All-from_get_or (λ b. p b ≡ false) s 0 (λ k h. fails_before_first p s k 0 (omega (arith, runs_out p s e))))

-- an empty line has no CR
pub no_return : (line : List ℕ) → length line < 1 → line ≡ without_return line
unfolding without_return check
no_return [] h = refl
no_return (b ∷ s) h = absurd (omega arith)
