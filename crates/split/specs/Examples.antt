-- Document 01, "Drill examples": the four splits marked *. And document 02, request 4: two more whose shares are plain.
use Rattle.std.specs.Prelude.{◌≡◌, refl, [], ◌∷◌}
use Rattle.split.specs.Split.{share_of, split_of}

pub split_of_5 : split_of 5 (3 ∷ 3 ∷ 4 ∷ []) ≡ 1 ∷ 1 ∷ 3 ∷ []
unfolding share_of split_of
split_of_5 = refl

pub split_of_6 : split_of 6 (3 ∷ 3 ∷ 4 ∷ []) ≡ 1 ∷ 2 ∷ 3 ∷ []
unfolding share_of split_of
split_of_6 = refl

pub split_of_10 : split_of 10 (3 ∷ 3 ∷ 4 ∷ []) ≡ 3 ∷ 3 ∷ 4 ∷ []
unfolding share_of split_of
split_of_10 = refl

pub split_over-none : split_of 5 (0 ∷ 5 ∷ []) ≡ 0 ∷ 5 ∷ []
unfolding share_of split_of
split_over-none = refl

pub split_over-one : split_of 5 (0 ∷ 9 ∷ 0 ∷ []) ≡ 0 ∷ 5 ∷ 0 ∷ []
unfolding share_of split_of
split_over-one = refl

pub split_of-none : split_of 0 (3 ∷ 0 ∷ 4 ∷ []) ≡ 0 ∷ 0 ∷ 0 ∷ []
unfolding share_of split_of
split_of-none = refl
