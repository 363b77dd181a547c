-- Document 01, "Declaring a default", layer 4: a sum charged to weights by rank, from the highest rank down.
use Rattle.std.specs.Prelude.{ℕ, zero, suc, ◌-◌, min, ◌≡◌, refl, List, [], ◌∷◌, map, eqb, length, replicate}
use Rattle.lists.specs.Limits.{rank_limit}
use Rattle.lists.specs.Sums.{total, plus, keep}
use Rattle.split.specs.Split.{share_of, split_of}

-- the weights of rank q, and 0 for the others
abbrev pub at_rank : ℕ → List ℕ → List ℕ → List ℕ
at_rank q weights ranks = keep (map (eqb q) ranks) weights

-- what rank q gives: all it has, or all that is left
abbrev pub rank_gives : ℕ → ℕ → List ℕ → List ℕ → ℕ
rank_gives q left weights ranks = min left (total (at_rank q weights ranks))

-- "the next rank charged is the highest not yet charged, and equal ranks share by the split": from rank q down
unfoldable pub charges_from : ℕ → ℕ → List ℕ → List ℕ → List ℕ
charges_from zero left weights ranks = replicate (length weights) 0
charges_from (suc q) left weights ranks =
    plus
    (split_of (rank_gives (suc q) left weights ranks) (at_rank (suc q) weights ranks))
    (charges_from q (left - rank_gives (suc q) left weights ranks) weights ranks)

unfoldable pub charges_of : ℕ → List ℕ → List ℕ → List ℕ
charges_of sum weights ranks = charges_from rank_limit sum weights ranks

-- 8 over weights 3, 3, 4, 9 of ranks 2, 2, 1, 0: rank 2 is charged whole, and 2 are left for rank 1; rank 0 is none
two-ranks : charges_from 3 8 (3 ∷ 3 ∷ 4 ∷ 9 ∷ []) (2 ∷ 2 ∷ 1 ∷ 0 ∷ []) ≡ 3 ∷ 3 ∷ 2 ∷ 0 ∷ []
unfolding charges_from split_of share_of
two-ranks = refl
