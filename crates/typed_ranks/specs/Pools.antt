-- The pools of a default as they are typed: "each word `/` begins a further pool with its own loss and ranks"
use Rattle.std.specs.Prelude.{ℕ, ◌≡◌, refl, Bool, true, false, List, [], ◌∷◌, bytes_eq}
use Rattle.lists.specs.Checks.{check}
use Rattle.lists.specs.Texts.{ascii}
use Rattle.words.specs.Words.{words_of}

-- `/` is a word by itself
abbrev pub is_slash : List ℕ → Bool
is_slash word = bytes_eq word (ascii "/")

-- the words before the first `/`
abbrev pub to_slash : List (List ℕ) → List (List ℕ)
to_slash [] = []
to_slash (w ∷ ws) = check (is_slash w) [] (w ∷ to_slash ws)

-- the further pools: each word `/` begins one, which goes on to the next
abbrev pub further_pools : List (List ℕ) → List (List (List ℕ))
further_pools [] = []
further_pools (w ∷ ws) = check (is_slash w) (to_slash ws ∷ further_pools ws) (further_pools ws)

-- the words of each pool
unfoldable pub pools_of : List (List ℕ) → List (List (List ℕ))
pools_of ws = to_slash ws ∷ further_pools ws

-- the pools of the words that follow, where a further one does
abbrev pub pools_from : Bool → List (List ℕ) → List (List (List ℕ))
pools_from true ws = pools_of ws
pools_from false ws = []

two-pools : pools_of (words_of (ascii "5 2:1 / 7 3:/")) ≡ (ascii "5" ∷ ascii "2:1" ∷ []) ∷ (ascii "7" ∷ ascii "3:/" ∷ []) ∷ []
unfolding pools_of words_of check
two-pools = refl

empty-pools : pools_of (words_of (ascii "5 / /")) ≡ (ascii "5" ∷ []) ∷ [] ∷ [] ∷ []
unfolding pools_of words_of check
empty-pools = refl
