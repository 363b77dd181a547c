-- Ranks as they are typed: "each `M:R` gives a rank. A member that is not named, or is named as `M:` with a blank rank, has the missing rank 255"
use Rattle.std.specs.Prelude.{ℕ, ◌+◌, ◌-◌, ◌≡◌, refl, Bool, true, false, not, ◌||◌, ◌&&◌, List}
use Rattle.std.specs.Prelude.{[], ◌∷◌, ◌==◌, ltb, Option, Some, None, get_or, take, drop, set, replicate}
use Rattle.std.specs.List.{position}
use Rattle.lists.specs.Limits.{member_limit}
use Rattle.lists.specs.Checks.{check}
use Rattle.lists.specs.Texts.{ascii}
use Rattle.numbers.specs.Numbers.{read_of}
use Rattle.cells.specs.Cells.{byte_of, trimmed, field_of}
use Rattle.typed_ranks.specs.declared.Rank.{Rank}

-- unreadable: "something that is no number, a rank that does not fit a byte, a rank for a member outside 1 to 64"
abbrev pub ranked_of : Option ℕ → Option ℕ → Option Rank
ranked_of (Some m) (Some r) = check (m == 0 || ltb member_limit m) None (Some (record { member = m; rank = r }))
ranked_of _ _ = None

-- the member before a ':', and the rank behind it; a word with no ':' is bad
abbrev pub parted : Option ℕ → List ℕ → Option Rank
parted (Some colon) word = ranked_of (read_of (take colon word)) (byte_of (drop (colon + 1) word))
parted None word = None

unfoldable pub rank_of : List ℕ → Option Rank
rank_of word = parted (position (λ b. b == 58) word) word

-- a member that is not named has the missing rank
abbrev pub missing_ranks : List ℕ
missing_ranks = replicate member_limit 255

-- no member is named yet
abbrev pub unnamed : List Bool
unnamed = replicate member_limit false

-- a rank can be used where it is one and its member is not named yet: "two ranks for one member" are unreadable
abbrev pub is_good : List Bool → Option Rank → Bool
is_good named (Some r) = not (get_or named (r.member - 1) false)
is_good named None = false

-- its member is named from then on
abbrev pub marked : List Bool → Option Rank → List Bool
marked named (Some r) = set named (r.member - 1) true
marked named None = named

-- and has the rank
abbrev pub given : List ℕ → Option Rank → List ℕ
given ranks (Some r) = set ranks (r.member - 1) r.rank
given ranks None = ranks

-- whether each word gives a rank that can be used
abbrev pub all_good : List Bool → List (List ℕ) → Bool
all_good named [] = true
all_good named (w ∷ ws) = is_good named (rank_of w) && all_good (marked named (rank_of w)) ws

-- the ranks with those that the words give
abbrev pub ranks_in : List ℕ → List (List ℕ) → List ℕ
ranks_in ranks [] = ranks
ranks_in ranks (w ∷ ws) = ranks_in (given ranks (rank_of w)) ws

typed : rank_of (ascii "3:2") ≡ Some (record { member = 3; rank = 2 })
unfolding rank_of field_of trimmed read_of check
typed = refl

blank : rank_of (ascii "3:") ≡ Some (record { member = 3; rank = 255 })
unfolding rank_of field_of trimmed read_of check
blank = refl

no_colon : rank_of (ascii "3") ≡ None
unfolding rank_of field_of trimmed read_of check
no_colon = refl
