-- Small stress sheets, and what they cover.
use Rattle.std.specs.Prelude.{ℕ, ◌≡◌, refl, List, [], ◌∷◌, map}
use Rattle.lists.specs.Checks.{check}
use Rattle.lists.specs.Highest.{highest, without}
use Rattle.cover.specs.Cover.{StressLoss, losses_of, groups, block_sums, cover_sum, flagged_sum, blocks_from, blocks_of, earliest_with}

-- member m of a day and scenario 1 loses x; w is its weak flag, g its group
abbrev pub grouped : ℕ → ℕ → ℕ → ℕ → ℕ → StressLoss
grouped d m w g x = record { day = d; scenario = 1; member = m; weak = w; group = g; loss = x }

-- the same of a member alone
abbrev pub line : ℕ → ℕ → ℕ → ℕ → StressLoss
line d m w x = grouped d m w 0 x

-- losses of 30, 40 and 50 of members who are alone give 90, and of 7 alone 7
pub three-members : cover_sum (line 1 3 0 50 ∷ line 1 2 0 40 ∷ line 1 1 0 30 ∷ []) ≡ 90
unfolding losses_of groups block_sums highest without check cover_sum
three-members = refl

pub one-member : cover_sum (line 1 1 0 7 ∷ []) ≡ 7
unfolding losses_of groups block_sums highest without check cover_sum
one-member = refl

-- "Members 1 and 2 in group 1 with 30 and 40, and member 3 alone with 50, give 120, where it was 90."
pub group_and_member : cover_sum (line 1 3 0 50 ∷ grouped 1 2 0 1 40 ∷ grouped 1 1 0 1 30 ∷ []) ≡ 120
unfolding losses_of groups block_sums highest without check cover_sum
group_and_member = refl

-- a block of one group has one sum; of two groups two, also where their members take turns; a group of one member counts as that member
pub one_group : block_sums (grouped 1 3 0 64 50 ∷ grouped 1 2 0 64 40 ∷ grouped 1 1 0 64 30 ∷ []) ≡ 120 ∷ []
unfolding losses_of groups block_sums
one_group = refl

pub two_groups : block_sums (grouped 1 4 0 2 5 ∷ grouped 1 3 0 1 50 ∷ grouped 1 2 0 2 40 ∷ grouped 1 1 0 1 30 ∷ []) ≡ 80 ∷ 45 ∷ []
unfolding losses_of groups block_sums
two_groups = refl

pub group-of_one : cover_sum (line 1 3 0 50 ∷ line 1 2 0 40 ∷ grouped 1 1 0 9 30 ∷ []) ≡ 90
unfolding losses_of groups block_sums highest without check cover_sum
group-of_one = refl

-- group 5 and member 5 alone are two sums
pub group_5 : block_sums (grouped 1 6 0 5 4 ∷ line 1 5 0 2 ∷ grouped 1 4 0 5 3 ∷ []) ≡ 7 ∷ 2 ∷ []
unfolding losses_of groups block_sums
group_5 = refl

-- days 1 and 2 cover 90 each, day 3 less: C is 90, and W is day 1's, a member that is counted in C and one that is not
abbrev pub three_days : List StressLoss
three_days =
    line 1 1 1 30 ∷ line 1 2 1 40 ∷ line 1 3 0 50 ∷ line 2 1 1 45 ∷ line 2 2 0 45 ∷ line 3 1 1 80 ∷ []

pub greatest : highest (map cover_sum (blocks_of three_days)) ≡ 90
unfolding blocks_from losses_of groups block_sums highest without check cover_sum
greatest = refl

pub earliest : flagged_sum (earliest_with 90 (blocks_of three_days)) ≡ 70
unfolding blocks_from losses_of groups block_sums highest without check cover_sum earliest_with flagged_sum
earliest = refl

-- group 7 in two blocks: a sum for each, beside a member alone in the second, and W of the second by its flagged member alone
abbrev pub two_days : List StressLoss
two_days = grouped 1 1 1 7 60 ∷ grouped 1 2 0 7 10 ∷ grouped 2 1 0 7 50 ∷ grouped 2 2 1 7 30 ∷ line 2 3 0 20 ∷ []

pub by-block : map cover_sum (blocks_of two_days) ≡ 70 ∷ 100 ∷ []
unfolding blocks_from losses_of groups block_sums highest without check cover_sum
by-block = refl

pub flagged-member : flagged_sum (earliest_with 100 (blocks_of two_days)) ≡ 30
unfolding blocks_from losses_of groups block_sums highest without check cover_sum earliest_with flagged_sum
flagged-member = refl
