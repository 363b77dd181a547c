-- Figures and statuses by member number: a list of 64 of each kind, member 1's first.
use Rattle.std.specs.Prelude.{ℕ, zero, suc, ◌-◌, Bool, true, false, cond, List, [], ◌∷◌, map, get_or, set, replicate}
use Rattle.lists.specs.Limits.{member_limit}
use Rattle.figures.specs.declared.Status.{Status}
use Rattle.figures.specs.declared.Status.TheVariants.{Absent, Live, InDefault}

-- "Members are numbered 1 to 64.": what stands at the number of a member, and `nobody` of every other number
abbrev pub of_member : {A : Type 0} → A → List A → ℕ → A
of_member nobody xs zero = nobody
of_member nobody xs (suc k) = get_or xs k nobody

-- the figure of a member, and 0 of every other number
abbrev pub figure : List ℕ → ℕ → ℕ
figure xs member = of_member 0 xs member

-- the status of a member, who is not in the register where the number is no member's
abbrev pub status_at : List Status → ℕ → Status
status_at status member = of_member Absent status member

-- the list with what stands at a member's number replaced
abbrev pub replace : {A : Type 0} → List A → ℕ → A → List A
replace xs member x = set xs (member - 1) x

abbrev pub none : List ℕ
none = replicate member_limit 0

-- of a member that is present, and of one that is not
abbrev pub status_of : Bool → Status
status_of present = cond present Live Absent

abbrev pub is_absent : Status → Bool
is_absent Absent = true
is_absent Live = false
is_absent InDefault = false

abbrev pub is_live : Status → Bool
is_live Absent = false
is_live Live = true
is_live InDefault = false

abbrev pub is_in-default : Status → Bool
is_in-default Absent = false
is_in-default Live = false
is_in-default InDefault = true

-- what a list has of each live member, and `nothing` of everyone else
abbrev pub of_live : {A : Type 0} → A → List Status → List A → List A
of_live nothing [] xs = []
of_live nothing (s ∷ status) [] = []
of_live nothing (s ∷ status) (x ∷ xs) = cond (is_live s) x nothing ∷ of_live nothing status xs

-- which members are live
abbrev pub live_in : List Status → List Bool
live_in status = map is_live status

-- "live members other than the defaulter": those that are live once the defaulter is not
abbrev pub others : List Status → ℕ → List Bool
others status member = live_in (replace status member InDefault)
