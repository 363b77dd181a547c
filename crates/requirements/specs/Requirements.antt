-- Document 01, "Stress sheet and sizing": a quantum shared over the members of a shares sheet, and refusals 9 and 10.
use Rattle.std.specs.Prelude.{ℕ, ◌+◌, ◌-◌, ◌/◌, max, Bool, ◌&&◌, ◌||◌, List, map, eqb, ltb, Option, Some, None}
use Rattle.lists.specs.Checks.{check}
use Rattle.lists.specs.Highest.{highest}
use Rattle.lists.specs.Limits.{amount_limit, contribution_floor}
use Rattle.lists.specs.Sums.{total, plus, keep}
use Rattle.refusal.specs.declared.Refusal.{Refusal}
use Rattle.split.specs.Split.{split_of}
use Rattle.sheets.specs.Bytes.{nonzero}
use Rattle.sheets.specs.declared.columns.Columns.{Columns}
use Rattle.requirements.specs.declared.Shared.{Shared}

-- "In a shares sheet they are average volume, average initial margin and highest stress loss."
abbrev pub average_volumes : Columns → List ℕ
average_volumes columns = columns.first

abbrev pub average_margins : Columns → List ℕ
average_margins columns = columns.second

abbrev pub stress_losses : Columns → List ℕ
stress_losses columns = columns.third

-- "Q/4 rounded down goes by initial margin, as much by stress loss, the remainder by volume"
abbrev pub margin_part : ℕ → ℕ
margin_part q = q / 4

abbrev pub stress_part : ℕ → ℕ
stress_part q = q / 4

abbrev pub volume_part : ℕ → ℕ
volume_part q = q - (margin_part q + stress_part q)

-- "each by the split; a requirement is the three parts added"
unfoldable pub parts_of : ℕ → Columns → List ℕ
parts_of q columns =
    plus (split_of (margin_part q) (average_margins columns))
    (plus (split_of (stress_part q) (stress_losses columns))
    (split_of (volume_part q) (average_volumes columns)))

-- "at least 10,000 (para 4.4)", "by member number, 0 where absent"
unfoldable pub requirements_of : ℕ → Columns → List ℕ
requirements_of q columns = keep columns.present (map (max contribution_floor) (parts_of q columns))

-- the highest requirement when q is shared
abbrev pub highest_of : ℕ → Columns → ℕ
highest_of q columns = highest (requirements_of q columns)

-- what is answered where q is not refused
abbrev pub shared_of : ℕ → Columns → Shared
shared_of q columns = record { highest = highest_of q columns; requirements = requirements_of q columns }

-- 9. "A shares column adds to zero while its part of the quantum is above zero."
abbrev pub unshared : ℕ → List ℕ → Bool
unshared part column = nonzero part && eqb (total column) 0

unfoldable pub any_unshared : ℕ → Columns → Bool
any_unshared q columns =
    unshared (margin_part q) (average_margins columns) || unshared (stress_part q) (stress_losses columns) || unshared (volume_part q) (average_volumes columns)

-- 10. "A requirement is above 400,000,000."
abbrev pub any_excessive : ℕ → Columns → Bool
any_excessive q columns = ltb amount_limit (highest_of q columns)

-- 9, then 10, of a quantum
unfoldable pub sharing_refusal : ℕ → Columns → Option Refusal
sharing_refusal q columns =
    check (any_unshared q columns) (Some Refusal.Unshared)
    (check (any_excessive q columns) (Some Refusal.ExcessiveRequirement)
    None)
