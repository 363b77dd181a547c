-- run_drill: what `range M LOW HIGH M:R ..` says behind its first word.
use Rattle.std.specs.Prelude.{ℕ, List, [], ◌∷◌, get_or, Option, Some, None}
use Rattle.lists.specs.Checks.{check}
use Rattle.typed_ranks.specs.TypedRanks.{missing_ranks}
use Rattle.typed_ranks.specs.Pools.{pools_of}
use Rattle.lines.specs.Defaults.{number_in, behind, is_readable, loss_typed, ranks_beside, no_ranks}
use Rattle.lines.specs.declared.Line.{Line}

-- the line, by the member, the low and what follows: HIGH and the ranks are typed as the one pool of a default is, and no word `/` is among them
abbrev pub range_typed : Option ℕ → Option ℕ → List (List (List ℕ)) → Option Line
range_typed (Some member) (Some low) (pool ∷ []) =
    check (is_readable pool) (Some (Line.Range member (record { low = low; high = loss_typed pool }))) None
range_typed _ _ _ = None

-- the ranks stand where those of a default's first pool do
abbrev pub range_ranks-typed : Option ℕ → Option ℕ → List (List (List ℕ)) → List (List ℕ)
range_ranks-typed (Some member) (Some low) (pool ∷ []) = check (is_readable pool) (ranks_beside (pool ∷ [])) no_ranks
range_ranks-typed _ _ _ = no_ranks

-- those that go with a range
abbrev pub first_ranks : List (List ℕ) → List ℕ
first_ranks ranks = get_or ranks 0 missing_ranks

-- the words of the member and of the low, and those behind them
unfoldable pub range_line : List (List ℕ) → Option Line
range_line ws = range_typed (number_in ws) (number_in (behind ws)) (pools_of (behind (behind ws)))

unfoldable pub range_ranks : List (List ℕ) → List (List ℕ)
range_ranks ws = range_ranks-typed (number_in ws) (number_in (behind ws)) (pools_of (behind (behind ws)))
