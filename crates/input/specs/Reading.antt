-- How far an input is read.
use Rattle.std.specs.Prelude.{◌≡◌, ℕ, Bool, true, false, List, Option, take}
use Rattle.input.specs.Lines.{left_of, number_after}
use Rattle.input.specs.declared.State.{State}

-- the bytes that are read and not yet taken, the number of the line that is taken next, and the state
pub record Reading : Type 0 where
  pub rest : List ℕ
  pub number : ℕ
  pub state : State

-- what was read of a line stays; of a line that is too long already, one byte more than it may have stands for the whole
abbrev pub kept_of : Reading → List ℕ
kept_of lines = take 4097 lines.rest

abbrev pub has_ended : State → Bool
has_ended State.Open = false
has_ended State.Ended = true
has_ended State.Failed = true

-- the line that is found is gone, with its newline, and counted; where none is found, all stays
abbrev pub IsBehind : Option ℕ → Reading → Reading → Type 0
IsBehind found old new = (new.rest ≡ left_of found old.rest) × (new.number ≡ number_after found old.number) × (new.state ≡ old.state)
