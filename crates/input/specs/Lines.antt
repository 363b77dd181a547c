-- The line that bytes begin with.
use Rattle.std.specs.Prelude.{ℕ, ◌+◌, ◌-◌, ◌^◌, ◌<◌, ◌≤◌, ◌≡◌, Bool, not, ◌&&◌, List, Option, Some, None, Result, Ok, Err, ◌==◌, cond, min, length, take, drop}
use Rattle.std.specs.Borrow.{Bor}
use Rattle.std.specs.List.{position}
use Rattle.words.specs.declared.Unreadable.{Unreadable}

-- where the input has ended, the last line may have no newline
abbrev pub or_last : Bool → List ℕ → Option ℕ → Option ℕ
or_last ended bytes (Some n) = Some n
or_last ended bytes None = cond (not (length bytes == 0) && ended) (Some (length bytes)) None

-- how long the line is that the bytes begin with, where they have its end
abbrev pub length_of : Bool → List ℕ → Option ℕ
length_of ended bytes = or_last ended bytes (position (λ b. b == 10) bytes)

-- the first n of the bytes are searched, and hold no newline
abbrev pub Searched : ℕ → List ℕ → Type 0
Searched n bytes = (n ≤ length bytes) × (position (λ b. b == 10) (take n bytes) ≡ None)

-- what is left of the bytes behind the line and its newline
abbrev pub left_of : Option ℕ → List ℕ → List ℕ
left_of None bytes = bytes
left_of (Some n) bytes = drop (n + 1) bytes

-- the number of the line behind it: it stays at the largest
abbrev pub number_after : Option ℕ → ℕ → ℕ
number_after None number = number
number_after (Some n) number = min (number + 1) (2 ^ 64 - 1)

-- "A line may be at most 4,096 bytes long; a longer one is unreadable as a whole"
abbrev pub IsLine : ℕ → List ℕ → Result (Bor (List ℕ)) Unreadable → Type 0
IsLine n bytes (Ok line) = (n ≤ 4096) × (line.now ≡ take n bytes)
IsLine n bytes (Err unreadable) = 4096 < n

abbrev pub IsNext : Option ℕ → List ℕ → Option (Result (Bor (List ℕ)) Unreadable) → Type 0
IsNext None bytes r = r ≡ None
IsNext (Some n) bytes None = ⊥
IsNext (Some n) bytes (Some r) = IsLine n bytes r
