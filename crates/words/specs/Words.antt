-- "Words are parted by one or more spaces." "`#` starts a comment that runs to the end of its line"
use Rattle.std.specs.Prelude.{ℕ, ◌≡◌, refl, Bool, false, not, ◌||◌, List, [], ◌∷◌, drop, ◌==◌, Option, Some, None, Result, Ok, Err}
use Rattle.std.specs.List.{onto_first}
use Rattle.lists.specs.Checks.{check}
use Rattle.lists.specs.Texts.{ascii}
use Rattle.words.specs.declared.Unreadable.{Unreadable}

abbrev pub is_space : ℕ → Bool
is_space b = b == 32

-- no space and no '#'
abbrev pub in_word : ℕ → Bool
in_word b = not (b == 32 || b == 35)

-- whether s goes on in a word
abbrev pub goes_on : List ℕ → Bool
goes_on [] = false
goes_on (b ∷ s) = in_word b

-- the words of a line: none from a '#' on, a space parts them, and any other byte goes in front of the word that follows at once
unfoldable pub words_of : List ℕ → List (List ℕ)
words_of [] = []
words_of (b ∷ s) =
    check (b == 35) []
    (check (b == 32) (words_of s)
    (check (goes_on s) (onto_first b (words_of s))
    ((b ∷ []) ∷ words_of s)))

two-words : words_of (ascii "a  bc #d") ≡ ascii "a" ∷ ascii "bc" ∷ []
unfolding words_of check
two-words = refl

first_word : words_of (ascii " ab#c") ≡ ascii "ab" ∷ []
unfolding words_of check
first_word = refl

no-word : words_of (drop 3 (ascii " ab#c")) ≡ []
unfolding words_of check
no-word = refl

no-words : words_of (ascii "  # n") ≡ []
unfolding words_of check
no-words = refl

-- a line that says nothing that can be read is unreadable as a whole
abbrev pub or_unreadable : {A : Type 0} → Option A → Result (Option A) Unreadable
or_unreadable (Some said) = Ok (Some said)
or_unreadable None = Err (record {})
