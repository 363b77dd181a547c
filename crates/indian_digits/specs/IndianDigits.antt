-- Document 02, request 1: an amount "with Indian commas (2,55,000; zero is 0)".
use Rattle.std.specs.Prelude.{ℕ, ◌%◌, Bool, ◌&&◌, List, [], ◌∷◌, ◌++◌, leb, eqb, length}
use Rattle.lists.specs.Checks.{check}
use Rattle.lists.specs.Texts.{ascii}
use Rattle.numbers.specs.Numbers.{decimal_of}

-- the last three digits, then twos: a comma stands where three digits follow, or five, or seven, and so on
abbrev pub comma_before : ℕ → Bool
comma_before following = leb 3 following && eqb (following % 2) 1

unfoldable pub with_commas : List ℕ → List ℕ
with_commas [] = []
with_commas (digit ∷ following) =
    digit ∷ check (comma_before (length following)) (ascii ",") [] ++ with_commas following

unfoldable pub indian_of : ℕ → List ℕ
indian_of amount = with_commas (decimal_of amount)
