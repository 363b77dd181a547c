-- What the parts of `indian_digits` promise each other. No rule of document 01 is here.
use Rattle.std.specs.Prelude.{ℕ, ◌+◌, List, [], ◌∷◌}
use Rattle.lists.specs.Checks.{check}
use Rattle.lists.specs.Texts.{ascii}
use Rattle.indian_digits.specs.IndianDigits.{comma_before}

-- a digit with so many others behind it, and the comma between them where one stands
unfoldable pub digit_of : ℕ → ℕ → List ℕ
digit_of digit following = (48 + digit) ∷ check (comma_before following) (ascii ",") []
