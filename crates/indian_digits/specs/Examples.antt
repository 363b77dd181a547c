-- Document 02, request 1: "2,55,000; zero is 0". The amounts at which the commas get one more, and the largest that is printed.
use Rattle.std.specs.Prelude.{◌≡◌, refl}
use Rattle.lists.specs.Checks.{check}
use Rattle.lists.specs.Texts.{ascii}
use Rattle.numbers.specs.Numbers.{decimal_of}
use Rattle.indian_digits.specs.IndianDigits.{with_commas, indian_of}

pub amounts :
    (indian_of 0 ≡ ascii "0")
    × (indian_of 255 ≡ ascii "255")
    × (indian_of 999 ≡ ascii "999")
    × (indian_of 1_000 ≡ ascii "1,000")
    × (indian_of 99_999 ≡ ascii "99,999")
    × (indian_of 100_000 ≡ ascii "1,00,000")
    × (indian_of 255_000 ≡ ascii "2,55,000")
    × (indian_of 26_000_000_000 ≡ ascii "26,00,00,00,000")
unfolding indian_of with_commas decimal_of check
amounts = (refl, refl, refl, refl, refl, refl, refl, refl)
