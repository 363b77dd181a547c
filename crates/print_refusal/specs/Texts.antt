-- What is printed of a refusal, and of an opening.
use Rattle.std.specs.Prelude.{ℕ, List, [], ◌++◌, Option, Some, None}
use Rattle.lists.specs.Texts.{ascii}
use Rattle.numbers.specs.Numbers.{labelled}
use Rattle.refusal.specs.declared.Refusal.{Refusal}
use Rattle.refusal.specs.Refusal.{number_of}

-- the record, "for 4 to 8"
unfoldable pub record_text : Refusal → List ℕ
record_text (Refusal.Record fault position) = labelled (ascii " record ") position
record_text _ = []

-- "`refused N record P` for 4 to 8, `refused N` else"
unfoldable pub refusal_text : Refusal → List ℕ
refusal_text refusal =
    labelled (ascii "refused ") (number_of refusal)
    ++ record_text refusal
    ++ ascii "\n"

-- "`opening accepted`, or `opening refused N record P` for 4 to 8, `opening refused N` else"
unfoldable pub opening_text : Option Refusal → List ℕ
opening_text (Some refusal) = ascii "opening " ++ refusal_text refusal
opening_text None = ascii "opening accepted\n"
