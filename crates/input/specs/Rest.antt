-- What is read of an input, by the fields of its lines.
use Rattle.words.specs.Bytes.{part}
use Rattle.input.specs.Reading.{Reading}
use Rattle.input.specs.declared.Lines.TheInside.{Inside}

abbrev pub reading_of : Inside → Reading
reading_of lines = record { rest = part lines.bytes lines.from lines.have; number = lines.number; state = lines.state }
