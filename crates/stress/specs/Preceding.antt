-- What stands before a record of a stress sheet, where a caller keeps it in numbers of its own.
use Rattle.stress.specs.declared.Before.{Before}
use Rattle.stress.specs.declared.Preceding.{Preceding}

-- the same four numbers
abbrev pub as_before : Preceding → Before
as_before p = record { day = p.day; scenario = p.scenario; member = p.member; flags = p.flags }
