-- The room that each operation needs, besides the rows of the finished table and the output.
use Rattle.std.specs.Prelude.{ℕ, ◌+◌, ◌-◌, ◌*◌, min, length}
use Rattle.rules.specs.Edition.{most_rows}
use Rattle.rules.specs.Shape.{cells}
use Rattle.rules.specs.ProgramFile.{Program}
use Rattle.rules.specs.SetFile.{TransferSet, leaves}

-- R53: the rows that may be used where so many are lent.
abbrev pub room : ℕ → ℕ
room rows = min rows most_rows

-- R55: building: a number for each row that may be used, and the heads of every T(i).
abbrev pub numbers_to_build : ℕ → ℕ
numbers_to_build rows = room rows

abbrev pub heads_to_build : Program → ℕ
heads_to_build P = length P.instrs * cells P.shape

-- R56: composing: a number for each row of the first set and each operation row of the second.
abbrev pub numbers_to_compose : TransferSet → TransferSet → ℕ
numbers_to_compose X Y = length X.tab + (length Y.tab - leaves Y.shape)

-- R57: evaluating: a value for each row.
abbrev pub values_to_evaluate : TransferSet → ℕ
values_to_evaluate z = length z.tab
