-- The lines that are printed.
use Rattle.std.specs.Prelude.{ℕ, List, [], ◌∷◌}
use Rattle.rules.specs.Text.{ascii}
use Rattle.rules.specs.Lines.{decimal, line, cell_name, row_name, operation}
use Rattle.rules.specs.Rows.{Row}

-- R62: the first line of a set.
abbrev pub first_line : ℕ → ℕ → List ℕ
first_line C r = line (ascii "cells") (decimal C ∷ ascii "rows" ∷ decimal r ∷ [])

-- R63: the line of a refusal.
abbrev pub refusal_line : ℕ → ℕ → List ℕ
refusal_line n p = line (ascii "refused") (decimal n ∷ ascii "at" ∷ decimal p ∷ [])

-- R62: the line of a cell and its head.
abbrev pub cell_line : ℕ → ℕ → List ℕ
cell_line c h = line (cell_name c) (ascii "=" ∷ row_name h ∷ [])

-- R62: the line of an operation row.
abbrev pub row_line : ℕ → Row → List ℕ
row_line k r = line (row_name k) (ascii "=" ∷ operation r)

-- R61: what follows the first word of a line.
unfoldable pub line_end : List (List ℕ) → List ℕ
line_end [] = 10 ∷ []
line_end (w ∷ ws) = 32 ∷ line w ws
