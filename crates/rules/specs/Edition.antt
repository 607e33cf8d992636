-- The limits and widths that an edition of the files fixes, and the limits that hold in every edition.
use Rattle.std.specs.Prelude.{ℕ, ◌+◌, ◌*◌}

-- R6: an edition of the two kinds of file.
pub record Edition : Type 0 where
  -- byte 0 of a program, and of a set
  pub program_mark : ℕ
  pub set_mark : ℕ
  -- bytes for each of I, O and M
  pub count_bytes : ℕ
  -- the most variables, and the most bytes of an expression
  pub most_vars : ℕ
  pub most_expr : ℕ

-- R6: the one edition there is.
abbrev pub old : Edition
old = record { program_mark = 1; set_mark = 2; count_bytes = 1; most_vars = 200; most_expr = 64 }

-- R7: where the two-byte count stands, and where the header ends.
abbrev pub count_at : Edition → ℕ
count_at e = 2 + 3 * e.count_bytes

abbrev pub header_end : Edition → ℕ
header_end e = count_at e + 2

-- R8: the most instructions of a program.
abbrev pub most_instrs : ℕ
most_instrs = 512

-- R53: the most rows that are ever used.
abbrev pub most_rows : ℕ
most_rows = 65535
