-- Cells and shape, and the header that carries a shape in both kinds of file.
use Rattle.std.specs.Prelude.{ℕ, ◌+◌, not, ◌&&◌, List, ◌∷◌, ◌++◌, length, get_or, leb, ltb, eqb}
use Rattle.rules.specs.Verdict.{Verdict, granted, refuse_if, ◌>>=◌}
use Rattle.rules.specs.Lists.{number_at, bytes_of}
use Rattle.rules.specs.Edition.{Edition, header_end}

-- R1: a stack depth and how many inputs, outputs and memory bits.
pub record Shape : Type 0 where
  pub depth : ℕ
  pub inputs : ℕ
  pub outputs : ℕ
  pub memory : ℕ

-- R2: how many variables there are, V; the flag's cell, which comes after them; how many cells there are, C.
abbrev pub vars : Shape → ℕ
vars sh = sh.inputs + sh.outputs + sh.memory

abbrev pub flag : Shape → ℕ
flag sh = vars sh

abbrev pub cells : Shape → ℕ
cells sh = vars sh + 1 + sh.depth

-- R1, R46, R58: the depth is 2 to 16, and the variables are 1 to the edition's most.
abbrev pub check_shape : Edition → Shape → Verdict (Unit {0})
check_shape e sh = do
  _ ← refuse_if (not (leb 2 sh.depth && leb sh.depth 16)) 3 1
  refuse_if (not (leb 1 (vars sh) && leb (vars sh) e.most_vars)) 3 2

-- R7: the shape that a header gives.
unfoldable pub shape_at : Edition → List ℕ → Shape
shape_at e file =
    let w = e.count_bytes in
    record {
      depth = get_or file 1 0;
      inputs = number_at w file 2;
      outputs = number_at w file (2 + w);
      memory = number_at w file (2 + w + w);
    }

-- R7, R48, R49: reads a header that begins with the mark. Refuses a short file, another mark, a bad shape.
unfoldable pub read_header : Edition → ℕ → List ℕ → Verdict Shape
read_header e mark file = do
  _ ← refuse_if (ltb (length file) (header_end e)) 1 (length file)
  _ ← refuse_if (not (eqb (get_or file 0 0) mark)) 2 0
  _ ← check_shape e (shape_at e file)
  granted (shape_at e file)

-- R7: the header with a mark, a shape and a count.
unfoldable pub write_header : Edition → ℕ → Shape → ℕ → List ℕ
write_header e mark sh n =
    let w = e.count_bytes in
    mark ∷ sh.depth ∷ (bytes_of w sh.inputs ++ (bytes_of w sh.outputs ++ (bytes_of w sh.memory ++ bytes_of 2 n)))
