-- The values of the rows that a set file spells, in bytes.
use Rattle.std.specs.Prelude.{ℕ, ◌+◌, ◌-◌, ◌<◌, min, max, ◌≡◌, cond, List, ◌∷◌, get_or}
use Rattle.rules.specs.Edition.{old}
use Rattle.rules.specs.Rows.{Row, leaf, inv, bin, value}
use Rattle.rules.specs.Operations.{bit, storage_bytes, evaluate_set}
use Rattle.storage.specs.Cells.{bits_of, Storage}
use Rattle.laws.specs.Canonical.{Proper}
use Rattle.base.specs.Answers.{shape_of}
use Rattle.sets.specs.Judging.{spells}
use Rattle.sets.specs.declared.read.SetFile.{SetFile}

-- R27: the byte of a row, on a storage s, where vs has the bytes of the rows before it.
unfoldable pub byte_of : List ℕ → List ℕ → Row → ℕ
byte_of s vs (leaf i) = get_or (0 ∷ 1 ∷ s) i 0
byte_of s vs (inv a) = 1 - get_or vs a 0
byte_of s vs (bin o a b) = cond o (min (get_or vs a 0) (get_or vs b 0)) (max (get_or vs a 0) (get_or vs b 0))

-- A row whose leaf is in a storage of C cells, or whose operands are among n values.
abbrev pub Worked : ℕ → ℕ → Row → Type 0
Worked C n (leaf i) = i < 2 + C
Worked C n (inv a) = a < n
Worked C n (bin o a b) = (a < n) × (b < n)

-- R31, R45: the file spells a proper set, and the bytes are a storage of its shape.
pub record Evaluable (f : SetFile) (s : List ℕ) : Type 0 where
  pub proper : Proper old (spells f)
  pub stored : Storage (shape_of f.shape) s

-- R27: the first k bytes are the values of the first k rows.
abbrev pub Valued : SetFile → List ℕ → List ℕ → ℕ → Type 0
Valued f s vs k = (i : ℕ) → i < k → get_or vs i 0 ≡ bit (value (spells f).tab (bits_of s) i)

-- R31: the storage after.
abbrev pub evaluated_bytes : SetFile → List ℕ → List ℕ
evaluated_bytes f s = storage_bytes (evaluate_set (spells f) (bits_of s))
