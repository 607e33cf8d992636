-- Room for the text: how long each line is at most.
use Rattle.std.specs.Prelude.{ℕ, zero, suc, ◌+◌, ◌*◌, ◌≤◌, ◌<◌, ◌≡◌, true, false, length}
use mathlib.Core.List.{List, ◌++◌, flat_map}
use Rattle.std.proofs.Common.{arith, mul-zero, mul-suc, length-append}
use Rattle.rules.specs.Edition.{old}
use Rattle.rules.specs.Lists.{from}
use Rattle.rules.specs.Shape.{cells, shape_at}
use Rattle.rules.specs.SetFile.{TransferSet, leaves}
use Rattle.rules.specs.Text.{ascii}
use Rattle.rules.specs.Lines.{line, set_text}
use Rattle.rules.specs.Rows.{Row, leaf, inv, bin}
use Rattle.laws.specs.Canonical.{Below}
use Rattle.laws.specs.Shape.{header-granted, shape-limits}
use Rattle.sets.specs.Spelt.{rows_in, set_in, Taken, spelt-length, taken_proper, taken-canonical}
use Rattle.text.specs.Decimal.{length_word, length-decimal}
use Rattle.text.specs.Puts.{place, size, Fits}
use Rattle.text.specs.declared.word.Text.{Text}
use Rattle.text.specs.Texts.{first_line, refusal_line, cell_line, row_line}
use Rattle.lines.specs.Sets.{cell_text, row_text, set_parts}

-- R62, R63: the lines of two words and two numbers.
refusal_length : (n p : ℕ) → length (refusal_line n p) ≤ 60
unfolding line ascii
refusal_length n p = simp length-append (omega (arith, length-decimal n, length-decimal p))

first-length : (C r : ℕ) → C ≤ 65535 → r ≤ 65535 → length (first_line C r) ≤ 24
unfolding line ascii
first-length C r p q = simp length-append (omega (arith, length_word C p, length_word r q))

-- R62: the line of a cell.
cell-length : (c h : ℕ) → c ≤ 65535 → h ≤ 65535 → length (cell_line c h) ≤ 16
unfolding line ascii
cell-length c h p q = simp length-append (omega (arith, length_word c p, length_word h q))

-- R62: the line of an operation row.
row-length : (k : ℕ) (r : Row) → k ≤ 65535 → Below k r → length (row_line k r) ≤ 27
unfolding line ascii
row-length k (leaf i) p b = simp length-append (omega (arith, length_word k p))
row-length k (inv a) p b = simp length-append (omega (arith, length_word k p, length_word a (omega arith)))
row-length k (bin true a b) p h =
    simp length-append (omega (arith, length_word k p, length_word a (omega (arith, h.0)), length_word b (omega (arith, h.1))))
row-length k (bin false a b) p h =
    simp length-append (omega (arith, length_word k p, length_word a (omega (arith, h.0)), length_word b (omega (arith, h.1))))

-- R62: lines of at most w bytes.
lines_length : (f : ℕ → List ℕ) (w l n : ℕ) → ((k : ℕ) → l ≤ k → k < l + n → length (f k) ≤ w)
    → length (flat_map f (from l n)) ≤ w * n
unfolding flat_map from
lines_length f w l zero h = rw mul-zero (omega arith)
lines_length f w l (suc n) h = omega (
  arith,
  mul-suc w n,
  length-append (f l) (flat_map f (from (suc l) n)),
  h l (omega arith) (omega arith),
  lines_length f w (suc l) n (λ k p q. h k (omega arith) (omega arith)),
)

-- ---- room for the text of a file, and of a refusal

-- R1, R2: there are few cells.
pub few-cells : (file : List ℕ) → Taken file → cells (shape_at old file) ≤ 217
few-cells file a =
    let l = shape-limits old (shape_at old file) (header-granted old 2 file (shape_at old file) a.header).shaped in
    omega (arith, l.shallow, l.most)

-- R64: a set in at most 40,957 bytes has a text of at most 230,000.
module _ (file : List ℕ) (a : Taken file) (h : length file ≤ 40957) where
  abbrev z : TransferSet
  z = set_in file

  rows_are : length z.tab ≡ leaves (shape_at old file) + rows_in file
  rows_are = spelt-length file (shape_at old file) (rows_in file)

  cells-length : length (flat_map (cell_text z) (from 0 (cells (shape_at old file)))) ≤ 16 * cells (shape_at old file)
  unfolding cell_text
  cells-length = lines_length (cell_text z) 16 0 (cells (shape_at old file)) (λ k p q. cell-length k _
      (omega (arith, few-cells file a)) (omega (arith, (taken_proper file a).rows k, rows_are, a.room)))

  rows-length : length (flat_map (row_text z) (from (leaves (shape_at old file)) (rows_in file))) ≤ 27 * rows_in file
  unfolding row_text
  rows-length = lines_length (row_text z) 27 (leaves (shape_at old file)) (rows_in file) (λ k p q. row-length k _
      (omega (arith, a.room)) ((taken-canonical file a).earlier k p (omega (arith, rows_are))))

  set-length : length (set_text z) ≤ 230000
  set-length =
      let C = cells (shape_at old file) in
      let r = rows_in file in
      let first = first_line C r in
      let heads = flat_map (cell_text z) (from 0 C) in
      let rows = flat_map (row_text z) (from (leaves (shape_at old file)) r) in
      rw (set_parts file (shape_at old file)) (omega (
        arith,
        length-append first (heads ++ rows),
        length-append heads rows,
        first-length C r (omega (arith, few-cells file a)) (omega (arith, a.room)),
        cells-length,
        rows-length,
        few-cells file a,
        a.size,
      ))

  pub set-fits : (t : Text) → place t + 230000 ≤ size t → Fits (set_text z) t
  set-fits t g = omega (arith, set-length)

-- R63: a refusal has room there too.
pub refusal_fits : (n p : ℕ) (t : Text) → place t + 230000 ≤ size t → Fits (refusal_line n p) t
refusal_fits n p t g = omega (arith, refusal_length n p)
