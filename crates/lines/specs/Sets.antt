-- The text of the set in an accepted file: its lines, one after another.
use Prim.Native.Nat.{ℕ, zero, suc, ◌+◌, ◌-◌, ◌≤◌, ◌<◌}
use Rattle.std.specs.Prelude.{◌≡◌, refl, get_or, length}
use Rattle.std.proofs.Math.Path.{sym, ap}
use Rattle.std.proofs.Common.{◌∙◌, add-zero, zero-add, suc-add, length-append}
use mathlib.Core.List.{List, ◌∷◌, ◌++◌, flat_map}
use native.Mathlib.Omega.{arith}
use Rattle.rules.specs.Lists.{from}
use Rattle.rules.specs.Shape.{Shape, cells}
use Rattle.rules.specs.Rows.{Row, row_at}
use Rattle.rules.specs.SetFile.{TransferSet, leaves}
use Rattle.rules.specs.Lines.{set_text}
use Rattle.base.specs.Answers.{shape_of}
use Rattle.sets.specs.Spelt.{rows_in, set_with, spelt-shape, spelt-length}
use Rattle.sets.specs.Judging.{spells}
use Rattle.sets.specs.declared.read.SetFile.{SetFile}
use Rattle.writer.specs.Put.{put_at, flat_map-append, flat_map-one}
use Rattle.text.specs.Puts.{with_word}
use Rattle.text.specs.declared.word.Text.{Text}
use Rattle.text.specs.Texts.{first_line, cell_line, row_line}

-- R62: the line of cell c, and of row k, of a set; the lines of the first C cells, and of r rows from row l on.
unfoldable pub cell_text : TransferSet → ℕ → List ℕ
cell_text z c = cell_line c (get_or z.heads c 0)

unfoldable pub row_text : TransferSet → ℕ → List ℕ
row_text z k = row_line k (row_at z.tab k)

abbrev pub cell_texts : TransferSet → ℕ → List ℕ
cell_texts z C = flat_map (cell_text z) (from 0 C)

abbrev pub row_texts : TransferSet → ℕ → ℕ → List ℕ
row_texts z l r = flat_map (row_text z) (from l r)

-- R62: a set's text is its first line, then the lines of its cells, then those of its operation rows.
text_parts : (z : TransferSet) (C r : ℕ) → C ≡ cells z.shape → r ≡ length z.tab - leaves z.shape
    → set_text z ≡ first_line C r ++ (cell_texts z C ++ row_texts z (2 + C) r)
unfolding set_text cell_text row_text
text_parts z C r e q = rw (e, q) refl

-- R62: the same of the set that a file spells.
pub set_parts : (file : List ℕ) (sh : Shape) → let z = set_with file sh in
    set_text z ≡ first_line (cells sh) (rows_in file) ++ (cell_texts z (cells sh) ++ row_texts z (leaves sh) (rows_in file))
set_parts file sh =
    let z = set_with file sh in
    let c : cells sh ≡ cells z.shape = ap cells (sym (spelt-shape file sh (rows_in file))) in
    let n : rows_in file ≡ length z.tab - leaves z.shape
    = rw (spelt-shape file sh (rows_in file), spelt-length file sh (rows_in file)) (omega arith) in
    text_parts z (cells sh) (rows_in file) c n

-- R62: the same of an accepted file that is opened.
pub accepted_parts : (s : SetFile) (z : TransferSet) → spells s ≡ z
    → set_text z ≡ first_line (cells (shape_of s.shape)) (rows_in s.file.now)
    ++ (cell_texts (spells s) (cells (shape_of s.shape)) ++ row_texts (spells s) (leaves (shape_of s.shape)) (rows_in s.file.now))
accepted_parts s z e = rw (← e) (set_parts s.file.now (shape_of s.shape))

-- R41: the head of a cell, and an operation row.
pub cell-line : (z : TransferSet) (c h : ℕ) → h ≡ get_or z.heads c 0 → cell_text z c ≡ cell_line c h
unfolding cell_text
cell-line z c h e = ap (cell_line c) (sym e)

pub row-line : (z : TransferSet) (k : ℕ) (r : Row) → r ≡ row_at z.tab k → row_text z k ≡ row_line k r
unfolding row_text
row-line z k r e = ap (row_line k) (sym e)

pub ruleset file_lines = (cell-line, row-line)

-- ---- line after line

-- Numbers in two parts.
from-split : (l i m : ℕ) → from l (i + m) ≡ from l i ++ from (l + i) m
unfolding from
from-split l zero m = rw (zero-add, add-zero) refl
from-split l (suc i) m =
    let e : l + suc i ≡ suc l + i = omega arith in
    rw (suc-add, e) (ap (λ (t : List ℕ). l ∷ t) (from-split (suc l) i m))

module _ (f : ℕ → List ℕ) (l i : ℕ) where
  -- R62: the lines so far, and the next.
  pub lines_next : flat_map f (from l (i + 1)) ≡ flat_map f (from l i) ++ f (l + i)
  unfolding from
  lines_next =
      ap (flat_map f) (from-split l i 1) ∙ flat_map-append f (from l i) (from (l + i) 1)
      ∙ ap (λ x. flat_map f (from l i) ++ x) (flat_map-one f (l + i))

  -- R62: the lines so far and the next are no longer than all lines.
  pub lines_within : (n : ℕ) → i < n → length (flat_map f (from l i)) + length (f (l + i)) ≤ length (flat_map f (from l n))
  lines_within n h =
      let m = n - (i + 1) in
      let q : n ≡ i + 1 + m = omega arith in
      let parts = ap (λ k. flat_map f (from l k)) q ∙ ap (flat_map f) (from-split l (i + 1) m)
      ∙ flat_map-append f (from l (i + 1)) (from (l + (i + 1)) m) in
      omega (arith, simp length-append at (ap length parts), simp length-append at (ap length lines_next))

-- No lines, before the first.
pub lines_none : (f : ℕ → List ℕ) (l : ℕ) (t : Text) → with_word t (flat_map f (from l 0)) ≡ t
unfolding from flat_map put_at with_word
lines_none f l t = rw add-zero refl

pub ruleset line_steps = (lines_none, lines_next)
