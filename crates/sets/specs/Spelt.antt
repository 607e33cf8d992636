-- The table and the heads that the bytes of a set file spell, one by one.
use Prim.Native.Nat.{ℕ, ◌+◌, ◌-◌, ◌≤◌, ◌<◌}
use Rattle.std.specs.Prelude.{◌≡◌, cond, length, ltb}
use Rattle.std.proofs.Math.Path.{refl, ap, sym}
use Rattle.std.proofs.Common.{◌∙◌, length-append, get_or-drop, drop_at}
use mathlib.Core.List.{List, map, ◌++◌}
use native.Mathlib.Omega.{arith}
use Rattle.std.proofs.Math.Decide.{dec_lt}
use Rattle.std.proofs.Math.ListN.{get_or, length-map, get_or-append}
use borrow.Author.Tests.{lt-ltb, le-ltb}
use Rattle.rules.specs.Verdict.{granted}
use Rattle.rules.specs.Edition.{old, count_at, header_end, most_rows}
use Rattle.rules.specs.Lists.{number_at, from}
use Rattle.rules.specs.Shape.{Shape, cells, shape_at}
use Rattle.rules.specs.Rows.{Row, leaf, base, row_at}
use Rattle.rules.specs.SetFile.{TransferSet, leaves, row_place, row_in, head_at, spelt, read_set}
use Rattle.laws.specs.Lists.{get_or-map-from, length_from}
use Rattle.base.specs.Answers.{shape_of}
use Rattle.base.specs.declared.shape.Shape as B
use Rattle.laws.specs.Rows.{length-base, base-at}
use Rattle.laws.specs.Canonical.{Canonical, Proper}
use Rattle.laws.specs.Shape.{header-granted}
use Rattle.laws.specs.SetFile.{Accepted, accepted_proper, accepted-read}

-- R41: a file of a shape and r operation rows is as long as it should be, and has few enough rows.
pub record Sized (file : List ℕ) (sh : Shape) (r : ℕ) : Type 0 where
  pub size : length file ≡ row_place old sh r
  pub room : leaves sh + r ≤ most_rows

-- R41: row i is a leaf, or its five bytes are in the file.
abbrev pub Inside : List ℕ → Shape → ℕ → Type 0
Inside file sh i = leaves sh ≤ i → row_place old sh (i - leaves sh) + 5 ≤ length file

pub sized_inside : (file : List ℕ) (sh : Shape) (r i : ℕ) → Sized file sh r → i < leaves sh + r → Inside file sh i
sized_inside file sh r i s h g = omega (arith, s.size)

-- R26, R41: row i of the table.
unfoldable pub spelt_row : List ℕ → Shape → ℕ → Row
spelt_row file sh i = cond (ltb i (leaves sh)) (leaf i) (row_in file (row_place old sh (i - leaves sh)))

pub row-leaf : (file : List ℕ) (sh : Shape) (i : ℕ) → i < leaves sh → leaf i ≡ spelt_row file sh i
unfolding spelt_row
row-leaf file sh i h = rw (lt-ltb i (leaves sh) h) refl

pub row-bytes : (file : List ℕ) (sh : Shape) (i : ℕ) → leaves sh ≤ i → row_in file (row_place old sh (i - leaves sh)) ≡ spelt_row file sh i
unfolding spelt_row
row-bytes file sh i h = rw (le-ltb i (leaves sh) h) refl

-- The same where C is the number of cells and p the row's place.
pub placed : (file : List ℕ) (sh : Shape) (i C p : ℕ) → C ≡ cells sh → p ≡ row_place old sh (i - (2 + C)) → 2 + C ≤ i
    → row_in file p ≡ spelt_row file sh i
placed file sh i C p e q h = rw (q, e) (row-bytes file sh i (omega arith))

-- The table and the heads of what a file spells.
module _ (file : List ℕ) (sh : Shape) (r : ℕ) where
  pub spelt-shape : (spelt old file sh r).shape ≡ sh
  unfolding spelt
  spelt-shape = refl

  pub spelt-length : length (spelt old file sh r).tab ≡ leaves sh + r
  unfolding spelt
  spelt-length = simp (length-append, length-base, length-map, length_from)

  pub spelt-row : (i : ℕ) → i < leaves sh + r → row_at (spelt old file sh r).tab i ≡ spelt_row file sh i
  unfolding spelt
  spelt-row i h = elim (dec_lt i (leaves sh)) [
    | yes l ↦ get_or-append (base (cells sh)) _ (leaf 0) i (omega (arith, length-base (cells sh))) ∙ base-at (cells sh) i l
        ∙ row-leaf file sh i l
    | no l ↦ tail (omega arith)
  ]
    where
      tail : leaves sh ≤ i → get_or (base (cells sh) ++ map (λ j. row_in file (row_place old sh j)) (from 0 r)) i (leaf 0) ≡ spelt_row file sh i
      tail l =
          let row : ℕ → Row = λ j. row_in file (row_place old sh j) in
          let t = base (cells sh) ++ map row (from 0 r) in
          let j = i - leaves sh in
          let z : i ≡ leaves sh + j = omega arith in
          ap (row_at t) z ∙ sym (get_or-drop (leaves sh) t j (leaf 0))
          ∙ ap (λ u. row_at u j) (drop_at (base (cells sh)) (map row (from 0 r)) (leaves sh) (length-base (cells sh)))
          ∙ get_or-map-from row (leaf 0) r j (omega arith) ∙ row-bytes file sh i l

  pub spelt-head : (c : ℕ) → c < cells sh → get_or (spelt old file sh r).heads c 0 ≡ number_at 2 file (head_at old c)
  unfolding spelt
  spelt-head c h = get_or-map-from (λ c. number_at 2 file (head_at old c)) 0 (cells sh) c h

  pub spelt-heads : length (spelt old file sh r).heads ≡ cells sh
  unfolding spelt
  spelt-heads = simp (length-map, length_from)

-- ---- an accepted file

-- R41: how many operation rows a file counts, the set that it spells with a shape, and with its own.
abbrev pub rows_in : List ℕ → ℕ
rows_in file = number_at 2 file (count_at old)

abbrev pub set_with : List ℕ → Shape → TransferSet
set_with file sh = spelt old file sh (rows_in file)

abbrev pub set_in : List ℕ → TransferSet
set_in file = set_with file (shape_at old file)

-- The number of rows, from the count of cells and the count in the file.
pub total_is : (file : List ℕ) (shape : B.Shape) (C k : ℕ) → shape_of shape ≡ shape_at old file → C ≡ cells (shape_of shape)
    → k ≡ rows_in file → 2 + C + k ≡ length (set_in file).tab
total_is file shape C k p c q =
    let z : C ≡ cells (shape_at old file) = c ∙ ap cells p in
    omega (arith, spelt-length file (shape_at old file) (rows_in file))

-- R41: a file of a shape is as long as its count says, and counts few enough rows.
abbrev pub Whole : List ℕ → Shape → Type 0
Whole file sh = Sized file sh (rows_in file)

-- R49: the file is accepted.
abbrev pub Taken : List ℕ → Type 0
Taken file = Accepted old file (shape_at old file) (rows_in file)

module _ (file : List ℕ) (a : Taken file) where
  abbrev sh : Shape
  sh = shape_at old file

  pub taken_sized : Sized file sh (rows_in file)
  taken_sized = record { size = a.size; room = a.room }

  pub taken_proper : Proper old (set_in file)
  taken_proper = accepted_proper old file sh (rows_in file) a

  pub taken-canonical : Canonical (cells sh) (set_in file).tab
  taken-canonical = rw (spelt-shape file sh (rows_in file)) at taken_proper.canonical

  pub taken-read : read_set old file ≡ granted (set_in file)
  taken-read = accepted-read old file sh (rows_in file) a

  pub taken-header : header_end old ≤ length file
  taken-header = (header-granted old old.set_mark file sh a.header).long
