-- Set files: writing, and reading in the order in which the rules refuse.
use Rattle.std.specs.Prelude.{ℕ, suc, ◌+◌, ◌*◌, Bool, true, false, cond, not, ◌&&◌, length, get_or, drop, leb, ltb, eqb}
use mathlib.Core.List.{List, [], ◌∷◌, ◌++◌, map, flat_map}
use Rattle.rules.specs.Verdict.{Verdict, granted, refuse_if, ◌>>=◌}
use Rattle.rules.specs.Lists.{number_at, bytes_of, from, elem, refuse_first}
use Rattle.rules.specs.Edition.{Edition, count_at, header_end, most_rows}
use Rattle.rules.specs.Shape.{Shape, cells, read_header, write_header}
use Rattle.rules.specs.Rows.{Row, leaf, inv, bin, base, row_at, kind, left, right, same, Plan, have, make, plan, find}
use Rattle.rules.specs.Sets.{operands}

-- R31: a set: a shape, a table that begins with the constants and cells, and a head for each cell.
pub record TransferSet : Type 0 where
  pub shape : Shape
  pub tab : List Row
  pub heads : List ℕ

-- R26: how many rows come before the operation rows.
abbrev pub leaves : Shape → ℕ
leaves sh = 2 + cells sh

-- R42: the five bytes of an operation row.
abbrev pub row_bytes : Row → List ℕ
row_bytes r = kind r ∷ (bytes_of 2 (left r) ++ bytes_of 2 (right r))

-- R41: the file of a set.
unfoldable pub write_set : Edition → TransferSet → List ℕ
write_set e z =
    let rows = drop (leaves z.shape) z.tab in
    write_header e e.set_mark z.shape (length rows) ++ (flat_map (bytes_of 2) z.heads ++ flat_map row_bytes rows)

-- R41: where the head of cell c and the operation row j (counted from 0) stand.
abbrev pub head_at : Edition → ℕ → ℕ
head_at e c = header_end e + 2 * c

abbrev pub row_place : Edition → Shape → ℕ → ℕ
row_place e sh j = head_at e (cells sh) + 5 * j

-- R42: the row with a kind and two operands; anything else becomes the constant row 0, which `fits` refuses.
unfoldable pub row_of : ℕ → ℕ → ℕ → Row
row_of k a b = cond (eqb k 1 && eqb b 0) (inv a) (cond (eqb k 2) (bin true a b) (cond (eqb k 3) (bin false a b) (leaf 0)))

-- R42: the row whose five bytes begin at p.
abbrev pub row_in : List ℕ → ℕ → Row
row_in file p = row_of (get_or file p 0) (number_at 2 file (p + 1)) (number_at 2 file (p + 3))

-- R41: the set of a shape and r operation rows that a file's bytes spell.
unfoldable pub spelt : Edition → List ℕ → Shape → ℕ → TransferSet
spelt e file sh r = record {
  shape = sh;
  tab = base (cells sh) ++ map (λ j. row_in file (row_place e sh j)) (from 0 r);
  heads = map (λ c. number_at 2 file (head_at e c)) (from 0 (cells sh));
}

-- R43: whether all numbers of a list are below k.
unfoldable pub all_below : ℕ → List ℕ → Bool
all_below k [] = true
all_below k (x ∷ xs) = ltb x k && all_below k xs

-- R43: whether a plan is to make that very row.
abbrev pub makes : Plan → Row → Bool
makes (have i) r = false
makes (make q) r = same q r

-- R43: whether the rule could have appended row k there: operands earlier, nothing folds, no equal row before it.
unfoldable pub fits : List Row → ℕ → Bool
fits t k = all_below k (operands (row_at t k)) && (makes (plan t (row_at t k)) (row_at t k) && eqb (find t (row_at t k)) k)

-- R44: whether a head or a later row names row k.
unfoldable pub named : List Row → List ℕ → ℕ → Bool
named t x k = elem k (x ++ flat_map operands (drop (suc k) t))

-- R43, R44, R49: heads, then rows in order, then the lowest row that nothing names.
unfoldable pub check_rows : Edition → TransferSet → ℕ → Verdict (Unit {0})
check_rows e z r = do
  let sh = z.shape
  _ ← refuse_first (λ c. leb (leaves sh + r) (get_or z.heads c 0)) (cells sh) 13 (head_at e)
  _ ← refuse_first (λ j. not (fits z.tab (leaves sh + j))) r 13 (row_place e sh)
  refuse_first (λ j. not (named z.tab z.heads (leaves sh + j))) r 13 (row_place e sh)

-- R49: reads a set file: header, count, length, heads, rows, rows that nothing names.
unfoldable pub read_set : Edition → List ℕ → Verdict TransferSet
read_set e file = do
  sh ← read_header e e.set_mark file
  r ← granted (number_at 2 file (count_at e))
  _ ← refuse_if (ltb most_rows (leaves sh + r)) 3 (count_at e)
  _ ← refuse_if (ltb (length file) (row_place e sh r)) 1 (length file)
  _ ← refuse_if (ltb (row_place e sh r) (length file)) 4 (row_place e sh r)
  _ ← check_rows e (spelt e file sh r) r
  granted (spelt e file sh r)
