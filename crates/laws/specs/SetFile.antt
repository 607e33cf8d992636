-- Set files: a proper set's file is accepted and reads back as the set, what is accepted is proper, and a set has one file.
use Prim.Native.Nat.{ℕ, ◌+◌, ◌*◌, ◌≤◌, ◌<◌}
use Rattle.std.specs.Prelude.{◌≡◌, refl, not, take, drop, leb, ltb}
use Rattle.std.proofs.Math.Path.{sym, ap}
use Rattle.std.proofs.Common.{◌∙◌, arith, length-append, length-drop, take-append-drop, get_or-drop}
use mathlib.Core.List.{List, [], ◌++◌, map, flat_map, append-nil}
use Rattle.std.proofs.Math.Decide.{dec_lt}
use Rattle.std.proofs.Math.ListN.{length, get_or, length-map, get_or-append, get_or-eq_default}
use Rattle.std.proofs.Math.Seq.{drop_at, take-add, take_all}
use borrow.Author.Tests.{ltb-false, leb-false, le-ltb, lt-leb}
use Rattle.rules.specs.Verdict.{granted}
use Rattle.rules.specs.Lists.{number_at, bytes_of, from}
use Rattle.rules.specs.Edition.{Edition, count_at, header_end, most_rows}
use Rattle.rules.specs.Shape.{Shape, cells, check_shape, read_header, write_header}
use Rattle.rules.specs.Rows.{Row, leaf, base, row_at}
use Rattle.rules.specs.SetFile.{TransferSet, leaves, row_bytes, write_set, head_at, row_place, row_in, spelt}
use Rattle.rules.specs.SetFile.{fits, named, check_rows, read_set}
use Rattle.laws.specs.Verdict.{bind_granted, check_granted, refuse_granted}
use Rattle.laws.specs.Canonical.{Sensible, Proper}
use Rattle.laws.specs.Lists.{length_from, map-from, get_or-map-from, search_none, search_all, none_search}
use Rattle.laws.specs.Bytes.{Bytes, bytes-append, bytes-number, bytes-table, drop-part, take-parts, length-bytes, number_read, number_write}
use Rattle.laws.specs.Bytes.{length-table, table-read, table_write}
use Rattle.laws.specs.Rule.{canonical-ready}
use Rattle.laws.specs.Rows.{length-base, base-at, base-take}
use Rattle.laws.specs.Shape.{Headed, length-header, bytes-header, header_read, header-granted, header_write}
use Rattle.laws.specs.Fits.{Fits, fits_true, true_fits, length-row, bytes-row, operation, row_read, row_write}

-- ---- the checks of heads and rows

-- The heads and rows of a proper set pass the checks.
pub proper_checked : (e : Edition) (z : TransferSet) (r : ℕ) → Proper e z → leaves z.shape + r ≡ length z.tab
    → check_rows e z r ≡ granted tt
unfolding check_rows
proper_checked e z r p n =
    let L = leaves z.shape in
    let c = p.canonical in
    let fit : (j : ℕ) → j < r → Fits z.tab (L + j) = λ j h. record {
      earlier = c.earlier (L + j) (omega arith) (omega arith);
      normal = c.normal (L + j) (omega arith) (omega arith);
      new = λ i l. c.distinct i (L + j) l (omega arith);
    } in
    rw (
      none_search (λ k. leb (L + r) (get_or z.heads k 0)) (cells z.shape)
          (λ k h. lt-leb (L + r) _ (omega (arith, p.rows k))),
      none_search (λ j. not (fits z.tab (L + j))) r (λ j h. ap not (true_fits z.tab (L + j) (omega arith) (fit j h))),
      none_search (λ j. not (named z.tab z.heads (L + j))) r
          (λ j h. ap not (p.names (L + j) (omega arith) (omega arith))),
    )

-- A set whose heads and rows pass the checks is proper.
pub checked_proper : (e : Edition) (z : TransferSet) (r : ℕ) → check_shape e z.shape ≡ granted tt
    → leaves z.shape + r ≡ length z.tab → ((i : ℕ) → i < leaves z.shape → row_at z.tab i ≡ leaf i)
    → length z.heads ≡ cells z.shape → leaves z.shape + r ≤ most_rows → check_rows e z r ≡ granted tt → Proper e z
unfolding check_rows
checked_proper e z r shaped n first count room q =
    let t = z.tab in
    let L = leaves z.shape in
    let a = check_granted _ 13 _ _ q in
    let b = check_granted _ 13 _ _ a.1 in
    let low = search_none (λ k. leb (L + r) (get_or z.heads k 0)) (cells z.shape) a.0 in
    let fit = search_all (fits t) L r b.0 in
    let name = search_all (named t z.heads) L r (refuse_granted _ 13 _ b.1) in
    record {
      shaped = shaped;
      canonical = record {
        long = omega arith;
        leaf-at = first;
        earlier = λ i l h. (fits_true t i (fit i l (omega arith))).earlier;
        normal = λ i l h. (fits_true t i (fit i l (omega arith))).normal;
        distinct = λ i j l h d. elim (dec_lt j L) [
          | yes k ↦
              let s : i ≡ j = cc (first i (omega arith), first j k) in
              omega arith
          | no k ↦ (fits_true t j (fit j (omega arith) (omega arith))).new i l d
        ];
      };
      count = count;
      rows = λ c. elim (dec_lt c (cells z.shape)) [
        | yes k ↦ omega (arith, leb-false (L + r) (get_or z.heads c 0) (low c k))
        | no k ↦ omega (arith, get_or-eq_default z.heads 0 {n = c} (omega arith))
      ];
      names = λ k l h. name k l (omega arith);
      room = omega arith;
    }

-- ---- what a file's bytes spell

-- What reading a set file of a shape sh and r operation rows has checked.
pub record Accepted (e : Edition) (file : List ℕ) (sh : Shape) (r : ℕ) : Type 0 where
  pub header : read_header e e.set_mark file ≡ granted sh
  pub counted : number_at 2 file (count_at e) ≡ r
  pub room : leaves sh + r ≤ most_rows
  pub size : length file ≡ row_place e sh r
  pub checked : check_rows e (spelt e file sh r) r ≡ granted tt

-- A file that is read has been checked, and spells what was read.
pub read-accepted : (e : Edition) (file : List ℕ) (z : TransferSet) → read_set e file ≡ granted z
    → (sh : Shape) × (r : ℕ) × Accepted e file sh r × (spelt e file sh r ≡ z)
unfolding read_set
read-accepted e file z q =
    let r = number_at 2 file (count_at e) in
    let h = bind_granted (read_header e e.set_mark file) _ q in
    let sh = h.0 in
    let a = check_granted (ltb most_rows (leaves sh + r)) 3 _ _ h.2 in
    let b = check_granted (ltb (length file) (row_place e sh r)) 1 _ _ a.1 in
    let c = check_granted (ltb (row_place e sh r) (length file)) 4 _ _ b.1 in
    let d = bind_granted (check_rows e (spelt e file sh r) r) _ c.1 in
    let accepted : Accepted e file sh r = record {
      header = h.1;
      counted = refl;
      room = ltb-false most_rows (leaves sh + r) a.0;
      size = omega (arith, ltb-false (length file) (row_place e sh r) b.0, ltb-false (row_place e sh r) (length file) c.0);
      checked = d.1;
    } in
    (sh, r, accepted, cc)

module _ (e : Edition) (file : List ℕ) (sh : Shape) (r : ℕ) where
  -- A file that passes the checks is read as what it spells.
  pub accepted-read : Accepted e file sh r → read_set e file ≡ granted (spelt e file sh r)
  unfolding read_set
  accepted-read a =
      let room = le-ltb most_rows (leaves sh + r) a.room in
      let long = le-ltb (length file) (row_place e sh r) (omega arith) in
      let short = le-ltb (row_place e sh r) (length file) (omega arith) in
      rw (a.header, a.counted, room, long, short, a.checked)

  -- The leaves of the table that a file spells.
  spelt-leaf : (i : ℕ) → i < leaves sh → row_at (spelt e file sh r).tab i ≡ leaf i
  unfolding spelt
  spelt-leaf i h =
      let k : i < length (base (cells sh)) = omega (arith, length-base (cells sh)) in
      rw get_or-append (base-at (cells sh) i h)

  -- How many rows a file spells.
  length-spelt : leaves sh + r ≡ length (spelt e file sh r).tab
  unfolding spelt
  length-spelt = simp (length-append, length-base, length-map, length_from)

  -- A file that passes the checks spells a proper set.
  pub accepted_proper : Accepted e file sh r → Proper e (spelt e file sh r)
  unfolding spelt
  accepted_proper a =
      let shaped = (header-granted e e.set_mark file sh a.header).shaped in
      checked_proper e (spelt e file sh r) r shaped length-spelt spelt-leaf (simp (length-map, length_from)) a.room
      a.checked

  -- Operation row j of those that a file spells.
  abbrev spelt_row : ℕ → Row
  spelt_row j = row_in file (row_place e sh j)

  -- The operation rows that a file spells.
  spelt-rows : drop (leaves sh) (spelt e file sh r).tab ≡ map spelt_row (from 0 r)
  unfolding spelt
  spelt-rows = drop_at (base (cells sh)) (map spelt_row (from 0 r)) (leaves sh) (length-base (cells sh))

  -- The bytes of an operation row that a file spells are those in the file, if it passes the checks.
  spelt-bytes : Bytes file → Accepted e file sh r → (j : ℕ) → j < r
      → row_bytes (spelt_row j) ≡ take 5 (drop (row_place e sh j) file)
  unfolding spelt
  spelt-bytes b a j h =
      let t = (spelt e file sh r).tab in
      let row = sym (get_or-drop (leaves sh) t j (leaf 0)) ∙ ap (λ l. get_or l j (leaf 0)) spelt-rows
      ∙ get_or-map-from spelt_row (leaf 0) r j h in
      let normal = (accepted_proper a).canonical.normal (leaves sh + j) (omega arith) (omega (arith, length-spelt)) in
      row_write t file b (row_place e sh j) (omega arith) (rw row at normal)

  -- A file that passes the checks is the file of the set that it spells.
  pub accepted_write : Bytes file → Accepted e file sh r → write_set e (spelt e file sh r) ≡ file
  unfolding write_set spelt
  accepted_write b a =
      let C = cells sh in
      let H = header_end e in
      let header = header_write e e.set_mark sh r file b (header-granted e e.set_mark file sh a.header) a.counted in
      let head : ℕ → ℕ = λ k. number_at 2 file (head_at e k) in
      let heads = table_write (bytes_of 2) head 2 H file C (λ k h. number_write file b 2 (head_at e k) (omega arith)) in
      let rows = table_write row_bytes spelt_row 5 (head_at e C) file r (spelt-bytes b a) in
      let all = take_all (H + (2 * C + 5 * r)) file (omega arith) in
      rw (spelt-rows, length-map, length_from, header, heads, rows, take-parts, ← take-add H (2 * C + 5 * r) file) all

-- ---- a proper set in its file

-- The operation rows of a set.
abbrev operations : TransferSet → List Row
operations z = drop (leaves z.shape) z.tab

module _ (e : Edition) (z : TransferSet) (p : Proper e z) (file : List ℕ)
    (body : drop (header_end e) file ≡ flat_map (bytes_of 2) z.heads ++ flat_map row_bytes (operations z)) where
  -- The head of a cell is read where it was written.
  head_read : (k : ℕ) → k < length z.heads → number_at 2 file (head_at e k) ≡ get_or z.heads k 0
  head_read k h =
      let at = table-read (bytes_of 2) 2 (length-bytes 2) z.heads k (header_end e) 0 file
      (flat_map row_bytes (operations z)) h body in
      number_read 2 (get_or z.heads k 0) (head_at e k) file _ (omega (arith, p.rows k, p.room)) at

  -- An operation row is read where it was written.
  operation-read : (j : ℕ) → j < length (operations z) → row_in file (row_place e z.shape j) ≡ get_or (operations z) j (leaf 0)
  operation-read j h =
      let sh = z.shape in
      let i = leaves sh + j in
      let n = length-drop (leaves sh) z.tab in
      let wide = length-table (bytes_of 2) 2 (length-bytes 2) z.heads ∙ ap (λ k. 2 * k) p.count in
      let rows = flat_map row_bytes (operations z) in
      let after = drop-part file (header_end e) (2 * cells sh) (flat_map (bytes_of 2) z.heads) rows wide body
      ∙ sym (append-nil rows) in
      let at = table-read row_bytes 5 length-row (operations z) j (head_at e (cells sh)) (leaf 0) file [] h after in
      let o = operation i (row_at z.tab i) (canonical-ready p.canonical i (omega arith) (omega arith)) in
      row_read i (row_place e sh j) (get_or (operations z) j (leaf 0)) file _ (omega arith) (rw get_or-drop o) at

  -- What the file spells is the set.
  spelt-read : spelt e file z.shape (length (operations z)) ≡ z
  unfolding spelt
  spelt-read =
      let head : ℕ → ℕ = λ k. number_at 2 file (head_at e k) in
      let heads = ap (λ k. map head (from 0 k)) (sym p.count) ∙ map-from head 0 z.heads head_read in
      let rows = map-from (λ j. row_in file (row_place e z.shape j)) (leaf 0) (operations z) operation-read in
      rw (heads, rows, base-take p.canonical, take-append-drop)

-- ---- the three laws

-- A proper set's file is accepted and reads back as the set.
pub read_write : (e : Edition) → Sensible e → (z : TransferSet) → Proper e z → read_set e (write_set e z) ≡ granted z
unfolding write_set
read_write e s z p =
    let sh = z.shape in
    let r = length (operations z) in
    let body = flat_map (bytes_of 2) z.heads ++ flat_map row_bytes (operations z) in
    let file = write_set e z in
    let n : leaves sh + r ≡ length z.tab = omega (arith, length-drop (leaves sh) z.tab) in
    let headed : Headed e e.set_mark sh r body file = header_read e s e.set_mark sh r body p.shaped (omega arith) in
    let is = spelt-read e z p file headed.rest in
    let heads = length-table (bytes_of 2) 2 (length-bytes 2) z.heads in
    let rows = length-table row_bytes 5 length-row (operations z) in
    let accepted : Accepted e file sh r = record {
      header = headed.is;
      counted = headed.count;
      room = omega arith;
      size = simp (length-append, length-header, heads, rows, p.count) (omega arith);
      checked = ap (λ y. check_rows e y r) is ∙ proper_checked e z r p n;
    } in
    accepted-read e file sh r accepted ∙ ap granted is

-- What is accepted is a proper set.
pub read_proper : (e : Edition) (file : List ℕ) (z : TransferSet) → read_set e file ≡ granted z → Proper e z
read_proper e file z q =
    let (sh, r, a, is) = read-accepted e file z q in
    rw is at (accepted_proper e file sh r a)

-- A set has one file.
pub write_read : (e : Edition) (file : List ℕ) → Bytes file → (z : TransferSet) → read_set e file ≡ granted z
    → write_set e z ≡ file
write_read e file b z q =
    let (sh, r, a, is) = read-accepted e file z q in
    rw is at (accepted_write e file sh r b a)

-- The file of a set of an allowed shape is bytes, if the mark of sets is one.
pub bytes-set : (e : Edition) → e.set_mark < 256 → (z : TransferSet) → check_shape e z.shape ≡ granted tt → Bytes (write_set e z)
unfolding write_set
bytes-set e m z c =
    let header = write_header e e.set_mark z.shape (length (operations z)) in
    let heads = flat_map (bytes_of 2) z.heads in
    let rows = flat_map row_bytes (operations z) in
    bytes-append header (heads ++ rows) (bytes-header e e.set_mark z.shape (length (operations z)) m c)
    (bytes-append heads rows (bytes-table (bytes_of 2) (bytes-number 2) z.heads) (bytes-table row_bytes bytes-row (operations z)))
