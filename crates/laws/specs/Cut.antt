-- What `tset` reads and lends is enough: no byte of a program file from 34,312 on matters, and the file of a set of 8,192 rows has at
-- most 40,957 bytes.
-- Two files that agree below m take a reader the same way as long as it stays below m; each stage tells how far it goes.
use Prim.Native.Nat.{ℕ, zero, suc, ◌+◌, ◌-◌, ◌*◌, ◌≤◌, ◌<◌}
use Rattle.std.specs.Prelude.{◌≡◌, Bool, true, false, not, ◌&&◌, List, length, get_or, take, drop, leb, ltb, eqb}
use Rattle.std.proofs.Math.Path.{refl, fun_ext}
use Rattle.std.proofs.Common.{ap, length-append, length-drop, take_all, length-take-le, get_or-take}
use native.Mathlib.Omega.{arith}
use Rattle.std.proofs.Math.Decide.{dec_lt}
use borrow.Author.Tests.{leb-false, ltb-false, le-ltb, lt-ltb, lt-leb}
use Rattle.rules.specs.Verdict.{Verdict, granted, refuse_if, ◌>>=◌}
use Rattle.rules.specs.Lists.{number_at, bytes_of}
use Rattle.rules.specs.Edition.{old, count_at, most_instrs}
use Rattle.rules.specs.Shape.{Shape, vars, cells, shape_at, read_header}
use Rattle.rules.specs.Expr.{Exp, Read, Announced, leaf, one, two, bad, announced, read_operands, read_expr}
use Rattle.rules.specs.ProgramFile.{Program, Form, alone, with_expr, with_var, with_label, unknown, codes, form_of}
use Rattle.rules.specs.ProgramFile.{writable, entry_at, body_at, read_body, read_instr, read_instrs, read_program}
use Rattle.rules.specs.Sets.{Heads}
use Rattle.rules.specs.Build.{transfer}
use Rattle.rules.specs.SetFile.{TransferSet, leaves, row_bytes, write_set, read_set}
use Rattle.rules.specs.Room.{heads_to_build}
use Rattle.rules.specs.Operations.{set_of, program_set, write_into, finish, build}
use Rattle.rules.specs.Lines.{answer_text, tset}
use Rattle.laws.specs.Verdict.{Grants, grants, refuses, grants_self, grants_bind, grants_check, within}
use Rattle.laws.specs.Canonical.{Proper}
use Rattle.laws.specs.Bytes.{length-bytes, length-table}
use Rattle.laws.specs.Shape.{length-header, shape-limits}
use Rattle.laws.specs.Fits.{length-row}
use Rattle.laws.specs.ProgramFile.{read-wellformed, read-shape}
use Rattle.laws.specs.After.{Stands}
use Rattle.laws.specs.Transfer.{transfer-stands}
use Rattle.laws.specs.Squeeze.{squeeze-few}
use Rattle.laws.specs.Compose.{set_of_proper}
use Rattle.laws.specs.ExactRows.{EndFits, BuildFits, build-granted_exactly}

-- ---- chains that go on alike

-- Two chains with the same first part are the same if their rests are, on whatever that part hands back.
bind_same : {A B : Type 0} {Q : A → Type 0} {v : Verdict A} {g h : A → Verdict B} → Grants Q v → ((x : A) → Q x → g x ≡ h x)
    → (v >>= g) ≡ (v >>= h)
bind_same (grants {a = x} q) e = e x q
bind_same refuses e = refl

-- The rests may use that the check before them found nothing.
check_same : {B : Type 0} (t : Bool) (n p : ℕ) (g h : Unit {0} → Verdict B) → (t ≡ false → g tt ≡ h tt)
    → (refuse_if t n p >>= g) ≡ (refuse_if t n p >>= h)
check_same true n p g h e = refl
check_same false n p g h e = e refl

-- ---- how far a reader goes

-- What was read, if anything, ends by a place.
abbrev Ends : {A : Type 0} → ℕ → Verdict (Read A) → Type 0
Ends stop v = Grants (λ r. r.next ≤ stop) v

ends : {A : Type 0} {r : Read A} (stop : ℕ) → r.next ≤ stop → Ends stop (granted r)
ends stop h = grants h

-- R11: an expression ends by `stop`.
operands_end : (a : Announced) (p stop : ℕ) (rec : ℕ → Verdict (Read Exp)) → p < stop
    → ((q : ℕ) → Ends stop (rec q)) → Ends stop (read_operands a p rec)
operands_end (leaf x) p stop rec h ih = grants h
operands_end one p stop rec h ih = grants_bind (ih (suc p)) λ x e. grants e
operands_end (two o) p stop rec h ih = grants_bind (ih (suc p)) λ x _. grants_bind (ih x.next) λ y e. grants e
operands_end bad p stop rec h ih = refuses

expr_end : (k : ℕ) (file : List ℕ) (v stop p : ℕ) → Ends stop (read_expr k file v stop p)
unfolding read_expr
expr_end zero file v stop p = refuses
expr_end (suc k) file v stop p =
    grants_check (leb stop p) _ _ _ λ q.
    grants_check (leb (length file) p) _ _ _ λ _.
    operands_end (announced v (get_or file p 0)) p stop (read_expr k file v stop) (leb-false stop p q) (expr_end k file v stop)

-- R10, R11: a body has at most 65 bytes.
body_end : (file : List ℕ) (sh : Shape) (n i p : ℕ) (x : Form) → Ends (p + 65) (read_body old file sh n i p x)
body_end file sh n i p (alone x) = ends _ (omega arith)
body_end file sh n i p (with_expr g) =
    grants_bind (expr_end 64 file (vars sh) (suc p + 64) (suc p)) λ x h.
    ends _ (omega arith)
body_end file sh n i p (with_var g) =
    grants_check (leb (length file) (suc p)) _ _ _ λ _.
    grants_check (not (writable sh (get_or file (suc p) 0))) _ _ _ λ _.
    ends _ (omega arith)
body_end file sh n i p (with_label g) =
    let l = number_at 2 file (suc p) in
    grants_check (ltb (length file) (suc p + 2)) _ _ _ λ _.
    grants_check (not (ltb i l && ltb l n)) _ _ _ λ _.
    ends _ (omega arith)
body_end file sh n i p unknown = refuses

instr_end : (file : List ℕ) (sh : Shape) (n i p : ℕ) → Ends (p + 65) (read_instr old file sh n i p)
unfolding read_instr
instr_end file sh n i p =
    grants_check (not (eqb (body_at old file n i) p)) _ _ _ λ _.
    grants_check (leb (length file) p) _ _ _ λ _.
    body_end file sh n i p (form_of codes (get_or file p 0))

instrs_end : (file : List ℕ) (sh : Shape) (n k p : ℕ) → Ends (p + 65 * k) (read_instrs old file sh n k p)
unfolding read_instrs
instrs_end file sh n zero p = ends _ (omega arith)
instrs_end file sh n (suc k) p =
    grants_bind (instr_end file sh n (n - suc k) p) λ x h.
    grants_bind (instrs_end file sh n k x.next) λ xs l.
    ends _ (omega arith)

-- ---- two files that agree

-- Both have at least m bytes, and the first m are the same.
record Agree (m : ℕ) (a b : List ℕ) : Type 0 where
  long_a : m ≤ length a
  long_b : m ≤ length b
  same : (i : ℕ) → i < m → get_or a i 0 ≡ get_or b i 0

module _ {m : ℕ} {a b : List ℕ} (s : Agree m a b) where
  -- R5: numbers below m are the same.
  number_same : (k p : ℕ) → p + k ≤ m → number_at k a p ≡ number_at k b p
  unfolding number_at
  number_same zero p h = refl
  number_same (suc k) p h = rw (s.same p (omega arith), number_same k (suc p) (omega arith))

  -- R48: neither file ends below m.
  unended : (p : ℕ) → p < m → (leb (length a) p ≡ false) × (leb (length b) p ≡ false)
  unended p h = (lt-leb (length a) p (omega (arith, s.long_a)), lt-leb (length b) p (omega (arith, s.long_b)))

  reached : (p : ℕ) → p ≤ m → (ltb (length a) p ≡ false) × (ltb (length b) p ≡ false)
  reached p h = (le-ltb (length a) p (omega (arith, s.long_a)), le-ltb (length b) p (omega (arith, s.long_b)))

  -- R7: a header.
  header-same : (mark : ℕ) → 7 ≤ m → read_header old mark a ≡ read_header old mark b
  unfolding read_header shape_at number_at
  header-same mark h = rw (
    (reached 7 h).0,
    (reached 7 h).1,
    s.same 0 (omega arith),
    s.same 1 (omega arith),
    s.same 2 (omega arith),
    s.same 3 (omega arith),
    s.same 4 (omega arith),
  )

  -- R11: an expression that must end by m.
  expr_same : (k v stop p : ℕ) → stop ≤ m → read_expr k a v stop p ≡ read_expr k b v stop p
  unfolding read_expr
  expr_same zero v stop p h = refl
  expr_same (suc k) v stop p h =
      check_same (leb stop p) _ _ _ _ λ q.
      let l : p < m = omega (arith, leb-false stop p q) in
      rw ((unended p l).0, (unended p l).1, s.same p l, fun_ext (λ x. expr_same k v stop x h))

  -- R10: a body.
  body_same : (sh : Shape) (n i p : ℕ) (x : Form) → p + 65 ≤ m → read_body old a sh n i p x ≡ read_body old b sh n i p x
  body_same sh n i p (alone x) h = refl
  body_same sh n i p (with_expr g) h = rw (expr_same 64 (vars sh) (suc p + 64) (suc p) (omega arith))
  body_same sh n i p (with_var g) h =
      let l : suc p < m = omega arith in
      rw ((unended (suc p) l).0, (unended (suc p) l).1, s.same (suc p) l)
  body_same sh n i p (with_label g) h =
      let l : suc p + 2 ≤ m = omega arith in
      rw ((reached (suc p + 2) l).0, (reached (suc p + 2) l).1, number_same 2 (suc p) l)
  body_same sh n i p unknown h = refl

  -- R9: an instruction, whose entry stands below m too.
  instr_same : (sh : Shape) (n i p : ℕ) → entry_at old i + 2 ≤ m → p + 65 ≤ m → read_instr old a sh n i p ≡ read_instr old b sh n i p
  unfolding read_instr
  instr_same sh n i p e h =
      let l : p < m = omega arith in
      rw (
        number_same 2 (entry_at old i) e,
        (unended p l).0,
        (unended p l).1,
        s.same p l,
        body_same sh n i p (form_of codes (get_or b p 0)) h,
      )

  -- R9: k of them.
  instrs-same : (sh : Shape) (n k p : ℕ) → k ≤ n → entry_at old n ≤ m → p + 65 * k ≤ m
      → read_instrs old a sh n k p ≡ read_instrs old b sh n k p
  unfolding read_instrs
  instrs-same sh n zero p c e h = refl
  instrs-same sh n (suc k) p c e h =
      let i = n - suc k in
      rw (instr_same sh n i p (omega arith) (omega arith))
      (bind_same (instr_end b sh n i p) λ x l.
      rw (instrs-same sh n k x.next (omega arith) e (omega arith)))

-- ---- a program file

-- R8: 512 instructions end by 34,311, so both files have a byte after the last body (4), or are refused before it for the same reason.
program-same : {a b : List ℕ} → Agree 34312 a b → read_program old a ≡ read_program old b
unfolding read_program
program-same {a} {b} s =
    let n = number_at 2 b (count_at old) in
    rw (header-same s 1 (omega arith), number_same s 2 (count_at old) (omega arith))
    (bind_same (grants_self (read_header old 1 b)) λ sh _.
    check_same (not (leb 1 n && leb n most_instrs)) _ _ _ _ λ q.
    let few : n ≤ 512 = (within 1 n n most_instrs q).1 in
    let l : entry_at old n ≤ 34312 = omega arith in
    let (ra, rb) = reached s (entry_at old n) l in
    rw (ra, rb, instrs-same s sh n n (entry_at old n) (omega arith) l (omega arith))
    (bind_same (instrs_end b sh n n (entry_at old n)) λ xs h.
    rw (
      lt-ltb xs.next (length a) (omega (arith, s.long_a)),
      lt-ltb xs.next (length b) (omega (arith, s.long_b)),
    )))

-- R64: no byte from 34,312 on changes what is read of a file.
pub cut_read : (file : List ℕ) → read_program old (take 34312 file) ≡ read_program old file
cut_read file = elim (dec_lt (length file) 34312) [
  | yes h ↦ ap (read_program old) (take_all 34312 file (omega arith))
  | no h ↦
      let l : 34312 ≤ length file = omega arith in
      program-same (record {
        long_a = omega (arith, length-take-le 34312 file l);
        long_b = l;
        same = λ i p. get_or-take 34312 file i 0 p;
      })
]

-- R64: nor what is built, in any room.
pub cut_build : (file : List ℕ) (rows numbers heads out : ℕ)
    → build old (take 34312 file) rows numbers heads out ≡ build old file rows numbers heads out
unfolding build
cut_build file rows numbers heads out = rw (cut_read file)

-- R64: so `tset` prints what is built of its whole input.
pub cut_tset : (input : List ℕ) → tset input ≡ answer_text (build old input 8192 8192 16384 40957 >>= read_set old)
unfolding tset
cut_tset input = rw (cut_build input 8192 8192 16384 40957)

-- ---- a set file

-- R41: the length of a set's file, and R64: it has room where its table has.
pub length-set : (z : TransferSet) → Proper old z → length (write_set old z) + 3 * leaves z.shape ≡ 3 + 5 * length z.tab
unfolding write_set
length-set z p =
    let rows = drop (leaves z.shape) z.tab in
    let heads = length-table (bytes_of 2) 2 (length-bytes 2) z.heads in
    let ops = length-table row_bytes 5 length-row rows in
    simp (length-append, length-header, heads, ops, p.count)
    (omega (arith, length-drop (leaves z.shape) z.tab, p.canonical.long))

pub short-never : (z : TransferSet) → Proper old z → length z.tab ≤ 8192 → length (write_set old z) ≤ 40957
short-never z p h = omega (arith, length-set z p)

-- R36: the set given by heads has no more rows than their table.
set-few : (sh : Shape) (h : Heads) → Stands (cells sh) h → length (set_of sh h).tab ≤ length h.tab
unfolding set_of
set-few sh h H = squeeze-few H

-- R59, R64: so the output of `tset` is long enough for what is built where its rows are enough.
output_enough : (file : List ℕ) (P : Program) → read_program old file ≡ granted P → length (transfer P).tab ≤ 8192
    → length (write_set old (program_set P)) ≤ 40957
output_enough file P r t =
    let S = transfer-stands P (read-wellformed old file P r) in
    let proper = set_of_proper P.shape (transfer P) S old (read-shape old file P r) (omega arith) in
    short-never (program_set P) proper (omega (arith, set-few P.shape (transfer P) S))

-- Its rows are more than constants and cells.
rows_enough : (file : List ℕ) (P : Program) → read_program old file ≡ granted P → leaves P.shape ≤ 8192
rows_enough file P r =
    let limits = shape-limits old P.shape (read-shape old file P r) in
    omega (arith, limits.shallow, limits.most)

-- R59, R64: in the room of `tset` only the heads and the rows of the table can be too few; the output is never too short.
pub build-fixed : (file : List ℕ) → build old file 8192 8192 16384 40957 ≡ do
  P ← read_program old file
  _ ← refuse_if (ltb 16384 (heads_to_build P)) 10 0
  _ ← refuse_if (ltb 8192 (length (transfer P).tab)) 10 8192
  granted (write_set old (program_set P))
unfolding build finish write_into
build-fixed file =
    bind_same (grants_self (read_program old file)) λ P r.
    rw (le-ltb 8192 (leaves P.shape) (rows_enough file P r))
    (check_same (ltb 16384 (heads_to_build P)) 10 0 _ _ λ _.
    check_same (ltb 8192 (length (transfer P).tab)) 10 8192
    (λ _. write_into old (length (transfer P).tab) 40957 (program_set P)) (λ _. granted (write_set old (program_set P))) λ q.
    let few = ltb-false 8192 (length (transfer P).tab) q in
    rw (le-ltb 40957 (length (write_set old (program_set P))) (output_enough file P r few)))

-- R64: so where the heads and the rows suffice, the set is built.
pub build-enough : (file : List ℕ) (P : Program) → read_program old file ≡ granted P → heads_to_build P ≤ 16384
    → length (transfer P).tab ≤ 8192
    → build old file 8192 8192 16384 40957 ≡ granted (write_set old (program_set P))
build-enough file P r h t =
    let ends : EndFits old P.shape 8192 40957 (transfer P) = record { table = omega arith; output = output_enough file P r t } in
    let fits : BuildFits old P 8192 8192 16384 40957 = record {
      begins = rows_enough file P r;
      numbered = omega arith;
      headed = h;
      ends = ends;
    } in
    (build-granted_exactly old file 8192 8192 16384 40957 (write_set old (program_set P))).1 (P, r, fits, refl)
