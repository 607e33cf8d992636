-- No reader answers refusal 10 or 11: these are about room and the budget, and a reader judges what was handed in.
use Rattle.std.specs.Prelude.{ℕ, zero, suc, ◌+◌, ◌-◌, ◌≡◌, refl, Bool, true, false, not, ◌&&◌, ◌||◌, List, length, get_or, leb, ltb, eqb}
use Rattle.rules.specs.Verdict.{Verdict, granted, refused, refuse_if, ◌>>=◌}
use Rattle.rules.specs.Lists.{seek, number_at}
use Rattle.rules.specs.Edition.{Edition, count_at, header_end, most_instrs, most_rows}
use Rattle.rules.specs.Shape.{Shape, vars, cells, check_shape, shape_at, read_header}
use Rattle.rules.specs.Expr.{Exp, Read, Announced, leaf, one, two, bad, announced, read_operands, read_expr}
use Rattle.rules.specs.Instr.{END}
use Rattle.rules.specs.ProgramFile.{Form, alone, with_expr, with_var, with_label, unknown, codes, form_of, writable, read_body}
use Rattle.rules.specs.ProgramFile.{entry_at, body_at, read_instr, read_instrs, is_end, read_program}
use Rattle.rules.specs.SetFile.{TransferSet, leaves, row_place, spelt, fits, named, check_rows, read_set}
use Rattle.rules.specs.Operations.{check_storage}
use Rattle.laws.specs.Verdict.{no_false, never-refused, same_refusal, cases_bind, cases_check}

-- A refusal that judges what was handed in: it is about neither room nor the budget.
abbrev pub Judging : ℕ → Type 0
Judging n = (n ≡ 10 → ⊥) × (n ≡ 11 → ⊥)

-- All refusals of a verdict are such.
abbrev pub Judges : {A : Type 0} → Verdict A → Type 0
Judges v = (n p : ℕ) → v ≡ refused n p → Judging n

-- ---- chains of checks that judge

-- Whether a number is neither 10 nor 11.
abbrev pub apart : ℕ → Bool
apart n = not (eqb n 10 || eqb n 11)

pub judging : (n : ℕ) → apart n ≡ true → Judging n
judging n a = (λ q. no_false (rw q at a), λ q. no_false (rw q at a))

-- Nothing refused; a refusal; a verdict and the rest; a check and the rest; a last check.
judges-granted : {A : Type 0} (a : A) → Judges (granted a)
judges-granted a n p e = absurd (never-refused e)

judges_so : {A : Type 0} (n p : ℕ) → Judging n → Judges {A = A} (refused n p)
judges_so n p j m q e = rw (same_refusal e).0 at j

judges-refused : {A : Type 0} (n p : ℕ) → apart n ≡ true → Judges {A = A} (refused n p)
judges-refused n p a = judges_so n p (judging n a)

judges_bind : {A B : Type 0} (m : Verdict A) (g : A → Verdict B) → Judges m → ((a : A) → Judges (g a)) → Judges (m >>= g)
judges_bind m g j h = cases_bind Judges m g (λ n p q. judges_so n p (j n p q)) (λ a q. h a)

judges_check : {B : Type 0} (t : Bool) (n p : ℕ) (g : Unit {0} → Verdict B) → apart n ≡ true → Judges (g tt)
    → Judges (refuse_if t n p >>= g)
judges_check t n p g a h = cases_check Judges t n p g (λ q. judges-refused n p a) (λ q. h)

judges-last : (t : Bool) (n p : ℕ) → apart n ≡ true → Judges (refuse_if t n p)
judges-last true n p a = judges-refused n p a
judges-last false n p a = judges-granted tt

-- ---- the readers

pub shape-judges : (e : Edition) (sh : Shape) → Judges (check_shape e sh)
shape-judges e sh =
    judges_check (not (leb 2 sh.depth && leb sh.depth 16)) 3 1 _ refl
    (judges-last (not (leb 1 (vars sh) && leb (vars sh) e.most_vars)) 3 2 refl)

pub header-judges : (e : Edition) (mark : ℕ) (file : List ℕ) → Judges (read_header e mark file)
unfolding read_header
header-judges e mark file =
    judges_check (ltb (length file) (header_end e)) 1 _ _ refl
    (judges_check (not (eqb (get_or file 0 0) mark)) 2 0 _ refl
    (judges_bind (check_shape e (shape_at e file)) _ (shape-judges e (shape_at e file)) (λ u. judges-granted _)))

operands_judge : (a : Announced) (p : ℕ) (rec : ℕ → Verdict (Read Exp)) → ((q : ℕ) → Judges (rec q)) → Judges (read_operands a p rec)
operands_judge (leaf x) p rec h = judges-granted _
operands_judge one p rec h = judges_bind (rec (suc p)) _ (h (suc p)) (λ x. judges-granted _)
operands_judge (two o) p rec h =
    judges_bind (rec (suc p)) _ (h (suc p)) λ x. judges_bind (rec x.next) _ (h x.next) (λ y. judges-granted _)
operands_judge bad p rec h = judges-refused 6 p refl

expr_judges : (k : ℕ) (file : List ℕ) (v stop p : ℕ) → Judges (read_expr k file v stop p)
unfolding read_expr
expr_judges zero file v stop p = judges-refused 6 stop refl
expr_judges (suc k) file v stop p =
    judges_check (leb stop p) 6 stop _ refl
    (judges_check (leb (length file) p) 1 _ _ refl
    (operands_judge (announced v (get_or file p 0)) p (read_expr k file v stop) (expr_judges k file v stop)))

body_judges : (e : Edition) (file : List ℕ) (sh : Shape) (n i p : ℕ) (f : Form) → Judges (read_body e file sh n i p f)
body_judges e file sh n i p (alone x) = judges-granted _
body_judges e file sh n i p (with_expr g) =
    judges_bind (read_expr e.most_expr file (vars sh) (suc p + e.most_expr) (suc p)) _
    (expr_judges e.most_expr file (vars sh) (suc p + e.most_expr) (suc p)) (λ x. judges-granted _)
body_judges e file sh n i p (with_var g) =
    judges_check (leb (length file) (suc p)) 1 _ _ refl
    (judges_check (not (writable sh (get_or file (suc p) 0))) 7 (suc p) _ refl (judges-granted _))
body_judges e file sh n i p (with_label g) =
    let l = number_at 2 file (suc p) in
    judges_check (ltb (length file) (suc p + 2)) 1 _ _ refl
    (judges_check (not (ltb i l && ltb l n)) 8 (suc p) _ refl (judges-granted _))
body_judges e file sh n i p unknown = judges-refused 5 p refl

instr_judges : (e : Edition) (file : List ℕ) (sh : Shape) (n i p : ℕ) → Judges (read_instr e file sh n i p)
unfolding read_instr
instr_judges e file sh n i p =
    judges_check (not (eqb (body_at e file n i) p)) 4 (entry_at e i) _ refl
    (judges_check (leb (length file) p) 1 _ _ refl
    (body_judges e file sh n i p (form_of codes (get_or file p 0))))

instrs_judge : (e : Edition) (file : List ℕ) (sh : Shape) (n k p : ℕ) → Judges (read_instrs e file sh n k p)
unfolding read_instrs
instrs_judge e file sh n zero p = judges-granted _
instrs_judge e file sh n (suc k) p =
    judges_bind (read_instr e file sh n (n - suc k) p) _ (instr_judges e file sh n (n - suc k) p) λ x.
    judges_bind (read_instrs e file sh n k x.next) _ (instrs_judge e file sh n k x.next) (λ xs. judges-granted _)

pub program-judges : (e : Edition) (file : List ℕ) → Judges (read_program e file)
unfolding read_program
program-judges e file =
    let n = number_at 2 file (count_at e) in
    judges_bind (read_header e e.program_mark file) _ (header-judges e e.program_mark file) λ sh.
    judges_check (not (leb 1 n && leb n most_instrs)) 3 (count_at e) _ refl
    (judges_check (ltb (length file) (entry_at e n)) 1 (length file) _ refl
    (judges_bind (read_instrs e file sh n n (entry_at e n)) _ (instrs_judge e file sh n n (entry_at e n)) λ xs.
    judges_check (ltb xs.next (length file)) 4 xs.next _ refl
    (judges_check (not (is_end (get_or xs.got (n - 1) END))) 9 (body_at e file n (n - 1)) _ refl (judges-granted _))))

rows_judge : (e : Edition) (z : TransferSet) (r : ℕ) → Judges (check_rows e z r)
unfolding check_rows
rows_judge e z r =
    let L = leaves z.shape in
    judges_check (ltb (seek (λ c. leb (L + r) (get_or z.heads c 0)) (cells z.shape) 0) (cells z.shape)) 13 _ _ refl
    (judges_check (ltb (seek (λ j. not (fits z.tab (L + j))) r 0) r) 13 _ _ refl
    (judges-last (ltb (seek (λ j. not (named z.tab z.heads (L + j))) r 0) r) 13 _ refl))

pub set-judges : (e : Edition) (file : List ℕ) → Judges (read_set e file)
unfolding read_set
set-judges e file =
    let r = number_at 2 file (count_at e) in
    judges_bind (read_header e e.set_mark file) _ (header-judges e e.set_mark file) λ sh.
    judges_check (ltb most_rows (leaves sh + r)) 3 (count_at e) _ refl
    (judges_check (ltb (length file) (row_place e sh r)) 1 (length file) _ refl
    (judges_check (ltb (row_place e sh r) (length file)) 4 (row_place e sh r) _ refl
    (judges_bind (check_rows e (spelt e file sh r) r) _ (rows_judge e (spelt e file sh r) r) (λ u. judges-granted _))))

pub storage-judges : (C : ℕ) (storage : List ℕ) → Judges (check_storage C storage)
unfolding check_storage
storage-judges C storage =
    judges_check (not (eqb (length storage) C)) 14 (length storage) _ refl
    (judges_check (ltb (seek (λ c. ltb 1 (get_or storage c 0)) C 0) C) 14 _ _ refl (judges-granted _))
