-- What a program that was read from a file is known to be: well formed, and of a shape that was checked.
-- Each reader's law says what it hands back, and follows the reader's own text check by check.
use Rattle.std.specs.Prelude.{ℕ, zero, suc, ◌+◌, ◌-◌, ◌≤◌, ◌<◌, ◌≡◌, refl, Bool, true, false, cond, not, List, [], ◌∷◌, length, get_or, leb, ltb, eqb}
use Rattle.std.proofs.Common.{arith, add-zero, add-suc, suc-add, zero-add, ltb-true}
use Rattle.rules.specs.Verdict.{Verdict, granted}
use Rattle.rules.specs.Lists.{or_else, number_at}
use Rattle.rules.specs.Edition.{Edition, count_at, most_instrs}
use Rattle.rules.specs.Shape.{Shape, vars, check_shape, read_header}
use Rattle.rules.specs.Expr.{Exp, Read, Announced, leaf, one, two, bad, announced, read_operands, read_expr}
use Rattle.rules.specs.Instr.{Instr, END}
use Rattle.rules.specs.ProgramFile.{Program, Form, alone, with_expr, with_var, with_label, unknown, codes, form_of, is_end}
use Rattle.rules.specs.ProgramFile.{entry_at, body_at, read_body, read_instr, read_instrs, read_program}
use Rattle.laws.specs.Verdict.{Grants, grants, refuses, grants_of, grants_self, grants_bind, grants_check, grants-within}
use Rattle.laws.specs.Shape.{shape-limits, header-granted}
use Rattle.laws.specs.Canonical.{Over, Names, Fine, WellFormed}

-- If a leaf is announced, its cell is below v.
abbrev Leaves : ℕ → Announced → Type 0
Leaves v (leaf x) = Over v x
Leaves v one = Unit {0}
Leaves v (two o) = Unit {0}
Leaves v bad = Unit {0}

-- A first byte announces a variable only if it is below v.
announced-leaves : (v b : ℕ) → Leaves v (announced v b)
unfolding announced
announced-leaves v b =
    choose (ltb b v) _ _ (ltb-true b v) λ _.
    choose (eqb b 250) _ _ (λ _. tt) λ _.
    choose (eqb b 251) _ _ (λ _. tt) λ _.
    choose (eqb b 252) _ _ (λ _. tt) λ _.
    choose (eqb b 253) _ _ (λ _. tt) λ _.
    choose (eqb b 254) _ _ (λ _. tt) λ _.
    tt
  where
    choose : (t : Bool) (x y : Announced) → (t ≡ true → Leaves v x) → (t ≡ false → Leaves v y) → Leaves v (cond t x y)
    choose true x y g h = g refl
    choose false x y g h = h refl

-- The rest of an expression keeps below v if the operands do.
operands-over : (v : ℕ) (a : Announced) (p : ℕ) (rec : ℕ → Verdict (Read Exp)) → Leaves v a
    → ((p : ℕ) → Grants (λ r. Over v r.got) (rec p)) → Grants (λ r. Over v r.got) (read_operands a p rec)
operands-over v (leaf x) p rec h ih = grants h
operands-over v one p rec h ih = grants_bind (ih (suc p)) λ x e. grants e
operands-over v (two o) p rec h ih = grants_bind (ih (suc p)) λ x e. grants_bind (ih x.next) λ y k. grants (e, k)
operands-over v bad p rec h ih = refuses

-- An expression that was read has all its cells below v.
pub expr_over : (k : ℕ) (file : List ℕ) (v stop p : ℕ) → Grants (λ r. Over v r.got) (read_expr k file v stop p)
unfolding read_expr
expr_over zero file v stop p = refuses
expr_over (suc k) file v stop p =
    let b = get_or file p 0 in
    grants_check (leb stop p) _ _ _ λ _.
    grants_check (leb (length file) p) _ _ _ λ _.
    operands-over v (announced v b) p (read_expr k file v stop) (announced-leaves v b) (expr_over k file v stop)

-- Instruction i of n is well formed, given that another follows it unless it is END: only the whole program tells that.
abbrev Placed : ℕ → ℕ → ℕ → Instr → Type 0
Placed v n i x = (is_end x ≡ false → suc i < n) → Fine v n i x

-- A form is good if an instruction of that form is well formed whenever its operand is.
abbrev Good : ℕ → Form → Type 0
Good v (alone x) = (n i : ℕ) → Placed v n i x
Good v (with_expr g) = (x : Exp) → Over v x → Names v (g x)
Good v (with_var g) = (b : ℕ) → b < v → Names v (g b)
Good v (with_label g) = (n i l : ℕ) → i < l → l < n → Fine v n i (g l)
Good v unknown = Unit {0}

-- Every form of a table of codes is good.
data AllGood (v : ℕ) : List (ℕ × Form) → Type 0 where
  none : AllGood v []
  more : {c : ℕ} {x : Form} {l : List (ℕ × Form)} → Good v x → AllGood v l → AllGood v ((c, x) ∷ l)

-- The codes are such a table; the search takes them one by one.
codes-good : (v : ℕ) → AllGood v codes
codes-good v = search (none, more, tt) depth 30

-- So the form of any code is good.
form_good : {v : ℕ} {l : List (ℕ × Form)} → AllGood v l → (c : ℕ) → Good v (form_of l c)
unfolding form_of
form_good none c = tt
form_good {v = v} (more {c = k} {x = x} {l = l} g h) c = go (eqb k c) (form_good h c)
  where
    go : (t : Bool) → Good v (form_of l c) → Good v (or_else t x (λ u. form_of l c))
    go true rest = g
    go false rest = rest

-- An instruction of a good form is well formed, because its operand was checked.
body_placed : (e : Edition) (file : List ℕ) (sh : Shape) (n i p : ℕ) (x : Form) → Good (vars sh) x
    → Grants (λ r. Placed (vars sh) n i r.got) (read_body e file sh n i p x)
body_placed e file sh n i p (alone x) h = grants (h n i)
body_placed e file sh n i p (with_expr g) h =
    grants_bind (expr_over e.most_expr file (vars sh) (suc p + e.most_expr) (suc p)) λ x o.
    grants λ l. (h x.got o, l refl)
body_placed e file sh n i p (with_var g) h =
    let b = get_or file (suc p) 0 in
    grants_check (leb (length file) (suc p)) _ _ _ λ _.
    grants-within sh.inputs b (suc b) (vars sh) _ _ _ λ _ k.
    grants λ l. (h b k, l refl)
body_placed e file sh n i p (with_label g) h =
    let t = number_at 2 file (suc p) in
    grants_check (ltb (length file) (suc p + 2)) _ _ _ λ _.
    grants-within (suc i) t (suc t) n _ _ _ λ a b.
    grants λ l. h n i t a b
body_placed e file sh n i p unknown h = refuses

-- Instructions numbered from i up to n, each well formed.
record Laid (v n i : ℕ) (xs : List Instr) : Type 0 where
  ends : i + length xs ≡ n
  placed : (j : ℕ) → Placed v n (i + j) (get_or xs j END)

-- One more well-formed instruction in front.
laid_more : {v n i : ℕ} {x : Instr} {xs : List Instr} → Placed v n i x → Laid v n (suc i) xs → Laid v n i (x ∷ xs)
laid_more {v = v} {n = n} {i = i} {x = x} {xs = xs} f l = record { ends = omega arith; placed = go }
  where
    go : (j : ℕ) → Placed v n (i + j) (get_or (x ∷ xs) j END)
    go zero = rw add-zero f
    go (suc j) = rw (add-suc, ← suc-add i j) (l.placed j)

-- An instruction that was read is well formed, because every code has a good form.
instr_placed : (e : Edition) (file : List ℕ) (sh : Shape) (n i p : ℕ)
    → Grants (λ r. Placed (vars sh) n i r.got) (read_instr e file sh n i p)
unfolding read_instr
instr_placed e file sh n i p =
    grants_check (not (eqb (body_at e file n i) p)) _ _ _ λ _.
    grants_check (leb (length file) p) _ _ _ λ _.
    body_placed e file sh n i p (form_of codes (get_or file p 0)) (form_good (codes-good (vars sh)) (get_or file p 0))

-- The last k instructions of n are those from i on, and each is well formed.
instrs_laid : (e : Edition) (file : List ℕ) (sh : Shape) (n k i p : ℕ) → i + k ≡ n
    → Grants (λ r. Laid (vars sh) n i r.got) (read_instrs e file sh n k p)
unfolding read_instrs
instrs_laid e file sh n zero i p h = grants (record { ends = h; placed = λ j l. tt })
instrs_laid e file sh n (suc k) i p h =
    let q : n - suc k ≡ i = omega arith in
    grants_bind (instr_placed e file sh n (n - suc k) p) λ x f.
    grants_bind (instrs_laid e file sh n k (suc i) x.next (omega arith)) λ xs l.
    grants (laid_more (rw q at f) l)

-- Instructions with END last are a well-formed program: one that is not END is not the last, so another follows it.
wellformed : (e : Edition) (P : Program) (n : ℕ) → check_shape e P.shape ≡ granted tt → 1 ≤ n → n ≤ most_instrs
    → Laid (vars P.shape) n 0 P.instrs → not (is_end (get_or P.instrs (n - 1) END)) ≡ false → WellFormed P
wellformed e P n s a b l q =
    let m : length P.instrs ≡ n = omega arith in
    record {
      deep = (shape-limits e P.shape s).deep;
      some = omega arith;
      most = omega arith;
      fine = λ i h. rw m (rw zero-add at (l.placed i (next i (omega arith))));
    }
  where
    next : (i : ℕ) → i < n → is_end (get_or P.instrs i END) ≡ false → suc (0 + i) < n
    next i h t =
        let not_last : i ≡ n - 1 → ⊥ = λ z. let o : ◌≡◌ {A = ℕ} 0 1 = cc in omega arith in
        omega arith

-- Both facts about a program that is read, from one walk through the reader.
read-grants : (e : Edition) (file : List ℕ)
    → Grants (λ P. WellFormed P × (check_shape e P.shape ≡ granted tt)) (read_program e file)
unfolding read_program
read-grants e file =
    let n = number_at 2 file (count_at e) in
    grants_bind (grants_self (read_header e e.program_mark file)) λ sh q.
    let s = (header-granted e e.program_mark file sh q).shaped in
    grants-within 1 n n most_instrs _ _ _ λ a b.
    grants_check (ltb (length file) (entry_at e n)) _ _ _ λ _.
    grants_bind (instrs_laid e file sh n n 0 (entry_at e n) (zero-add n)) λ xs l.
    grants_check (ltb xs.next (length file)) _ _ _ λ _.
    grants_check (not (is_end (get_or xs.got (n - 1) END))) _ _ _ λ q.
    grants (wellformed e (record { shape = sh; instrs = xs.got }) n s a b l q, s)

-- A program that was read is well formed.
pub read-wellformed : (e : Edition) (file : List ℕ) (P : Program) → read_program e file ≡ granted P → WellFormed P
read-wellformed e file P h = (grants_of (read-grants e file) h).0

-- A program that was read has a shape that was checked.
pub read-shape : (e : Edition) (file : List ℕ) (P : Program) → read_program e file ≡ granted P
    → check_shape e P.shape ≡ granted tt
read-shape e file P h = (grants_of (read-grants e file) h).1
