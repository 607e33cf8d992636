-- Where an accepted program's instruction i stands: at the place its entry gives, so it can be decoded there without a walk.
use Rattle.std.specs.Prelude.{ℕ, zero, suc, ◌+◌, ◌-◌, ◌≤◌, ◌<◌, ◌≡◌, refl, not, List, ◌∷◌, length, get_or, leb, ltb, eqb}
use Rattle.std.proofs.Common.{sym, ap, arith, zero-add, add-zero, add-suc, suc-add, eqb-true, leb-false, ltb-false}
use Rattle.std.proofs.lemmas.Bool.{not-false}
use Rattle.rules.specs.Verdict.{granted}
use Rattle.rules.specs.Lists.{number_at}
use Rattle.rules.specs.Edition.{Edition, count_at, most_instrs}
use Rattle.rules.specs.Shape.{Shape, vars, shape_at, read_header}
use Rattle.rules.specs.Expr.{Exp, Read, read_expr}
use Rattle.rules.specs.Instr.{Instr, plain, END}
use Rattle.rules.specs.ProgramFile.{Program, Form, alone, with_expr, with_var, with_label, unknown, codes, form_of, is_end}
use Rattle.rules.specs.ProgramFile.{entry_at, body_at, read_body, read_instr, read_instrs, read_program}
use Rattle.laws.specs.Shape.{header-granted}
use Rattle.laws.specs.Verdict.{Grants, grants, refuses, grants_of, grants_self, grants-map, grants_bind, grants_check, grants-within}

-- What the bytes at p, whose code has a form, say of instruction x, number i of n.
abbrev pub Says : Edition → List ℕ → Shape → ℕ → ℕ → ℕ → Instr → Form → Type 0
Says e file sh n i p x (alone y) = x ≡ y
Says e file sh n i p x (with_expr g) =
    (y : Read Exp) × (read_expr e.most_expr file (vars sh) (suc p + e.most_expr) (suc p) ≡ granted y) × (x ≡ plain (g y.got))
Says e file sh n i p x (with_var g) = (suc p < length file) × (get_or file (suc p) 0 < vars sh) × (x ≡ plain (g (get_or file (suc p) 0)))
Says e file sh n i p x (with_label g) =
    (suc p + 2 ≤ length file) × (i < number_at 2 file (suc p)) × (number_at 2 file (suc p) < n) × (x ≡ g (number_at 2 file (suc p)))
Says e file sh n i p x unknown = ⊥

body_says : (e : Edition) (file : List ℕ) (sh : Shape) (n i p : ℕ) (m : Form)
    → Grants (λ r. Says e file sh n i p r.got m) (read_body e file sh n i p m)
body_says e file sh n i p (alone y) = grants refl
body_says e file sh n i p (with_expr g) =
    grants_bind (grants_self (read_expr e.most_expr file (vars sh) (suc p + e.most_expr) (suc p))) λ y q.
    grants (y, q, refl)
body_says e file sh n i p (with_var g) =
    let b = get_or file (suc p) 0 in
    grants_check (leb (length file) (suc p)) _ _ _ λ q.
    grants-within sh.inputs b (suc b) (vars sh) _ _ _ λ _ k.
    grants (leb-false (length file) (suc p) q, k, refl)
body_says e file sh n i p (with_label g) =
    let l = number_at 2 file (suc p) in
    grants_check (ltb (length file) (suc p + 2)) _ _ _ λ q.
    grants-within (suc i) l (suc l) n _ _ _ λ a b.
    grants (ltb-false (length file) (suc p + 2) q, a, b, refl)
body_says e file sh n i p unknown = refuses

-- Instruction x, number i of n, is what the bytes say where its entry leads.
pub record Stands (e : Edition) (file : List ℕ) (sh : Shape) (n i : ℕ) (x : Instr) : Type 0 where
  pub inside : body_at e file n i < length file
  pub says : Says e file sh n i (body_at e file n i) x (form_of codes (get_or file (body_at e file n i) 0))

instr_stands : (e : Edition) (file : List ℕ) (sh : Shape) (n i p : ℕ) → Grants (λ r. Stands e file sh n i r.got) (read_instr e file sh n i p)
unfolding read_instr
instr_stands e file sh n i p =
    grants_check (not (eqb (body_at e file n i) p)) _ _ _ λ q.
    grants_check (leb (length file) p) _ _ _ λ h.
    let at : body_at e file n i ≡ p = eqb-true (body_at e file n i) p (not-false (eqb (body_at e file n i) p) q) in
    grants-map (body_says e file sh n i p (form_of codes (get_or file p 0))) λ x s.
    record { inside = omega (arith, leb-false (length file) p h); says = rw at s }

-- The last k of n instructions, of which i come before, stand where their entries lead.
pub instrs_stand : (e : Edition) (file : List ℕ) (sh : Shape) (n k i p : ℕ) → i + k ≡ n
    → Grants (λ r. (j : ℕ) → j < k → Stands e file sh n (i + j) (get_or r.got j END)) (read_instrs e file sh n k p)
unfolding read_instrs
instrs_stand e file sh n zero i p h = grants (λ j l. absurd (omega arith))
instrs_stand e file sh n (suc k) i p h =
    let q : n - suc k ≡ i = omega arith in
    grants_bind (instr_stands e file sh n (n - suc k) p) λ x f.
    grants_bind (instrs_stand e file sh n k (suc i) x.next (omega arith)) λ xs g.
    grants (at x.got xs.got (rw q at f) g)
  where
    at : (x : Instr) (xs : List Instr) → Stands e file sh n i x → ((j : ℕ) → j < k → Stands e file sh n (suc i + j) (get_or xs j END))
        → (j : ℕ) → j < suc k → Stands e file sh n (i + j) (get_or (x ∷ xs) j END)
    at x xs f g zero l = rw add-zero f
    at x xs f g (suc j) l = rw (add-suc, ← suc-add i j) (g j (omega arith))

-- What is known of an accepted program's bytes: its shape, count and contents are there, and every instruction stands where its entry leads.
pub record Decodes (e : Edition) (file : List ℕ) (P : Program) : Type 0 where
  pub shaped : shape_at e file ≡ P.shape
  pub counted : number_at 2 file (count_at e) ≡ length P.instrs
  pub contents : entry_at e (length P.instrs) ≤ length file
  pub stands : (i : ℕ) → i < length P.instrs → Stands e file P.shape (length P.instrs) i (get_or P.instrs i END)

instrs-count : (e : Edition) (file : List ℕ) (sh : Shape) (n k p : ℕ) → Grants (λ r. length r.got ≡ k) (read_instrs e file sh n k p)
unfolding read_instrs
instrs-count e file sh n zero p = grants refl
instrs-count e file sh n (suc k) p =
    grants_bind (grants_self (read_instr e file sh n (n - suc k) p)) λ x _.
    grants_bind (instrs-count e file sh n k x.next) λ xs c.
    grants (ap suc c)

decodes : (e : Edition) (file : List ℕ) → Grants (Decodes e file) (read_program e file)
unfolding read_program
decodes e file =
    let n = number_at 2 file (count_at e) in
    grants_bind (grants_self (read_header e e.program_mark file)) λ sh k.
    grants-within 1 n n most_instrs _ _ _ λ _ _.
    grants_check (ltb (length file) (entry_at e n)) _ _ _ λ c.
    grants_bind (grants_self (read_instrs e file sh n n (entry_at e n))) λ xs q.
    grants_check (ltb xs.next (length file)) _ _ _ λ _.
    grants_check (not (is_end (get_or xs.got (n - 1) END))) _ _ _ λ _.
    let count : length xs.got ≡ n = grants_of (instrs-count e file sh n n (entry_at e n)) q in
    let stand = grants_of (instrs_stand e file sh n n 0 (entry_at e n) (zero-add n)) q in
    grants (record {
      shaped = (header-granted e e.program_mark file sh k).is;
      counted = sym count;
      contents = rw count (ltb-false (length file) (entry_at e n) c);
      stands = λ i h. rw count (rw zero-add at (stand i (omega arith)));
    })

-- An accepted program decodes.
pub read-decodes : (e : Edition) (file : List ℕ) (P : Program) → read_program e file ≡ granted P → Decodes e file P
read-decodes e file P q = grants_of (decodes e file) q
