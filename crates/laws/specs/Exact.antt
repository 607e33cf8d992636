-- The answer of scanning, evaluating and writing the unchanging set, exactly: a reader's refusal, or one for room or the budget, or what is
-- handed back. Building and composing, which add rows, are in ExactRows.
use Rattle.std.specs.Prelude.{ℕ, ◌≤◌, ◌<◌, ◌≡◌, Bool, List, [], ◌↔◌, length, ltb}
use Rattle.std.proofs.Math.Path.{refl}
use Rattle.std.proofs.Common.{sym, ap, subst, ◌∙◌, arith}
use borrow.Author.Tests.{ltb-true, ltb-false, lt-ltb, le-ltb}
use Rattle.rules.specs.Verdict.{Verdict, granted, refused}
use Rattle.rules.specs.Edition.{Edition}
use Rattle.rules.specs.Shape.{Shape, cells, check_shape}
use Rattle.rules.specs.ProgramFile.{Program, read_program}
use Rattle.rules.specs.Machine.{due, stopped, run, Scanned, scan_program}
use Rattle.rules.specs.SetFile.{TransferSet, leaves, write_set, read_set}
use Rattle.rules.specs.Room.{values_to_evaluate}
use Rattle.rules.specs.Operations.{check_storage, scan, evaluate_set, unchanging_set, write_into, evaluate, write_unchanging}
use Rattle.laws.specs.Verdict.{never-refused, same_refusal, same_grant, cases_bind, cases_check}
use Rattle.laws.specs.Machine.{scan-whole, scan-refused, scan_spent, scan-stops}
use Rattle.laws.specs.Judges.{Judging, program-judges, set-judges, storage-judges, shape-judges}

-- ---- refusals 10 and 11

-- Refusal k is given exactly at the places of R; and it is never given.
abbrev pub Exactly : {A : Type 0} → ℕ → (ℕ → Type 0) → Verdict A → Type 0
Exactly k R v = (p : ℕ) → (v ≡ refused k p) ↔ R p

abbrev pub Never : {A : Type 0} → ℕ → Verdict A → Type 0
Never k v = (p : ℕ) → v ≡ refused k p → ⊥

-- What kind of answer it is: granted, with G of what is handed back; a refusal that judges what was handed in; or refusal k, at a place of R.
pub data Kind {A : Type 0} (G : A → Type 0) (k : ℕ) (R : ℕ → Type 0) : Verdict A → Type 0 where
  gives : {a : A} → G a → Kind G k R (granted a)
  judges : {n p : ℕ} → Judging n → Kind G k R (refused n p)
  own : {p : ℕ} → R p → Kind G k R (refused k p)

module _ {A : Type 0} {G : A → Type 0} {k : ℕ} {R : ℕ → Type 0} where
  pub kind-gives : {v : Verdict A} → Kind G k R v → (a : A) → v ≡ granted a → G a
  kind-gives (gives g) a e = subst G (same_grant e) g
  kind-gives (judges j) a e = absurd (never-refused (sym e))
  kind-gives (own r) a e = absurd (never-refused (sym e))

  -- Refusal k, where it does not judge, is at a place of R; and another that does not judge is never given.
  pub kind-own : {v : Verdict A} → (Judging k → ⊥) → Kind G k R v → (p : ℕ) → v ≡ refused k p → R p
  kind-own f (gives g) p e = absurd (never-refused e)
  kind-own f (judges j) p e = absurd (f (rw (same_refusal e).0 at j))
  kind-own f (own r) p e = subst R (same_refusal e).1 r

  pub kind-never : {m : ℕ} {v : Verdict A} → (Judging m → ⊥) → (k ≡ m → ⊥) → Kind G k R v → Never m v
  kind-never f g (gives h) p e = never-refused e
  kind-never f g (judges j) p e = f (rw (same_refusal e).0 at j)
  kind-never f g (own r) p e = g (same_refusal e).0

-- 10 and 11 do not judge.
pub room-only : Judging 10 → ⊥
room-only j = j.0 refl

pub budget_only : Judging 11 → ⊥
budget_only j = j.1 refl

-- ---- evaluating

-- What a set file and a storage are accepted as.
pub record OnSet (e : Edition) (file storage : List ℕ) : Type 0 where
  pub set : TransferSet
  pub bits : List Bool
  pub read-set : read_set e file ≡ granted set
  pub read-bits : check_storage (cells set.shape) storage ≡ granted bits

-- R54, R57: fewer values than the set has rows.
pub data EvaluateRoom (z : TransferSet) (lent : ℕ) : ℕ → Type 0 where
  few-values : lent < values_to_evaluate z → EvaluateRoom z lent 0

-- R51, R57: the file's refusals, the storage's, then room; then the set evaluated on the storage.
pub data EvaluateAnswers (e : Edition) (file storage : List ℕ) (lent : ℕ) : Verdict (List Bool) → Type 0 where
  of_file : {n p : ℕ} → read_set e file ≡ refused n p → EvaluateAnswers e file storage lent (refused n p)
  of_storage : {n p : ℕ} (z : TransferSet) → read_set e file ≡ granted z → check_storage (cells z.shape) storage ≡ refused n p
      → EvaluateAnswers e file storage lent (refused n p)
  of_room : {p : ℕ} (o : OnSet e file storage) → EvaluateRoom o.set lent p → EvaluateAnswers e file storage lent (refused 10 p)
  evaluated : (o : OnSet e file storage) → values_to_evaluate o.set ≤ lent
      → EvaluateAnswers e file storage lent (granted (evaluate_set o.set o.bits))

module _ (e : Edition) (file storage : List ℕ) (lent : ℕ) where
  evaluate_answers : EvaluateAnswers e file storage lent (evaluate e file storage lent)
  unfolding evaluate
  evaluate_answers =
      let S = EvaluateAnswers e file storage lent in
      cases_bind S (read_set e file) _ (λ n p q. of_file q) λ z r.
      cases_bind S (check_storage (cells z.shape) storage) _ (λ n p q. of_storage z r q) λ s c.
      let o : OnSet e file storage = record { set = z; bits = s; read-set = r; read-bits = c } in
      cases_check S (ltb lent (values_to_evaluate z)) 10 0 _ (λ a. of_room o (few-values (ltb-true _ _ a)))
      (λ a. evaluated o (ltb-false lent (values_to_evaluate z) a))

  -- The answer of evaluating, exactly.
  pub evaluate_exactly : (v : Verdict (List Bool)) → (evaluate e file storage lent ≡ v) ↔ EvaluateAnswers e file storage lent v
  unfolding evaluate
  evaluate_exactly v = (λ q. rw (sym q) evaluate_answers, back)
    where
      back : {v : Verdict (List Bool)} → EvaluateAnswers e file storage lent v → evaluate e file storage lent ≡ v
      back (of_file q) = rw q
      back (of_storage z r q) = rw (r, q)
      back (of_room o (few-values a)) = rw (o.read-set, o.read-bits, lt-ltb lent (values_to_evaluate o.set) a)
      back (evaluated o a) = rw (o.read-set, o.read-bits, le-ltb lent (values_to_evaluate o.set) a)

  evaluate-kind : {v : Verdict (List Bool)} → EvaluateAnswers e file storage lent v
      → Kind (λ v. (o : OnSet e file storage) × (values_to_evaluate o.set ≤ lent) × (v ≡ evaluate_set o.set o.bits))
      10 (λ p. (o : OnSet e file storage) × EvaluateRoom o.set lent p) v
  evaluate-kind (of_file q) = judges (set-judges e file _ _ q)
  evaluate-kind (of_storage z r q) = judges (storage-judges _ storage _ _ q)
  evaluate-kind (of_room o a) = own (o, a)
  evaluate-kind (evaluated o a) = gives (o, a, refl)

  -- Room: 10 exactly where the file is accepted, the storage fits and fewer values are lent than there are rows. Never 11.
  pub evaluate-room_exactly : Exactly 10 (λ p. (o : OnSet e file storage) × EvaluateRoom o.set lent p) (evaluate e file storage lent)
  evaluate-room_exactly p =
      (kind-own room-only (evaluate-kind evaluate_answers) p, λ (o, a). (evaluate_exactly (refused 10 p)).1 (of_room o a))

  pub evaluate_no_budget : Never 11 (evaluate e file storage lent)
  evaluate_no_budget = kind-never budget_only (λ q. omega arith) (evaluate-kind evaluate_answers)

  -- Granted exactly where the file is accepted, the storage fits and there is room.
  pub evaluate-granted_exactly : (v : List Bool) → (evaluate e file storage lent ≡ granted v)
      ↔ ((o : OnSet e file storage) × (values_to_evaluate o.set ≤ lent) × (v ≡ evaluate_set o.set o.bits))
  evaluate-granted_exactly v =
      (kind-gives (evaluate-kind evaluate_answers) v, λ (o, a, w). (evaluate_exactly _).1 (evaluated o a) ∙ ap granted (sym w))

-- ---- writing the unchanging set

-- R58, R59: the output is shorter than the set's file.
pub data UnchangingRoom (e : Edition) (sh : Shape) (out : ℕ) : ℕ → Type 0 where
  short-output : out < length (write_set e (unchanging_set sh)) → UnchangingRoom e sh out (leaves sh)

-- R58: the shape's refusals, then room; then the set's file.
pub data UnchangingAnswers (e : Edition) (sh : Shape) (out : ℕ) : Verdict (List ℕ) → Type 0 where
  of_shape : {n p : ℕ} → check_shape e sh ≡ refused n p → UnchangingAnswers e sh out (refused n p)
  of_room : {p : ℕ} → check_shape e sh ≡ granted tt → UnchangingRoom e sh out p → UnchangingAnswers e sh out (refused 10 p)
  wrote : check_shape e sh ≡ granted tt → length (write_set e (unchanging_set sh)) ≤ out
      → UnchangingAnswers e sh out (granted (write_set e (unchanging_set sh)))

module _ (e : Edition) (sh : Shape) (out : ℕ) where
  unchanging_answers : UnchangingAnswers e sh out (write_unchanging e sh out)
  unfolding write_unchanging write_into
  unchanging_answers =
      let S = UnchangingAnswers e sh out in
      cases_bind S (check_shape e sh) _ (λ n p q. of_shape q) λ u c.
      cases_check S (ltb out (length (write_set e (unchanging_set sh)))) 10 (leaves sh) _ (λ a. of_room c (short-output (ltb-true _ _ a)))
      (λ a. wrote c (ltb-false out (length (write_set e (unchanging_set sh))) a))

  -- The answer of writing the unchanging set, exactly.
  pub unchanging_exactly : (v : Verdict (List ℕ)) → (write_unchanging e sh out ≡ v) ↔ UnchangingAnswers e sh out v
  unfolding write_unchanging write_into
  unchanging_exactly v = (λ q. rw (sym q) unchanging_answers, back)
    where
      back : {v : Verdict (List ℕ)} → UnchangingAnswers e sh out v → write_unchanging e sh out ≡ v
      back (of_shape q) = rw q
      back (of_room c (short-output a)) = rw (c, lt-ltb out (length (write_set e (unchanging_set sh))) a)
      back (wrote c a) = rw (c, le-ltb out (length (write_set e (unchanging_set sh))) a)

  unchanging-kind : {v : Verdict (List ℕ)} → UnchangingAnswers e sh out v
      → Kind (λ bytes. (check_shape e sh ≡ granted tt) × (length (write_set e (unchanging_set sh)) ≤ out) × (bytes ≡ write_set e (unchanging_set sh)))
      10 (λ p. (check_shape e sh ≡ granted tt) × UnchangingRoom e sh out p) v
  unchanging-kind (of_shape q) = judges (shape-judges e sh _ _ q)
  unchanging-kind (of_room c a) = own (c, a)
  unchanging-kind (wrote c a) = gives (c, a, refl)

  -- Room: 10 exactly where the shape is allowed and the output is shorter than the set's file. Never 11.
  pub unchanging-room_exactly : Exactly 10 (λ p. (check_shape e sh ≡ granted tt) × UnchangingRoom e sh out p) (write_unchanging e sh out)
  unchanging-room_exactly p =
      (kind-own room-only (unchanging-kind unchanging_answers) p, λ (c, a). (unchanging_exactly (refused 10 p)).1 (of_room c a))

  pub unchanging_no_budget : Never 11 (write_unchanging e sh out)
  unchanging_no_budget = kind-never budget_only (λ q. omega arith) (unchanging-kind unchanging_answers)

  -- Granted exactly where the shape is allowed and the output holds the set's file.
  pub unchanging-granted_exactly : (bytes : List ℕ) → (write_unchanging e sh out ≡ granted bytes)
      ↔ ((check_shape e sh ≡ granted tt) × (length (write_set e (unchanging_set sh)) ≤ out) × (bytes ≡ write_set e (unchanging_set sh)))
  unchanging-granted_exactly bytes =
      (kind-gives (unchanging-kind unchanging_answers) bytes, λ (c, a, w). (unchanging_exactly _).1 (wrote c a) ∙ ap granted (sym w))

-- ---- scanning

-- What a program file and a storage are accepted as.
pub record OnProgram (e : Edition) (file storage : List ℕ) : Type 0 where
  pub program : Program
  pub bits : List Bool
  pub read-program : read_program e file ≡ granted program
  pub read-bits : check_storage (cells program.shape) storage ≡ granted bits

-- R25: after so many steps the machine has not stopped, and instruction p is due.
pub data Spent (P : Program) (s : List Bool) (budget : ℕ) : ℕ → Type 0 where
  still-due : {p : ℕ} (t : List Bool) (r : List ℕ) → run P budget (due 0 s []) ≡ due p t r → Spent P s budget p

-- R24, R25: the machine stops within the budget, after so many steps and not sooner, with the storage.
pub record Stops (P : Program) (s : List Bool) (budget : ℕ) (y : Scanned) : Type 0 where
  pub within : y.steps ≤ budget
  pub at_stop : run P y.steps (due 0 s []) ≡ stopped y.storage
  pub not-sooner : (j : ℕ) → j < y.steps → (t : List Bool) → run P j (due 0 s []) ≡ stopped t → ⊥

-- R25, R51: the file's refusals, the storage's, then the budget; then the steps and the storage at the stop.
pub data ScanAnswers (e : Edition) (file storage : List ℕ) (budget : ℕ) : Verdict Scanned → Type 0 where
  of_file : {n p : ℕ} → read_program e file ≡ refused n p → ScanAnswers e file storage budget (refused n p)
  of_storage : {n p : ℕ} (P : Program) → read_program e file ≡ granted P → check_storage (cells P.shape) storage ≡ refused n p
      → ScanAnswers e file storage budget (refused n p)
  of_budget : {p : ℕ} (o : OnProgram e file storage) → Spent o.program o.bits budget p
      → ScanAnswers e file storage budget (refused 11 p)
  scanned : (o : OnProgram e file storage) (y : Scanned) → Stops o.program o.bits budget y
      → ScanAnswers e file storage budget (granted y)

module _ (e : Edition) (file storage : List ℕ) (budget : ℕ) where
  scan_answers : ScanAnswers e file storage budget (scan e file storage budget)
  unfolding scan
  scan_answers =
      let S = ScanAnswers e file storage budget in
      cases_bind S (read_program e file) _ (λ n p q. of_file q) λ P r.
      cases_bind S (check_storage (cells P.shape) storage) _ (λ n p q. of_storage P r q) λ s c.
      go (record { program = P; bits = s; read-program = r; read-bits = c }) (scan_program P budget s) refl
    where
      go : (o : OnProgram e file storage) (v : Verdict Scanned) → scan_program o.program budget o.bits ≡ v
          → ScanAnswers e file storage budget v
      go o (granted y) q =
          let c = scan-whole o.program budget o.bits y q in
          scanned o y (record { within = omega (arith, c.most); at_stop = c.stops; not-sooner = c.not-sooner })
      go o (refused n p) q =
          let d = scan-refused o.program budget 0 (due 0 o.bits []) n p q in
          rw d.number (of_budget o (still-due d.storage d.returns d.after))

  -- The answer of scanning, exactly.
  pub scan_exactly : (v : Verdict Scanned) → (scan e file storage budget ≡ v) ↔ ScanAnswers e file storage budget v
  unfolding scan
  scan_exactly v = (λ q. rw (sym q) scan_answers, back)
    where
      back : {v : Verdict Scanned} → ScanAnswers e file storage budget v → scan e file storage budget ≡ v
      back (of_file q) = rw q
      back (of_storage P r q) = rw (r, q)
      back (of_budget o (still-due {p = p} t r a)) =
          rw (o.read-program, o.read-bits) (scan_spent o.program budget 0 (due 0 o.bits []) p t r a)
      back (scanned o y w) =
          rw (o.read-program, o.read-bits)
          (scan-stops o.program budget y.steps (due 0 o.bits []) y.storage w.at_stop w.not-sooner w.within)

  scan-kind : {v : Verdict Scanned} → ScanAnswers e file storage budget v
      → Kind (λ y. (o : OnProgram e file storage) × Stops o.program o.bits budget y)
      11 (λ p. (o : OnProgram e file storage) × Spent o.program o.bits budget p) v
  scan-kind (of_file q) = judges (program-judges e file _ _ q)
  scan-kind (of_storage P r q) = judges (storage-judges _ storage _ _ q)
  scan-kind (of_budget o a) = own (o, a)
  scan-kind (scanned o y w) = gives (o, w)

  -- The budget: 11 exactly where the file is accepted, the storage fits and the budget is spent. Never 10.
  pub scan_budget_exactly : Exactly 11 (λ p. (o : OnProgram e file storage) × Spent o.program o.bits budget p)
      (scan e file storage budget)
  scan_budget_exactly p =
      (kind-own budget_only (scan-kind scan_answers) p, λ (o, a). (scan_exactly (refused 11 p)).1 (of_budget o a))

  pub scan_no_room : Never 10 (scan e file storage budget)
  scan_no_room = kind-never room-only (λ q. omega arith) (scan-kind scan_answers)

  -- Granted exactly where the file is accepted, the storage fits and the machine stops within the budget.
  pub scan-granted_exactly : (y : Scanned) → (scan e file storage budget ≡ granted y)
      ↔ ((o : OnProgram e file storage) × Stops o.program o.bits budget y)
  scan-granted_exactly y = (kind-gives (scan-kind scan_answers) y, λ (o, w). (scan_exactly (granted y)).1 (scanned o y w))
