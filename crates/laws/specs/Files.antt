-- The laws of whole operations: what building and composing write is accepted, evaluating it is what the machine leaves, and the unchanging set gives back bytes.
use Rattle.std.specs.Prelude.{ℕ, ◌+◌, ◌-◌, ◌^◌, ◌≤◌, ◌<◌, ◌≡◌, ◌↔◌, refl, Bool, true, not, ◌||◌, List, [], map, length, get_or, ltb, eqb}
use Rattle.std.proofs.Common.{sym, ap, ◌∙◌, arith, ltb-false, eqb-true}
use Rattle.std.proofs.Math.Nat.{sub-zero}
use Rattle.std.proofs.lemmas.List.{length-map}
use Rattle.std.proofs.lemmas.Bool.{not-false}
use Rattle.rules.specs.Verdict.{granted}
use Rattle.rules.specs.Lists.{seek}
use Rattle.rules.specs.Edition.{Edition, most_rows, old}
use Rattle.rules.specs.Shape.{Shape, cells, check_shape}
use Rattle.rules.specs.ProgramFile.{Program, read_program}
use Rattle.rules.specs.Machine.{due, stopped, run, Scanned, scan_program}
use Rattle.rules.specs.Sets.{Heads}
use Rattle.rules.specs.Build.{transfer}
use Rattle.rules.specs.SetFile.{TransferSet, leaves, write_set, read_set}
use Rattle.rules.specs.Room.{room, numbers_to_build, heads_to_build, numbers_to_compose, values_to_evaluate}
use Rattle.rules.specs.Operations.{check_storage, scan, evaluate_set, set_of, program_set, composed, compose_sets, unchanging_set, write_into, finish, build, evaluate, same_shape, compose, write_unchanging}
use Rattle.laws.specs.Verdict.{bind_granted, check_granted, Grants, grants, grants_of, grants_check}
use Rattle.laws.specs.Canonical.{Sensible, Proper, WellFormed}
use Rattle.laws.specs.Bytes.{Bytes}
use Rattle.laws.specs.Shape.{shape-limits, shape_equal}
use Rattle.laws.specs.ProgramFile.{read-wellformed, read-shape}
use Rattle.laws.specs.Machine.{run_past, scan-whole}
use Rattle.laws.specs.Rows.{length-base}
use Rattle.laws.specs.After.{Stands, over}
use Rattle.laws.specs.Transfer.{transfer-stands, transfer-does}
use Rattle.laws.specs.Squeeze.{unchanging-stands}
use Rattle.laws.specs.SetFile.{read_write, read_proper, write_read, bytes-set}
use Rattle.laws.specs.Compose.{Whole, proper_whole, set_of_acts, set_of_proper, composed-stands}
use Rattle.laws.specs.Compose.{composed-before, unchanging-before, composed-after, unchanging-after}
use Rattle.laws.specs.Exact.{unchanging-granted_exactly}
use Rattle.laws.specs.ExactRows.{EndFits, Both, build-granted_exactly, compose-granted_exactly, composed_with}

-- The edition there is, is sensible.
pub old_sensible : Sensible old
old_sensible = record { counts_fit = omega arith }

-- Its mark of sets is a byte.
pub old_mark : old.set_mark < 256
old_mark = omega arith

-- ---- what is written

-- A table that was finished had room, and what was written is the file of its set.
finish-granted : (e : Edition) (sh : Shape) (rows out : ℕ) (h : Heads) (bytes : List ℕ) → finish e sh rows out h ≡ granted bytes
    → (length h.tab ≤ room rows) × (bytes ≡ write_set e (set_of sh h))
unfolding finish write_into
finish-granted e sh rows out h bytes q =
    let a = check_granted (ltb (room rows) (length h.tab)) 10 _ _ q in
    let b = check_granted (ltb out (length (write_set e (set_of sh h)))) 10 _ _ a.1 in
    (ltb-false (room rows) (length h.tab) a.0, cc)

-- So it is accepted, and reads back as that set, with the shape it was made for.
finish-read : (e : Edition) → Sensible e → (sh : Shape) (rows out : ℕ) (h : Heads) (bytes : List ℕ) → Stands (cells sh) h
    → check_shape e sh ≡ granted tt
    → finish e sh rows out h ≡ granted bytes → read_set e bytes ≡ granted (set_of sh h)
finish-read e s sh rows out h bytes H c q =
    let f = finish-granted e sh rows out h bytes q in
    ap (read_set e) f.1 ∙ read_write e s (set_of sh h) (set_of_proper sh h H e c (omega (arith, f.0)))

-- The file that building writes is accepted, and is the program's set.
pub build-accepted : (e : Edition) → Sensible e → (file : List ℕ) (rows numbers heads out : ℕ) (P : Program) (bytes : List ℕ)
    → read_program e file ≡ granted P
    → build e file rows numbers heads out ≡ granted bytes → read_set e bytes ≡ granted (program_set P)
unfolding build
build-accepted e s file rows numbers heads out P bytes p q =
    let c = check_granted (ltb rows (leaves P.shape)) 10 0 _ (rw p at q) in
    let d = check_granted (ltb numbers (numbers_to_build rows) || ltb heads (heads_to_build P)) 10 0 _ c.1 in
    finish-read e s P.shape rows out (transfer P) bytes (transfer-stands P (read-wellformed e file P p))
    (read-shape e file P p) d.1

-- Shapes that are found to be the same are equal.
pub same-shape : (a b : Shape) → same_shape a b ≡ true → a ≡ b
same-shape a b q = shape_equal a b q

-- What was composed: the two sets have one shape, and what was written is the file of their composition.
pub record Composes (e : Edition) (X Y : TransferSet) (bytes : List ℕ) : Type 0 where
  pub shape : X.shape ≡ Y.shape
  pub accepted : read_set e bytes ≡ granted (compose_sets X Y)
  pub written : bytes ≡ write_set e (compose_sets X Y)

pub compose-accepted : (e : Edition) → Sensible e
    → (first second : List ℕ) (rows numbers out : ℕ) (X Y : TransferSet) (bytes : List ℕ)
    → read_set e first ≡ granted X → read_set e second ≡ granted Y → compose e first second rows numbers out ≡ granted bytes
    → Composes e X Y bytes
unfolding compose
compose-accepted e s first second rows numbers out X Y bytes x y q =
    let c = check_granted (not (same_shape X.shape Y.shape)) 12 0 _ (rw (x, y) at q) in
    let d = check_granted (ltb rows (length X.tab)) 10 0 _ c.1 in
    let f = check_granted (ltb numbers (numbers_to_compose X Y)) 10 0 _ d.1 in
    let same : X.shape ≡ Y.shape = same-shape X.shape Y.shape (not-false (same_shape X.shape Y.shape) c.0) in
    let w = read_proper e first X x in
    let H = composed-stands X Y same (proper_whole w) (proper_whole (read_proper e second Y y)) in
    record {
      shape = same;
      accepted = finish-read e s X.shape rows out (composed X Y) bytes H w.shaped f.1;
      written = (finish-granted e X.shape rows out (composed X Y) bytes f.1).1;
    }

-- ---- evaluating is what the machine leaves

-- So many steps as the program's set stands for end with what evaluating that set gives.
stops_at : (P : Program) (w : WellFormed P) (s : List Bool) → length s ≡ cells P.shape
    → run P (transfer-does P w s).steps (due 0 s []) ≡ stopped (evaluate_set (program_set P) s)
stops_at P w s e = (transfer-does P w s).runs [] ∙ ap stopped (sym (set_of_acts P.shape (transfer P) (transfer-stands P w) s e))

-- The machine stops, within 2^n - 1 steps, with what evaluating the program's set gives.
pub record Leaves (P : Program) (s : List Bool) : Type 0 where
  pub steps : ℕ
  pub few : steps ≤ 2 ^ length P.instrs - 1
  pub stops : run P steps (due 0 s []) ≡ stopped (evaluate_set (program_set P) s)

pub program_leaves : (P : Program) → WellFormed P → (s : List Bool) → length s ≡ cells P.shape → Leaves P s
program_leaves P w s e =
    let d = transfer-does P w s in
    record { steps = d.steps; few = omega (arith, rw sub-zero at d.few); stops = stops_at P w s e }

-- So a granted scan leaves the same storage.
pub scan-leaves : (P : Program) → WellFormed P → (s : List Bool) → length s ≡ cells P.shape → (budget : ℕ) (y : Scanned)
    → scan_program P budget s ≡ granted y
    → y.storage ≡ evaluate_set (program_set P) s
scan-leaves P w s e budget y q =
    let k = (transfer-does P w s).steps in
    let c = scan-whole P budget s y q in
    let a = run_past P y.steps (y.steps + k) (due 0 s []) y.storage c.stops (omega arith) in
    let b = run_past P k (y.steps + k) (due 0 s []) (evaluate_set (program_set P) s) (stops_at P w s e) (omega arith) in
    cc (a, b)

-- A storage that is granted has as many cells as it should, and is read bit by bit.
pub record Read (C : ℕ) (storage : List ℕ) (s : List Bool) : Type 0 where
  pub long : length storage ≡ C
  pub is : s ≡ map (eqb 1) storage

pub storage-bits : (C : ℕ) (storage : List ℕ) → Grants (Read C storage) (check_storage C storage)
unfolding check_storage
storage-bits C storage =
    grants_check (not (eqb (length storage) C)) _ _ _ λ q.
    grants_check (ltb (seek (λ c. ltb 1 (get_or storage c 0)) C 0) C) _ _ _ λ _.
    grants (record { long = eqb-true (length storage) C (not-false (eqb (length storage) C) q); is = refl })

-- What a granted evaluation has read, and that it hands back what evaluating the set gives.
pub record Evaluates (e : Edition) (file storage : List ℕ) (v : List Bool) : Type 0 where
  pub set : TransferSet
  pub read : read_set e file ≡ granted set
  pub long : length storage ≡ cells set.shape
  pub is : v ≡ evaluate_set set (map (eqb 1) storage)

pub evaluate-granted : (e : Edition) (file storage : List ℕ) (lent : ℕ) (v : List Bool) → evaluate e file storage lent ≡ granted v
    → Evaluates e file storage v
unfolding evaluate
evaluate-granted e file storage lent v q =
    let (z, r, rest) = bind_granted (read_set e file) _ q in
    let (s, c, last) = bind_granted (check_storage (cells z.shape) storage) _ rest in
    let k = grants_of (storage-bits (cells z.shape) storage) c in
    let f = check_granted (ltb lent (values_to_evaluate z)) 10 0 (λ _. granted (evaluate_set z s)) last in
    record { set = z; read = r; long = k.long; is = cc k.is }

-- The same of files: where a program is built, evaluating the file written gives the storage that a granted scan leaves.
pub evaluate-is-scan : (e : Edition) → Sensible e → (file : List ℕ) (rows numbers heads out : ℕ) (bytes : List ℕ)
    → build e file rows numbers heads out ≡ granted bytes
    → (storage : List ℕ) (budget lent : ℕ) (y : Scanned) (v : List Bool) → scan e file storage budget ≡ granted y
    → evaluate e bytes storage lent ≡ granted v → v ≡ y.storage
unfolding scan set_of
evaluate-is-scan e sensible file rows numbers heads out bytes q storage budget lent y v sc ev =
    let (P, p, rest) = bind_granted (read_program e file) _ sc in
    let (s, c, r) = bind_granted (check_storage (cells P.shape) storage) _ rest in
    let set = build-accepted e sensible file rows numbers heads out P bytes p q in
    let k = grants_of (storage-bits (cells P.shape) storage) c in
    let g = evaluate-granted e bytes storage lent v ev in
    let same : g.set ≡ program_set P = cc (g.read, set) in
    g.is ∙ ap (λ z. evaluate_set z (map (eqb 1) storage)) same ∙ ap (evaluate_set (program_set P)) (sym k.is)
    ∙ sym (scan-leaves P (read-wellformed e file P p) s (rw k.is (length-map storage (eqb 1) ∙ k.long)) budget y r)

-- ---- what is written is bytes, in an edition whose mark of sets is a byte

-- What building writes is bytes.
pub build-bytes : (e : Edition) → e.set_mark < 256 → (file : List ℕ) (rows numbers heads out : ℕ) (bytes : List ℕ)
    → build e file rows numbers heads out ≡ granted bytes → Bytes bytes
unfolding set_of
build-bytes e m file rows numbers heads out bytes q =
    let (P, p, _, w) = (build-granted_exactly e file rows numbers heads out bytes).0 q in
    rw w (bytes-set e m (program_set P) (read-shape e file P p))

-- What composing writes is bytes.
pub compose-bytes : (e : Edition) → e.set_mark < 256 → (first second : List ℕ) (rows numbers out : ℕ) (bytes : List ℕ)
    → compose e first second rows numbers out ≡ granted bytes → Bytes bytes
unfolding set_of
compose-bytes e m first second rows numbers out bytes q =
    let (b, c) = (compose-granted_exactly e first second rows numbers out bytes).0 q in
    rw c.written (bytes-set e m (compose_sets b.X b.Y) (read_proper e first b.X b.read_first).shaped)

-- What writing the unchanging set writes is bytes.
pub unchanging-bytes : (e : Edition) → e.set_mark < 256 → (sh : Shape) (out : ℕ) (bytes : List ℕ)
    → write_unchanging e sh out ≡ granted bytes → Bytes bytes
unchanging-bytes e m sh out bytes q =
    let (c, _, w) = (unchanging-granted_exactly e sh out bytes).0 q in
    rw w (bytes-set e m (unchanging_set sh) c)

-- ---- the unchanging set gives back bytes

-- The unchanging set of an allowed shape, whose leaves have room, has a file.
unchanging_set_proper : (e : Edition) (sh : Shape) → check_shape e sh ≡ granted tt → leaves sh ≤ most_rows → Proper e (unchanging_set sh)
unchanging_set_proper e sh c h =
    let u = unchanging-stands (cells sh) in
    let size = length-base (cells sh) in
    record {
      shaped = c;
      canonical = u.canonical;
      count = u.count;
      rows = u.low;
      names = λ k l m. absurd (omega arith);
      room = omega arith;
    }

-- That file is accepted.
pub unchanging-accepted : (e : Edition) → Sensible e → (sh : Shape) → check_shape e sh ≡ granted tt → leaves sh ≤ most_rows
    → read_set e (write_set e (unchanging_set sh)) ≡ granted (unchanging_set sh)
unchanging-accepted e s sh c h = read_write e s (unchanging_set sh) (unchanging_set_proper e sh c h)

-- In the edition there is they have room.
pub old-leaves : (sh : Shape) → check_shape old sh ≡ granted tt → leaves sh ≤ most_rows
old-leaves sh c = let l = shape-limits old sh c in omega (arith, l.most, l.shallow)

-- The room in which a set, and its file, is held.
pub record HoldsSet (z : TransferSet) (file : List ℕ) (rows numbers out : ℕ) : Type 0 where
  pub rows_hold : length z.tab ≤ rows
  pub numbers_hold : length z.tab ≤ numbers
  pub output-holds : length file ≤ out

module _ (e : Edition) (s : Sensible e) (file : List ℕ) (b : Bytes file) (z : TransferSet)
    (r : read_set e file ≡ granted z) where
  whole : Whole z
  whole = proper_whole (read_proper e file z r)

  -- The unchanging set of the same shape has a file.
  unchanging_proper : Proper e (unchanging_set z.shape)
  unchanging_proper =
      let p = read_proper e file z r in
      unchanging_set_proper e z.shape p.shaped (omega (arith, p.room, p.canonical.long))

  -- Its file.
  abbrev still : List ℕ
  still = write_set e (unchanging_set z.shape)

  -- It is accepted.
  still_read : read_set e still ≡ granted (unchanging_set z.shape)
  still_read = read_write e s (unchanging_set z.shape) unchanging_proper

  -- Two files that compose to the set are composed exactly where the set is held, and the set's bytes are written.
  module _ (first second : List ℕ) (pair : Both e first second) (one-shape : pair.X.shape ≡ pair.Y.shape)
      (same : composed pair.X pair.Y ≡ over z.tab z.heads) (is : compose_sets pair.X pair.Y ≡ z)
      (few : length pair.X.tab ≤ length z.tab) (many : numbers_to_compose pair.X pair.Y ≡ length z.tab) where
    size : length (composed pair.X pair.Y).tab ≡ length z.tab
    size = ap (λ (h : Heads). length h.tab) same

    given_back : write_set e (compose_sets pair.X pair.Y) ≡ file
    given_back = ap (write_set e) is ∙ write_read e file b z r

    to_itself : (rows numbers out : ℕ) (bytes : List ℕ) → (compose e first second rows numbers out ≡ granted bytes)
        ↔ (HoldsSet z file rows numbers out × (bytes ≡ file))
    to_itself rows numbers out bytes = (there, back)
      where
        long : length (write_set e (compose_sets pair.X pair.Y)) ≡ length file
        long = ap length given_back

        there : compose e first second rows numbers out ≡ granted bytes → HoldsSet z file rows numbers out × (bytes ≡ file)
        there q =
            let c = composed_with e first second rows numbers out pair.X pair.Y bytes pair.read_first pair.read-second q in
            let holds : HoldsSet z file rows numbers out = record {
              rows_hold = omega (arith, size, c.fits.ends.table);
              numbers_hold = omega (arith, many, c.fits.numbered);
              output-holds = omega (arith, long, c.fits.ends.output);
            } in
            (holds, c.written ∙ given_back)

        back : HoldsSet z file rows numbers out × (bytes ≡ file) → compose e first second rows numbers out ≡ granted bytes
        back (h, w) =
            let ends : EndFits e pair.X.shape rows out (composed pair.X pair.Y) = record {
              table = omega (arith, size, h.rows_hold, (read_proper e file z r).room);
              output = omega (arith, long, h.output-holds);
            } in
            let begins : length pair.X.tab ≤ rows = omega (arith, few, h.rows_hold) in
            let numbered : numbers_to_compose pair.X pair.Y ≤ numbers = omega (arith, many, h.numbers_hold) in
            (compose-granted_exactly e first second rows numbers out bytes).1
            (pair, record { shape = one-shape; fits = record { begins = begins; numbered = numbered; ends = ends }; written = w ∙ sym given_back })

  -- The unchanging set is composed before a set exactly where the set is held, and the set's bytes are written.
  pub unchanging-first_exactly : (rows numbers out : ℕ) (bytes : List ℕ) → (compose e still file rows numbers out ≡ granted bytes)
      ↔ (HoldsSet z file rows numbers out × (bytes ≡ file))
  unchanging-first_exactly rows numbers out bytes =
      let n = (read_proper e file z r).names in
      let size = length-base (cells z.shape) in
      let long = whole.canonical.long in
      let both : Both e still file = record { X = unchanging_set z.shape; Y = z; read_first = still_read; read-second = r } in
      to_itself still file both refl (composed-before z whole n) (unchanging-before z whole n) (omega arith) (omega arith)
      rows numbers out bytes

  -- Composed before a set it gives back the set's bytes.
  pub unchanging-first : (rows numbers out : ℕ) (bytes : List ℕ) → compose e still file rows numbers out ≡ granted bytes
      → bytes ≡ file
  unchanging-first rows numbers out bytes q = ((unchanging-first_exactly rows numbers out bytes).0 q).1

  -- The unchanging set is composed after a set exactly where the set is held, and the set's bytes are written.
  pub unchanging-second_exactly : (rows numbers out : ℕ) (bytes : List ℕ) → (compose e file still rows numbers out ≡ granted bytes)
      ↔ (HoldsSet z file rows numbers out × (bytes ≡ file))
  unchanging-second_exactly rows numbers out bytes =
      let n = (read_proper e file z r).names in
      let size = length-base (cells z.shape) in
      let both : Both e file still = record { X = z; Y = unchanging_set z.shape; read_first = r; read-second = still_read } in
      to_itself file still both refl (composed-after z whole) (unchanging-after z whole n) (omega arith) (omega arith)
      rows numbers out bytes

  -- Composed after a set it gives back the set's bytes.
  pub unchanging-second : (rows numbers out : ℕ) (bytes : List ℕ) → compose e file still rows numbers out ≡ granted bytes
      → bytes ≡ file
  unchanging-second rows numbers out bytes q = ((unchanging-second_exactly rows numbers out bytes).0 q).1
