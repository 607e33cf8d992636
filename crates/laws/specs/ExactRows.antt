-- The answer of building and composing, exactly: a file's refusal, or one for room, or the file of the set.
use Rattle.std.specs.Prelude.{ℕ, ◌≤◌, ◌<◌, ◌≡◌, Bool, not, ◌||◌, List, ◌↔◌}
use Rattle.std.proofs.Math.Path.{refl}
use Rattle.std.proofs.Common.{sym, ap, ◌∙◌, arith}
use Rattle.std.proofs.Math.Bool.{true, false, or-true}
use Rattle.std.proofs.Math.ListN.{length}
use Rattle.std.proofs.Math.Dec.{ltb}
use borrow.Author.Tests.{ltb-true, ltb-false, lt-ltb, le-ltb, not-true, not-false}
use Rattle.rules.specs.Verdict.{Verdict, granted, refused, refuse_if, ◌>>=◌}
use Rattle.rules.specs.Edition.{Edition}
use Rattle.rules.specs.Shape.{Shape}
use Rattle.rules.specs.ProgramFile.{Program, read_program}
use Rattle.rules.specs.Sets.{Heads}
use Rattle.rules.specs.Build.{transfer}
use Rattle.rules.specs.SetFile.{TransferSet, leaves, write_set, read_set}
use Rattle.rules.specs.Room.{room, numbers_to_build, heads_to_build, numbers_to_compose}
use Rattle.rules.specs.Operations.{set_of, program_set, composed, compose_sets, write_into, finish, build, same_shape, compose}
use Rattle.laws.specs.Verdict.{same_grant, check_same, both_false, cases_bind, cases_check}
use Rattle.laws.specs.Shape.{shape_equal, shape_same, shape_other, other_shape}
use Rattle.laws.specs.Judges.{judging, program-judges, set-judges}
use Rattle.laws.specs.Exact.{Exactly, Never, Kind, gives, judges, own, kind-gives, kind-own, kind-never, room-only, budget_only}

-- ---- the end of building and composing

-- R54, R59: the table is longer than the usable rows; or it is not, and the output is too short for the set's file.
pub data EndRoom (e : Edition) (sh : Shape) (rows out : ℕ) (h : Heads) : ℕ → Type 0 where
  table-full : room rows < length h.tab → EndRoom e sh rows out h (room rows)
  short-output : length h.tab ≤ room rows → out < length (write_set e (set_of sh h)) → EndRoom e sh rows out h (length h.tab)

-- R54, R59: the usable rows hold the table, and the output holds the set's file.
pub record EndFits (e : Edition) (sh : Shape) (rows out : ℕ) (h : Heads) : Type 0 where
  pub table : length h.tab ≤ room rows
  pub output : length (write_set e (set_of sh h)) ≤ out

pub data EndAnswers (e : Edition) (sh : Shape) (rows out : ℕ) (h : Heads) : Verdict (List ℕ) → Type 0 where
  of_room : {p : ℕ} → EndRoom e sh rows out h p → EndAnswers e sh rows out h (refused 10 p)
  written : EndFits e sh rows out h → EndAnswers e sh rows out h (granted (write_set e (set_of sh h)))

module _ (e : Edition) (sh : Shape) (rows out : ℕ) (h : Heads) where
  end_answers : EndAnswers e sh rows out h (finish e sh rows out h)
  unfolding finish write_into
  end_answers =
      let S = EndAnswers e sh rows out h in
      let file = write_set e (set_of sh h) in
      cases_check S (ltb (room rows) (length h.tab)) 10 _ _ (λ a. of_room (table-full (ltb-true _ _ a))) λ a.
      let few = ltb-false (room rows) (length h.tab) a in
      cases_check S (ltb out (length file)) 10 _ _ (λ b. of_room (short-output few (ltb-true _ _ b)))
      (λ b. written (record { table = few; output = ltb-false out (length file) b }))

  end_back : {v : Verdict (List ℕ)} → EndAnswers e sh rows out h v → finish e sh rows out h ≡ v
  unfolding finish write_into
  end_back (of_room (table-full a)) = rw (lt-ltb (room rows) (length h.tab) a)
  end_back (of_room (short-output a b)) = rw (le-ltb (room rows) (length h.tab) a, lt-ltb out (length (write_set e (set_of sh h))) b)
  end_back (written f) =
      rw (le-ltb (room rows) (length h.tab) f.table, le-ltb out (length (write_set e (set_of sh h))) f.output)

-- ---- building

-- R54, R55: fewer rows than constants and cells, fewer numbers than usable rows, or fewer heads than n·C; or the end.
pub data BuildRoom (e : Edition) (P : Program) (rows numbers heads out : ℕ) : ℕ → Type 0 where
  few-rows : rows < leaves P.shape → BuildRoom e P rows numbers heads out 0
  few-numbers : numbers < numbers_to_build rows → BuildRoom e P rows numbers heads out 0
  few-heads : heads < heads_to_build P → BuildRoom e P rows numbers heads out 0
  at_end : {p : ℕ} → leaves P.shape ≤ rows → numbers_to_build rows ≤ numbers → heads_to_build P ≤ heads
      → EndRoom e P.shape rows out (transfer P) p → BuildRoom e P rows numbers heads out p

-- R54, R55, R59: the room with which a program is built.
pub record BuildFits (e : Edition) (P : Program) (rows numbers heads out : ℕ) : Type 0 where
  pub begins : leaves P.shape ≤ rows
  pub numbered : numbers_to_build rows ≤ numbers
  pub headed : heads_to_build P ≤ heads
  pub ends : EndFits e P.shape rows out (transfer P)

-- R39, R51: the file's refusals, then room; then the file of the program's set.
pub data BuildAnswers (e : Edition) (file : List ℕ) (rows numbers heads out : ℕ) : Verdict (List ℕ) → Type 0 where
  of_file : {n p : ℕ} → read_program e file ≡ refused n p → BuildAnswers e file rows numbers heads out (refused n p)
  of_room : {p : ℕ} (P : Program) → read_program e file ≡ granted P → BuildRoom e P rows numbers heads out p
      → BuildAnswers e file rows numbers heads out (refused 10 p)
  built : (P : Program) → read_program e file ≡ granted P → BuildFits e P rows numbers heads out
      → BuildAnswers e file rows numbers heads out (granted (write_set e (program_set P)))

module _ (e : Edition) (file : List ℕ) (rows numbers heads out : ℕ) where
  build_answers : BuildAnswers e file rows numbers heads out (build e file rows numbers heads out)
  unfolding build
  build_answers =
      let S = BuildAnswers e file rows numbers heads out in
      cases_bind S (read_program e file) _ (λ n p q. of_file q) λ P r.
      cases_check S (ltb rows (leaves P.shape)) 10 0 _ (λ a. of_room P r (few-rows (ltb-true _ _ a))) λ a.
      cases_check S (ltb numbers (numbers_to_build rows) || ltb heads (heads_to_build P)) 10 0 _
      (λ b. of_room P r (either P (ltb numbers (numbers_to_build rows)) refl b)) λ b.
      let (n, h) = both_false (ltb numbers (numbers_to_build rows)) (ltb heads (heads_to_build P)) b in
      ended P r (ltb-false rows (leaves P.shape) a) (ltb-false numbers (numbers_to_build rows) n) (ltb-false heads (heads_to_build P) h)
      (end_answers e P.shape rows out (transfer P))
    where
      either : (P : Program) (t : Bool) → ltb numbers (numbers_to_build rows) ≡ t → t || ltb heads (heads_to_build P) ≡ true
          → BuildRoom e P rows numbers heads out 0
      either P true q b = few-numbers (ltb-true _ _ q)
      either P false q b = few-heads (ltb-true _ _ b)

      ended : (P : Program) {v : Verdict (List ℕ)} → read_program e file ≡ granted P → leaves P.shape ≤ rows
          → numbers_to_build rows ≤ numbers → heads_to_build P ≤ heads → EndAnswers e P.shape rows out (transfer P) v
          → BuildAnswers e file rows numbers heads out v
      ended P r a b c (of_room d) = of_room P r (at_end a b c d)
      ended P r a b c (written f) = built P r (record { begins = a; numbered = b; headed = c; ends = f })

  -- The answer of building, exactly.
  pub build_exactly : (v : Verdict (List ℕ)) → (build e file rows numbers heads out ≡ v) ↔ BuildAnswers e file rows numbers heads out v
  unfolding build
  build_exactly v = (λ q. rw (sym q) build_answers, back)
    where
      begun : {v : Verdict (List ℕ)} (P : Program) → read_program e file ≡ granted P → leaves P.shape ≤ rows
          → numbers_to_build rows ≤ numbers → heads_to_build P ≤ heads → EndAnswers e P.shape rows out (transfer P) v
          → build e file rows numbers heads out ≡ v
      begun P r a b c d =
          rw (r, le-ltb rows (leaves P.shape) a, le-ltb numbers (numbers_to_build rows) b, le-ltb heads (heads_to_build P) c)
          (end_back e P.shape rows out (transfer P) d)

      short : {p : ℕ} (P : Program) → read_program e file ≡ granted P → BuildRoom e P rows numbers heads out p
          → build e file rows numbers heads out ≡ refused 10 p
      short P r (few-rows a) = rw (r, lt-ltb rows (leaves P.shape) a)
      short P r (few-numbers a) = rw r (check_same (ltb rows (leaves P.shape)) 10 0 _ (rw (lt-ltb numbers (numbers_to_build rows) a)))
      short P r (few-heads a) =
          rw r (check_same (ltb rows (leaves P.shape)) 10 0 _
          (rw (lt-ltb heads (heads_to_build P) a, or-true (ltb numbers (numbers_to_build rows)))))
      short P r (at_end a b c d) = begun P r a b c (of_room d)

      back : {v : Verdict (List ℕ)} → BuildAnswers e file rows numbers heads out v → build e file rows numbers heads out ≡ v
      back (of_file q) = rw q
      back (of_room P r b) = short P r b
      back (built P r f) = begun P r f.begins f.numbered f.headed (written f.ends)

  build-kind : {v : Verdict (List ℕ)} → BuildAnswers e file rows numbers heads out v
      → Kind (λ bytes. (P : Program) × (read_program e file ≡ granted P) × BuildFits e P rows numbers heads out
      × (bytes ≡ write_set e (program_set P)))
      10 (λ p. (P : Program) × (read_program e file ≡ granted P) × BuildRoom e P rows numbers heads out p) v
  build-kind (of_file q) = judges (program-judges e file _ _ q)
  build-kind (of_room P r b) = own (P, r, b)
  build-kind (built P r f) = gives (P, r, f, refl)

  -- Room: 10 exactly where the file is accepted and there is too little room. Never 11.
  pub build-room_exactly : Exactly 10 (λ p. (P : Program) × (read_program e file ≡ granted P) × BuildRoom e P rows numbers heads out p)
      (build e file rows numbers heads out)
  build-room_exactly p =
      (kind-own room-only (build-kind build_answers) p, λ (P, r, b). (build_exactly (refused 10 p)).1 (of_room P r b))

  pub build_no_budget : Never 11 (build e file rows numbers heads out)
  build_no_budget = kind-never budget_only (λ q. omega arith) (build-kind build_answers)

  -- Granted exactly where the file is accepted and there is room; what is written is the file of the program's set.
  pub build-granted_exactly : (bytes : List ℕ) → (build e file rows numbers heads out ≡ granted bytes)
      ↔ ((P : Program) × (read_program e file ≡ granted P) × BuildFits e P rows numbers heads out × (bytes ≡ write_set e (program_set P)))
  build-granted_exactly bytes =
      (kind-gives (build-kind build_answers) bytes, λ (P, r, f, w). (build_exactly _).1 (built P r f) ∙ ap granted (sym w))

  -- So of the program that the file is accepted as.
  module _ (P : Program) (p : read_program e file ≡ granted P) (bytes : List ℕ) (q : build e file rows numbers heads out ≡ granted bytes) where
    pub built_with : BuildFits e P rows numbers heads out × (bytes ≡ write_set e (program_set P))
    built_with =
        let (Q, r, f, w) = (build-granted_exactly bytes).0 q in
        let same : Q ≡ P = same_grant (sym r ∙ p) in
        (rw same at f, w ∙ ap (λ R. write_set e (program_set R)) same)

    pub built-file : bytes ≡ write_set e (program_set P)
    built-file = built_with.1

-- ---- composing

-- R54, R56: fewer rows than the first set has, or fewer numbers than both need; or the end.
pub data ComposeRoom (e : Edition) (X Y : TransferSet) (rows numbers out : ℕ) : ℕ → Type 0 where
  few-rows : rows < length X.tab → ComposeRoom e X Y rows numbers out 0
  few-numbers : numbers < numbers_to_compose X Y → ComposeRoom e X Y rows numbers out 0
  at_end : {p : ℕ} → length X.tab ≤ rows → numbers_to_compose X Y ≤ numbers → EndRoom e X.shape rows out (composed X Y) p
      → ComposeRoom e X Y rows numbers out p

-- R54, R56, R59: the room with which two sets are composed.
pub record ComposeFits (e : Edition) (X Y : TransferSet) (rows numbers out : ℕ) : Type 0 where
  pub begins : length X.tab ≤ rows
  pub numbered : numbers_to_compose X Y ≤ numbers
  pub ends : EndFits e X.shape rows out (composed X Y)

-- What both files are accepted as.
pub record Both (e : Edition) (first second : List ℕ) : Type 0 where
  pub X : TransferSet
  pub Y : TransferSet
  pub read_first : read_set e first ≡ granted X
  pub read-second : read_set e second ≡ granted Y

-- R40, R51: the first file's refusals, the second's, the shapes, then room; then the file of the composition.
pub data ComposeAnswers (e : Edition) (first second : List ℕ) (rows numbers out : ℕ) : Verdict (List ℕ) → Type 0 where
  of_first : {n p : ℕ} → read_set e first ≡ refused n p → ComposeAnswers e first second rows numbers out (refused n p)
  of_second : {n p : ℕ} (X : TransferSet) → read_set e first ≡ granted X → read_set e second ≡ refused n p
      → ComposeAnswers e first second rows numbers out (refused n p)
  of_shapes : (b : Both e first second) → (b.X.shape ≡ b.Y.shape → ⊥) → ComposeAnswers e first second rows numbers out (refused 12 0)
  of_room : {p : ℕ} (b : Both e first second) → b.X.shape ≡ b.Y.shape → ComposeRoom e b.X b.Y rows numbers out p
      → ComposeAnswers e first second rows numbers out (refused 10 p)
  composed_so : (b : Both e first second) → b.X.shape ≡ b.Y.shape → ComposeFits e b.X b.Y rows numbers out
      → ComposeAnswers e first second rows numbers out (granted (write_set e (compose_sets b.X b.Y)))

-- Two sets of one shape that were composed with room, and what was written.
pub record Composing (e : Edition) (X Y : TransferSet) (rows numbers out : ℕ) (bytes : List ℕ) : Type 0 where
  pub shape : X.shape ≡ Y.shape
  pub fits : ComposeFits e X Y rows numbers out
  pub written : bytes ≡ write_set e (compose_sets X Y)

module _ (e : Edition) (first second : List ℕ) (rows numbers out : ℕ) where
  compose_answers : ComposeAnswers e first second rows numbers out (compose e first second rows numbers out)
  unfolding compose
  compose_answers =
      let S = ComposeAnswers e first second rows numbers out in
      cases_bind S (read_set e first) _ (λ n p q. of_first q) λ X x.
      cases_bind S (read_set e second) _ (λ n p q. of_second X x q) λ Y y.
      let b : Both e first second = record { X = X; Y = Y; read_first = x; read-second = y } in
      cases_check S (not (same_shape X.shape Y.shape)) 12 0 _
      (λ s. of_shapes b (shape_other X.shape Y.shape (not-true _ s))) λ s.
      let same = shape_equal X.shape Y.shape (not-false _ s) in
      cases_check S (ltb rows (length X.tab)) 10 0 _ (λ a. of_room b same (few-rows (ltb-true _ _ a))) λ a.
      cases_check S (ltb numbers (numbers_to_compose X Y)) 10 0 _ (λ c. of_room b same (few-numbers (ltb-true _ _ c))) λ c.
      ended b same (ltb-false rows (length X.tab) a) (ltb-false numbers (numbers_to_compose X Y) c)
      (end_answers e X.shape rows out (composed X Y))
    where
      ended : (b : Both e first second) {v : Verdict (List ℕ)} → b.X.shape ≡ b.Y.shape → length b.X.tab ≤ rows
          → numbers_to_compose b.X b.Y ≤ numbers → EndAnswers e b.X.shape rows out (composed b.X b.Y) v
          → ComposeAnswers e first second rows numbers out v
      ended b s a c (of_room d) = of_room b s (at_end a c d)
      ended b s a c (written f) = composed_so b s (record { begins = a; numbered = c; ends = f })

  -- The answer of composing, exactly.
  pub compose_exactly : (v : Verdict (List ℕ)) → (compose e first second rows numbers out ≡ v)
      ↔ ComposeAnswers e first second rows numbers out v
  unfolding compose
  compose_exactly v = (λ q. rw (sym q) compose_answers, back)
    where
      -- The checks of room, which come after the shapes.
      rest : TransferSet → TransferSet → Verdict (List ℕ)
      rest X Y = refuse_if (ltb rows (length X.tab)) 10 0 >>= λ _. refuse_if (ltb numbers (numbers_to_compose X Y)) 10 0 >>= λ _.
          finish e X.shape rows out (composed X Y)

      reached : (b : Both e first second) → b.X.shape ≡ b.Y.shape → compose e first second rows numbers out ≡ rest b.X b.Y
      reached b s = rw (b.read_first, b.read-second, ap (same_shape b.X.shape) (sym s) ∙ shape_same b.X.shape)

      short : {p : ℕ} (X Y : TransferSet) → ComposeRoom e X Y rows numbers out p → rest X Y ≡ refused 10 p
      short X Y (few-rows a) = rw (lt-ltb rows (length X.tab) a)
      short X Y (few-numbers a) = check_same (ltb rows (length X.tab)) 10 0 _ (rw (lt-ltb numbers (numbers_to_compose X Y) a))
      short X Y (at_end a c d) =
          rw (le-ltb rows (length X.tab) a, le-ltb numbers (numbers_to_compose X Y) c)
          (end_back e X.shape rows out (composed X Y) (of_room d))

      enough : (X Y : TransferSet) → ComposeFits e X Y rows numbers out → rest X Y ≡ granted (write_set e (compose_sets X Y))
      enough X Y f =
          rw (le-ltb rows (length X.tab) f.begins, le-ltb numbers (numbers_to_compose X Y) f.numbered)
          (end_back e X.shape rows out (composed X Y) (written f.ends))

      back : {v : Verdict (List ℕ)} → ComposeAnswers e first second rows numbers out v → compose e first second rows numbers out ≡ v
      back (of_first q) = rw q
      back (of_second X x q) = rw (x, q)
      back (of_shapes b s) = rw (b.read_first, b.read-second, other_shape b.X.shape b.Y.shape s)
      back (of_room b s c) = reached b s ∙ short b.X b.Y c
      back (composed_so b s f) = reached b s ∙ enough b.X b.Y f

  compose-kind : {v : Verdict (List ℕ)} → ComposeAnswers e first second rows numbers out v
      → Kind (λ bytes. (b : Both e first second) × Composing e b.X b.Y rows numbers out bytes)
      10 (λ p. (b : Both e first second) × (b.X.shape ≡ b.Y.shape) × ComposeRoom e b.X b.Y rows numbers out p) v
  compose-kind (of_first q) = judges (set-judges e first _ _ q)
  compose-kind (of_second X x q) = judges (set-judges e second _ _ q)
  compose-kind (of_shapes b s) = judges (judging 12 refl)
  compose-kind (of_room b s c) = own (b, s, c)
  compose-kind (composed_so b s f) = gives (b, record { shape = s; fits = f; written = refl })

  -- Room: 10 exactly where both files are accepted, of one shape, and there is too little room. Never 11.
  pub compose-room_exactly : Exactly 10
      (λ p. (b : Both e first second) × (b.X.shape ≡ b.Y.shape) × ComposeRoom e b.X b.Y rows numbers out p)
      (compose e first second rows numbers out)
  compose-room_exactly p =
      (kind-own room-only (compose-kind compose_answers) p, λ (b, s, c). (compose_exactly (refused 10 p)).1 (of_room b s c))

  pub compose_no_budget : Never 11 (compose e first second rows numbers out)
  compose_no_budget = kind-never budget_only (λ q. omega arith) (compose-kind compose_answers)

  -- Granted exactly where both files are accepted, of one shape, and there is room; what is written is the file of their composition.
  pub compose-granted_exactly : (bytes : List ℕ) → (compose e first second rows numbers out ≡ granted bytes)
      ↔ ((b : Both e first second) × Composing e b.X b.Y rows numbers out bytes)
  compose-granted_exactly bytes = (
    kind-gives (compose-kind compose_answers) bytes,
    λ (b, c). (compose_exactly _).1 (composed_so b c.shape c.fits) ∙ ap granted (sym c.written),
  )

  -- So of the sets that the files are accepted as.
  pub composed_with : (X Y : TransferSet) (bytes : List ℕ) → read_set e first ≡ granted X → read_set e second ≡ granted Y
      → compose e first second rows numbers out ≡ granted bytes → Composing e X Y rows numbers out bytes
  composed_with X Y bytes x y q =
      let (b, c) = (compose-granted_exactly bytes).0 q in
      let same-X : b.X ≡ X = same_grant (sym b.read_first ∙ x) in
      let same-Y : b.Y ≡ Y = same_grant (sym b.read-second ∙ y) in
      rw (← same-X, ← same-Y) c
