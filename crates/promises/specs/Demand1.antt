-- Demand 1: every input gets an answer: a result, or a refusal with a number and a place. Room is refused exactly where the rules need more.
use Rattle.std.specs.Prelude.{ℕ, ◌≤◌, ◌<◌, ◌≡◌, Bool, true, List, length, Ok, Err}
use Rattle.std.proofs.Common.{sym, ◌∙◌, arith, lt-ltb, le-ltb}
use Rattle.std.proofs.Math.Decide.{dec_lt}
use Rattle.rules.specs.Verdict.{Verdict, granted, refused}
use Rattle.rules.specs.Edition.{old}
use Rattle.rules.specs.Shape.{Shape, cells, check_shape}
use Rattle.rules.specs.ProgramFile.{Program, read_program}
use Rattle.rules.specs.Sets.{Heads}
use Rattle.rules.specs.Build.{transfer}
use Rattle.rules.specs.SetFile.{TransferSet, leaves, write_set, read_set}
use Rattle.rules.specs.Room.{room, heads_to_build, numbers_to_compose, values_to_evaluate}
use Rattle.rules.specs.Operations.{check_storage, evaluate_set, set_of, composed, unchanging_set, write_into, finish}
use Rattle.rules.specs.Operations.{scan, build, evaluate, same_shape, compose, blamed, write_unchanging}
use Rattle.base.specs.Answers.{Answer, refused_by, verdict_of}
use Rattle.base.specs.declared.refusal.Refusal.{Refusal}
use Rattle.program.specs.Stages.{check_of}
use Rattle.program.specs.Check.{check_only}
use Rattle.machine.specs.Scan.{Scans}
use Rattle.machine.specs.ScanLaws.{scan_only}
use Rattle.sets.specs.Judging.{set_verdict}
use Rattle.sets.specs.Answer.{set-refused, check_set_only}
use Rattle.evaluate.specs.Evaluate.{Evaluates, evaluate_only}
use Rattle.writer.specs.Writes.{Writes, writes_only}
use Rattle.compose.specs.Contract.{Composed, Composes, composed_verdict, blames, compose_only}
use Rattle.build.specs.Contract.{Builds, build_only}
use Rattle.promises.specs.Answers.{Wrote, wrote, refused_so, output-kept, storage-kept}

-- ---- every answer is the rules', and the only one; a refusal changes nothing

-- Checking a program (R46 to R48).
pub program_refused : (file : List ℕ) (x : Refusal) → verdict_of (Err x) ≡ check_of file → read_program old file ≡ refused_by x
program_refused file x c = refused_so (read_program old file) _ x c

pub program_one : (file : List ℕ) (a b : Answer (Unit {0})) → verdict_of a ≡ check_of file → verdict_of b ≡ check_of file → a ≡ b
program_one = check_only

-- Scanning (R25, R50 to R52).
pub scan-refused : (file storage : List ℕ) (budget : ℕ) (x : Refusal) (after : List ℕ) → Scans file storage budget (Err x) after
    → (scan old file storage budget ≡ refused_by x) × (after ≡ storage)
scan-refused file storage budget x after c =
    let e = refused_so (scan old file storage budget) _ x c.answer in
    (e, storage-kept (scan old file storage budget) _ x storage after e c.leaves)

pub scan-one : (file storage : List ℕ) (budget : ℕ) (a b : Answer ℕ) (t u : List ℕ) → Scans file storage budget a t
    → Scans file storage budget b u → (a ≡ b) × (t ≡ u)
scan-one = scan_only

-- Building (R51, R52, R54, R55). That rows, numbers and heads are zero after is the contract at `build` itself.
module _ (file : List ℕ) (rows numbers heads : ℕ) (before after : List ℕ) where
  pub build-wrote : (n : ℕ) → Builds file rows numbers heads (Ok n) before after
      → Wrote (build old file rows numbers heads (length before)) n before after
  build-wrote n c = wrote _ n before after c.answers c.output

  pub build-refused : (x : Refusal) → Builds file rows numbers heads (Err x) before after
      → (build old file rows numbers heads (length before) ≡ refused_by x) × (after ≡ before)
  build-refused x c =
      let e = refused_so (build old file rows numbers heads (length before)) _ x c.answers in
      (e, output-kept _ x before after e c.output)

pub build-one : (file : List ℕ) (rows numbers heads : ℕ) (a b : Answer ℕ) (before t u : List ℕ)
    → Builds file rows numbers heads a before t → Builds file rows numbers heads b before u → (a ≡ b) × (t ≡ u)
build-one = build_only

-- Checking a set (R49).
pub set-refused_so : (file : List ℕ) (x : Refusal) → verdict_of (Err x) ≡ set_verdict file → read_set old file ≡ refused_by x
set-refused_so file x c = set-refused file _ _ (sym c)

pub set-one : (file : List ℕ) (a b : Answer (Unit {0})) → verdict_of a ≡ set_verdict file → verdict_of b ≡ set_verdict file → a ≡ b
set-one = check_set_only

-- Evaluating (R51, R52, R57). That the values are zero after is the contract at `evaluate` itself.
pub evaluate-refused : (file storage : List ℕ) (lent : ℕ) (x : Refusal) (after : List ℕ) → Evaluates file storage lent (Err x) after
    → (evaluate old file storage lent ≡ refused_by x) × (after ≡ storage)
evaluate-refused file storage lent x after c =
    let e = refused_so (evaluate old file storage lent) _ x c.answer in
    (e, storage-kept (evaluate old file storage lent) _ x storage after e c.leaves)

pub evaluate-one : (file storage : List ℕ) (lent : ℕ) (a b : Answer (Unit {0})) (t u : List ℕ) → Evaluates file storage lent a t
    → Evaluates file storage lent b u → (a ≡ b) × (t ≡ u)
evaluate-one = evaluate_only

-- Composing (R51, R52, R54, R56). That rows and numbers are zero after is the contract at `compose` itself.
module _ (first second : List ℕ) (rows numbers : ℕ) (before after : List ℕ) where
  pub compose-wrote : (n : ℕ) → Composes first second rows numbers (Ok n) before after
      → Wrote (compose old first second rows numbers (length before)) n before after
  compose-wrote n c = wrote _ n before after c.answers c.output

  -- A refusal, and which file it is about: the first, the second, or neither.
  pub compose-refused : (x : Refusal) (r : Composed) → composed_verdict r ≡ refused_by x → Composes first second rows numbers r before after
      → (compose old first second rows numbers (length before) ≡ refused_by x) × (blames r ≡ blamed old first second) × (after ≡ before)
  compose-refused x r q c =
      let e = refused_so (compose old first second rows numbers (length before)) _ x (sym q ∙ c.answers) in
      (e, c.about, output-kept _ x before after e c.output)

pub compose-one : (first second : List ℕ) (rows numbers : ℕ) (a b : Composed) (before t u : List ℕ)
    → Composes first second rows numbers a before t → Composes first second rows numbers b before u → (a ≡ b) × (t ≡ u)
compose-one = compose_only

-- Writing the unchanging set (R52, R58, R59).
module _ (sh : Shape) (before after : List ℕ) where
  pub unchanging-wrote : (n : ℕ) → Writes (write_unchanging old sh (length before)) (Ok n) before after
      → Wrote (write_unchanging old sh (length before)) n before after
  unchanging-wrote n c = wrote _ n before after c.answer c.output

  pub unchanging-refused : (x : Refusal) → Writes (write_unchanging old sh (length before)) (Err x) before after
      → (write_unchanging old sh (length before) ≡ refused_by x) × (after ≡ before)
  unchanging-refused x c =
      let e = refused_so (write_unchanging old sh (length before)) _ x c.answer in
      (e, output-kept _ x before after e c.output)

pub unchanging-one : (v : Verdict (List ℕ)) (a b : Answer ℕ) (before t u : List ℕ) → Writes v a before t → Writes v b before u
    → (a ≡ b) × (t ≡ u)
unchanging-one = writes_only

-- ---- room

-- R54, R59: the end of building and composing: the table is longer than the room; or the output is too short for the set; or neither.
pub data Ends (sh : Shape) (rows out : ℕ) (h : Heads) : Verdict (List ℕ) → Type 0 where
  table-full : room rows < length h.tab → Ends sh rows out h (refused 10 (room rows))
  short_output : length h.tab ≤ room rows → out < length (write_set old (set_of sh h)) → Ends sh rows out h (refused 10 (length h.tab))
  written : length h.tab ≤ room rows → length (write_set old (set_of sh h)) ≤ out → Ends sh rows out h (granted (write_set old (set_of sh h)))

-- What holds at each of these ends holds of how `finish` ends.
finishes : (sh : Shape) (rows out : ℕ) (h : Heads) (E : Verdict (List ℕ) → Type 0)
    → (room rows < length h.tab → E (refused 10 (room rows)))
    → (length h.tab ≤ room rows → out < length (write_set old (set_of sh h)) → E (refused 10 (length h.tab)))
    → (length h.tab ≤ room rows → length (write_set old (set_of sh h)) ≤ out → E (granted (write_set old (set_of sh h))))
    → E (finish old sh rows out h)
unfolding finish write_into
finishes sh rows out h E full short fits = elim (dec_lt (room rows) (length h.tab)) [
  | yes a ↦ rw (lt-ltb (room rows) (length h.tab) a) (full a)
  | no a ↦ elim (dec_lt out (length (write_set old (set_of sh h)))) [
    | yes b ↦ rw (le-ltb (room rows) (length h.tab) (omega arith), lt-ltb out _ b) (short (omega arith) b)
    | no b ↦
        rw (le-ltb (room rows) (length h.tab) (omega arith), le-ltb out (length (write_set old (set_of sh h))) (omega arith))
        (fits (omega arith) (omega arith))
  ]
]

-- R54, R55: building an accepted program is refused for room exactly where fewer rows are lent than there are constants and cells, or
-- fewer numbers than rows that may be used, or fewer heads than n·C; or where it ends so.
pub data Room55 (P : Program) (rows numbers heads out : ℕ) : Verdict (List ℕ) → Type 0 where
  few-rows : rows < leaves P.shape → Room55 P rows numbers heads out (refused 10 0)
  few_numbers : leaves P.shape ≤ rows → numbers < room rows → Room55 P rows numbers heads out (refused 10 0)
  few-heads : leaves P.shape ≤ rows → room rows ≤ numbers → heads < heads_to_build P → Room55 P rows numbers heads out (refused 10 0)
  enough : {v : Verdict (List ℕ)} → leaves P.shape ≤ rows → room rows ≤ numbers → heads_to_build P ≤ heads
      → Ends P.shape rows out (transfer P) v → Room55 P rows numbers heads out v

pub build-room : (file : List ℕ) (P : Program) → read_program old file ≡ granted P → (rows numbers heads out : ℕ)
    → Room55 P rows numbers heads out (build old file rows numbers heads out)
unfolding build
build-room file P r rows numbers heads out = elim (dec_lt rows (leaves P.shape)) [
  | yes a ↦ rw (r, lt-ltb rows (leaves P.shape) a) (few-rows a)
  | no a ↦
      let a' = le-ltb rows (leaves P.shape) (omega arith) in
      elim (dec_lt numbers (room rows)) [
        | yes b ↦ rw (r, a', lt-ltb numbers (room rows) b) (few_numbers (omega arith) b)
        | no b ↦
            let b' = le-ltb numbers (room rows) (omega arith) in
            elim (dec_lt heads (heads_to_build P)) [
              | yes c ↦ rw (r, a', b', lt-ltb heads (heads_to_build P) c) (few-heads (omega arith) (omega arith) c)
              | no c ↦ rw (r, a', b', le-ltb heads (heads_to_build P) (omega arith))
                  (enough (omega arith) (omega arith) (omega arith)
                  (finishes P.shape rows out (transfer P) (Ends P.shape rows out (transfer P)) table-full short_output written))
            ]
      ]
]

-- R54, R56: composing two accepted sets of one shape, likewise: fewer rows than the first set has, or fewer numbers than both need.
pub data Room56 (X Y : TransferSet) (rows numbers out : ℕ) : Verdict (List ℕ) → Type 0 where
  few-rows : rows < length X.tab → Room56 X Y rows numbers out (refused 10 0)
  few_numbers : length X.tab ≤ rows → numbers < numbers_to_compose X Y → Room56 X Y rows numbers out (refused 10 0)
  enough : {v : Verdict (List ℕ)} → length X.tab ≤ rows → numbers_to_compose X Y ≤ numbers
      → Ends X.shape rows out (composed X Y) v → Room56 X Y rows numbers out v

pub compose-room : (first second : List ℕ) (X Y : TransferSet) → read_set old first ≡ granted X → read_set old second ≡ granted Y
    → same_shape X.shape Y.shape ≡ true → (rows numbers out : ℕ)
    → Room56 X Y rows numbers out (compose old first second rows numbers out)
unfolding compose
compose-room first second X Y x y s rows numbers out = elim (dec_lt rows (length X.tab)) [
  | yes a ↦ rw (x, y, s, lt-ltb rows (length X.tab) a) (few-rows a)
  | no a ↦
      let a' = le-ltb rows (length X.tab) (omega arith) in
      elim (dec_lt numbers (numbers_to_compose X Y)) [
        | yes b ↦ rw (x, y, s, a', lt-ltb numbers (numbers_to_compose X Y) b) (few_numbers (omega arith) b)
        | no b ↦ rw (x, y, s, a', le-ltb numbers (numbers_to_compose X Y) (omega arith))
            (enough (omega arith) (omega arith)
            (finishes X.shape rows out (composed X Y) (Ends X.shape rows out (composed X Y)) table-full short_output written))
      ]
]

-- R54, R57: evaluating an accepted set on a storage that fits is refused for room exactly where fewer values are lent than it has rows.
pub data Room57 (z : TransferSet) (s : List Bool) (lent : ℕ) : Verdict (List Bool) → Type 0 where
  few-values : lent < values_to_evaluate z → Room57 z s lent (refused 10 0)
  enough : values_to_evaluate z ≤ lent → Room57 z s lent (granted (evaluate_set z s))

pub evaluate-room : (file storage : List ℕ) (z : TransferSet) (s : List Bool) → read_set old file ≡ granted z
    → check_storage (cells z.shape) storage ≡ granted s → (lent : ℕ) → Room57 z s lent (evaluate old file storage lent)
unfolding evaluate
evaluate-room file storage z s r c lent = elim (dec_lt lent (values_to_evaluate z)) [
  | yes a ↦ rw (r, c, lt-ltb lent (values_to_evaluate z) a) (few-values a)
  | no a ↦ rw (r, c, le-ltb lent (values_to_evaluate z) (omega arith)) (enough (omega arith))
]

-- R58, R59: the unchanging set of an allowed shape is refused for room exactly where the output is shorter than its file.
pub data Room58 (sh : Shape) (out : ℕ) : Verdict (List ℕ) → Type 0 where
  short_output : out < length (write_set old (unchanging_set sh)) → Room58 sh out (refused 10 (leaves sh))
  written : length (write_set old (unchanging_set sh)) ≤ out → Room58 sh out (granted (write_set old (unchanging_set sh)))

pub unchanging-room : (sh : Shape) → check_shape old sh ≡ granted tt → (out : ℕ) → Room58 sh out (write_unchanging old sh out)
unfolding write_unchanging write_into
unchanging-room sh c out = elim (dec_lt out (length (write_set old (unchanging_set sh)))) [
  | yes a ↦ rw (c, lt-ltb out _ a) (short_output a)
  | no a ↦ rw (c, le-ltb out (length (write_set old (unchanging_set sh))) (omega arith)) (written (omega arith))
]
