-- R65: the operations on bytes and lent room: what each answers, refusals in their order, and what it leaves in what was lent.
use Rattle.std.specs.Prelude.{ℕ, Bool, true, false, not, ◌&&◌, ◌||◌, List, ◌++◌, map, length, get_or, drop, replicate, ltb, eqb}
use Rattle.rules.specs.Verdict.{Verdict, granted, refused, refuse_if, ◌>>=◌}
use Rattle.rules.specs.Lists.{refuse_first}
use Rattle.rules.specs.Edition.{Edition}
use Rattle.rules.specs.Shape.{Shape, cells, check_shape}
use Rattle.rules.specs.ProgramFile.{Program, read_program}
use Rattle.rules.specs.Machine.{Scanned, scan_program}
use Rattle.rules.specs.Rows.{base}
use Rattle.rules.specs.Sets.{Heads, act, unchanging, after, squeeze}
use Rattle.rules.specs.Build.{transfer}
use Rattle.rules.specs.SetFile.{TransferSet, leaves, write_set, read_set}
use Rattle.rules.specs.Room.{room, numbers_to_build, heads_to_build, numbers_to_compose, values_to_evaluate}

-- R3: a bit as a byte of a storage, and a storage as bytes.
abbrev pub bit : Bool → ℕ
bit true = 1
bit false = 0

abbrev pub storage_bytes : List Bool → List ℕ
storage_bytes s = map bit s

-- R3, R50: a lent storage must have C bytes, each 0 or 1.
unfoldable pub check_storage : ℕ → List ℕ → Verdict (List Bool)
check_storage C s = do
  _ ← refuse_if (not (eqb (length s) C)) 14 (length s)
  _ ← refuse_first (λ c. ltb 1 (get_or s c 0)) C 14 (λ c. c)
  granted (map (eqb 1) s)

-- R25, R51: scans a program file on a storage within a budget.
unfoldable pub scan : Edition → List ℕ → List ℕ → ℕ → Verdict Scanned
scan e file storage budget = do
  P ← read_program e file
  s ← check_storage (cells P.shape) storage
  scan_program P budget s

-- R31: evaluating a set on a storage.
abbrev pub evaluate_set : TransferSet → List Bool → List Bool
evaluate_set z s = act z.tab z.heads s

-- R36: the set given by heads over a table, in its own numbering.
unfoldable pub set_of : Shape → Heads → TransferSet
set_of sh h =
    let q = squeeze (cells sh) h.tab h.heads in
    record { shape = sh; tab = q.tab; heads = q.heads }

-- R39: the set of a program.
abbrev pub program_set : Program → TransferSet
program_set P = set_of P.shape (transfer P)

-- R40: the heads of X then Y, over X's rows with Y's rewritten onto them; and the set composed.
abbrev pub composed : TransferSet → TransferSet → Heads
composed X Y = after X.tab X.heads Y.tab Y.heads

abbrev pub compose_sets : TransferSet → TransferSet → TransferSet
compose_sets X Y = set_of X.shape (composed X Y)

-- R32: the unchanging set of a shape.
abbrev pub unchanging_set : Shape → TransferSet
unchanging_set sh = record { shape = sh; tab = base (cells sh); heads = unchanging (cells sh) }

-- R59: writes a set into an output of `out` bytes, when the table holds `held` rows.
unfoldable pub write_into : Edition → ℕ → ℕ → TransferSet → Verdict (List ℕ)
write_into e held out z = do
  _ ← refuse_if (ltb out (length (write_set e z))) 10 held
  granted (write_set e z)

-- R54, R59: the end of building and composing. Rows are never dropped, so an append found no free row exactly if the finished table
-- is longer than the room (laws, module Room). Then the set is written.
unfoldable pub finish : Edition → Shape → ℕ → ℕ → Heads → Verdict (List ℕ)
finish e sh rows out h = do
  _ ← refuse_if (ltb (room rows) (length h.tab)) 10 (room rows)
  write_into e (length h.tab) out (set_of sh h)

-- R51, R54, R55: builds a program's set; so many rows (the shortest slice of them), numbers, heads and bytes of output are lent.
unfoldable pub build : Edition → List ℕ → ℕ → ℕ → ℕ → ℕ → Verdict (List ℕ)
build e file rows numbers heads out = do
  P ← read_program e file
  _ ← refuse_if (ltb rows (leaves P.shape)) 10 0
  _ ← refuse_if (ltb numbers (numbers_to_build rows) || ltb heads (heads_to_build P)) 10 0
  finish e P.shape rows out (transfer P)

-- R51, R54, R57: evaluates a set file on a storage; so many values are lent.
unfoldable pub evaluate : Edition → List ℕ → List ℕ → ℕ → Verdict (List Bool)
evaluate e file storage lent = do
  z ← read_set e file
  s ← check_storage (cells z.shape) storage
  _ ← refuse_if (ltb lent (values_to_evaluate z)) 10 0
  granted (evaluate_set z s)

-- R40: whether two shapes are the same.
abbrev pub same_shape : Shape → Shape → Bool
same_shape a b =
    eqb a.depth b.depth && (eqb a.inputs b.inputs && (eqb a.outputs b.outputs && eqb a.memory b.memory))

-- R51, R54, R56: composes two set files; so many rows, numbers and bytes of output are lent.
unfoldable pub compose : Edition → List ℕ → List ℕ → ℕ → ℕ → ℕ → Verdict (List ℕ)
compose e first second rows numbers out = do
  X ← read_set e first
  Y ← read_set e second
  _ ← refuse_if (not (same_shape X.shape Y.shape)) 12 0
  _ ← refuse_if (ltb rows (length X.tab)) 10 0
  _ ← refuse_if (ltb numbers (numbers_to_compose X Y)) 10 0
  finish e X.shape rows out (composed X Y)

-- R51: which file a refusal of composing is about; neither also where it is granted.
pub data Blamed : Type 0 where
  firstFile secondFile neither : Blamed

abbrev pub blame : {A : Type 0} → Verdict A → Verdict A → Blamed
blame (refused n p) y = firstFile
blame (granted a) (refused n p) = secondFile
blame (granted a) (granted b) = neither

abbrev pub blamed : Edition → List ℕ → List ℕ → Blamed
blamed e first second = blame (read_set e first) (read_set e second)

-- R58, R59: writes the unchanging set of a shape.
unfoldable pub write_unchanging : Edition → Shape → ℕ → Verdict (List ℕ)
write_unchanging e sh out = do
  _ ← check_shape e sh
  write_into e (leaves sh) out (unchanging_set sh)

-- R52: what a call leaves in a lent storage, where `of` tells the bits from its answer; in a lent output; in a work slice.
abbrev pub storage_after : {A : Type 0} → (A → List Bool) → Verdict A → List ℕ → List ℕ
storage_after of (granted a) lent = storage_bytes (of a)
storage_after of (refused n p) lent = lent

abbrev pub output_after : Verdict (List ℕ) → List ℕ → List ℕ
output_after (granted bytes) lent = bytes ++ drop (length bytes) lent
output_after (refused n p) lent = lent

abbrev pub work_after : List ℕ → List ℕ
work_after lent = replicate (length lent) 0
