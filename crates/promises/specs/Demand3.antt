-- Demand 3: the formulas are the program; composing is first then second, however three are grouped, and the unchanging set changes no byte.
use Rattle.std.specs.Prelude.{ℕ, ◌-◌, ◌^◌, ◌≤◌, ◌≡◌, Bool, true, false, List, [], ◌∷◌, map, take, eqb, Ok}
use Rattle.std.proofs.Common.{sym, ◌∙◌}
use Rattle.std.proofs.Math.Path.{ap}
use Rattle.std.proofs.Math.ListN.{length, length-map}
use Rattle.rules.specs.Verdict.{granted}
use Rattle.rules.specs.Edition.{old}
use Rattle.rules.specs.Shape.{cells}
use Rattle.rules.specs.ProgramFile.{Program, read_program}
use Rattle.rules.specs.Machine.{due, stopped, run}
use Rattle.rules.specs.SetFile.{TransferSet, read_set}
use Rattle.rules.specs.Operations.{storage_bytes, evaluate_set, set_of, program_set, scan, evaluate, write_unchanging}
use Rattle.rules.specs.Bench.{swap}
use Rattle.laws.specs.Bytes.{Bytes}
use Rattle.laws.specs.Swap as Swap
use Rattle.laws.specs.Swap.{swap_program}
use Rattle.laws.specs.ProgramFile.{read-wellformed}
use Rattle.laws.specs.Files.{old_sensible, build-accepted, program_leaves, evaluate-granted, evaluate-is-scan}
use Rattle.laws.specs.Composition.{compose_files, compose_groupings}
use Rattle.machine.specs.Scan.{Scans}
use Rattle.evaluate.specs.Evaluate.{Evaluates}
use Rattle.writer.specs.Writes.{Writes}
use Rattle.compose.specs.Contract.{Composes}
use Rattle.compose.specs.Unchanging.{composed-front, still-first, still-second}
use Rattle.build.specs.Contract.{Builds, built-front}
use Rattle.promises.specs.Answers.{Granted, granted_so}

-- What a granted evaluation gives, and leaves in the storage.
evaluated : (file storage : List ℕ) (lent : ℕ) (after : List ℕ) → Evaluates file storage lent (Ok tt) after
    → Granted (evaluate old file storage lent) (λ _. tt {0}) (λ v. v) tt after
evaluated file storage lent after c =
    granted_so (evaluate old file storage lent) (λ _. tt) (λ v. v) tt storage after c.answer c.leaves

-- ---- the formulas are the program

-- From storage s the machine of P stops within 2^n - 1 steps, with t.
pub record Stops (P : Program) (s t : List Bool) : Type 0 where
  pub steps : ℕ
  pub few : steps ≤ 2 ^ length P.instrs - 1
  pub stops : run P steps (due 0 s []) ≡ stopped t

module _ (file : List ℕ) (rows numbers heads n : ℕ) (before after : List ℕ)
    (c : Builds file rows numbers heads (Ok n) before after) (P : Program) (r : read_program old file ≡ granted P) where
  -- The file that `build` wrote.
  abbrev set : List ℕ
  set = take n after

  -- It is accepted, as the set of the program.
  pub built-set : read_set old set ≡ granted (program_set P)
  built-set =
      build-accepted old old_sensible file rows numbers heads (length before) P set r (built-front file rows numbers heads n before after c)

  -- For every program that `build` grants and every storage of its cells, evaluating the set written is what the machine leaves.
  pub formulas : (z : TransferSet) → read_set old set ≡ granted z → (s : List Bool) → length s ≡ cells P.shape → Stops P s (evaluate_set z s)
  formulas z q s e =
      let same : z ≡ program_set P = cc (built-set) in
      let l = program_leaves P (read-wellformed old file P r) s e in
      rw same (record { steps = l.steps; few = l.few; stops = l.stops })

  -- So `evaluate` leaves what the machine leaves.
  pub evaluate-leaves : (storage : List ℕ) (lent : ℕ) (t : List ℕ) → Evaluates set storage lent (Ok tt) t
      → (v : List Bool) × Stops P (map (eqb 1) storage) v × (t ≡ storage_bytes v)
  unfolding set_of
  evaluate-leaves storage lent t d =
      let g = evaluated set storage lent t d in
      let k = evaluate-granted old set storage lent g.what g.is in
      let same : k.set ≡ program_set P = cc (k.read, built-set) in
      let long : length (map (eqb 1) storage) ≡ cells P.shape
      = length-map storage (eqb 1) ∙ k.long ∙ ap (λ z. cells z.shape) same in
      let l = program_leaves P (read-wellformed old file P r) (map (eqb 1) storage) long in
      (g.what, rw (k.is, same) (record { steps = l.steps; few = l.few; stops = l.stops }), g.leaves)

  -- And where `scan` is granted, it leaves the same storage as `evaluate`.
  pub scan-evaluate : (storage : List ℕ) (budget lent steps : ℕ) (t u : List ℕ) → Scans file storage budget (Ok steps) t
      → Evaluates set storage lent (Ok tt) u → t ≡ u
  scan-evaluate storage budget lent steps t u a b =
      let x = granted_so (scan old file storage budget) (λ y. y.steps) (λ y. y.storage) steps storage t a.answer a.leaves in
      let y = evaluated set storage lent u b in
      let same = evaluate-is-scan old old_sensible file rows numbers heads (length before) set
      (built-front file rows numbers heads n before after c) storage budget lent x.what y.what x.is y.is in
      x.leaves ∙ ap storage_bytes (sym same) ∙ sym y.leaves

-- The swap program, for all five bits of every storage: the machine exchanges its two outputs,
pub swap_is_a_swap : (a b f e₁ e₂ : Bool)
    → run swap_program 7 (due 0 (a ∷ b ∷ f ∷ e₁ ∷ e₂ ∷ []) []) ≡ stopped (b ∷ a ∷ true ∷ false ∷ false ∷ [])
swap_is_a_swap = Swap.swap-is_a_swap

-- and so does the set in the file that `build` writes of the file `swap`, which is read as that program (`Swap.swap-read`).
pub swap_built : (rows numbers heads n : ℕ) (before after : List ℕ) → Builds swap rows numbers heads (Ok n) before after
    → (z : TransferSet) → read_set old (take n after) ≡ granted z
    → (a b f e₁ e₂ : Bool) → evaluate_set z (a ∷ b ∷ f ∷ e₁ ∷ e₂ ∷ []) ≡ b ∷ a ∷ true ∷ false ∷ false ∷ []
swap_built rows numbers heads n before after c z r a b f e₁ e₂ =
    Swap.swap-built a b f e₁ e₂ rows numbers heads (length before) (take n after) (built-front swap rows numbers heads n before after c) z r

-- ---- composing

-- A composed file evaluates as the first and then the second.
pub first_then_second : (first second : List ℕ) (rows numbers n : ℕ) (before after : List ℕ)
    → Composes first second rows numbers (Ok n) before after
    → (storage : List ℕ) (k l m : ℕ) (u v w : List ℕ) → Evaluates first storage k (Ok tt) u → Evaluates second u l (Ok tt) v
    → Evaluates (take n after) storage m (Ok tt) w → w ≡ v
first_then_second first second rows numbers n before after c storage k l m u v w a b d =
    let x = evaluated first storage k u a in
    let y = evaluated second u l v b in
    let z = evaluated (take n after) storage m w d in
    let second_is = ap (λ s. evaluate old second s l) (sym x.leaves) ∙ y.is in
    z.leaves
    ∙ ap storage_bytes (compose_files old old_sensible first second rows numbers (length before) (take n after)
    (composed-front first second rows numbers n before after c) storage k l m x.what y.what z.what x.is second_is z.is)
    ∙ sym y.leaves

-- Either grouping of three gives equal values. Each composition is of what the one before it wrote.
module _ (x y z : List ℕ) (r₁ n₁ k₁ r₂ n₂ k₂ r₃ n₃ k₃ r₄ n₄ k₄ : ℕ) (b₁ a₁ b₂ a₂ b₃ a₃ b₄ a₄ : List ℕ) where
  pub either_grouping : Composes x y r₁ n₁ (Ok k₁) b₁ a₁ → Composes (take k₁ a₁) z r₂ n₂ (Ok k₂) b₂ a₂
      → Composes y z r₃ n₃ (Ok k₃) b₃ a₃ → Composes x (take k₃ a₃) r₄ n₄ (Ok k₄) b₄ a₄
      → (storage : List ℕ) (k l : ℕ) (v w : List ℕ) → Evaluates (take k₂ a₂) storage k (Ok tt) v → Evaluates (take k₄ a₄) storage l (Ok tt) w → v ≡ w
  either_grouping c₁ c₂ c₃ c₄ storage k l v w d e =
      let p = evaluated (take k₂ a₂) storage k v d in
      let q = evaluated (take k₄ a₄) storage l w e in
      let front = composed-front in
      p.leaves
      ∙ ap storage_bytes (compose_groupings old old_sensible x y z (take k₁ a₁) (take k₃ a₃) (take k₂ a₂) (take k₄ a₄) r₁ n₁ (length b₁) r₂ n₂
      (length b₂) r₃ n₃ (length b₃) r₄ n₄ (length b₄) (front x y r₁ n₁ k₁ b₁ a₁ c₁) (front (take k₁ a₁) z r₂ n₂ k₂ b₂ a₂ c₂)
      (front y z r₃ n₃ k₃ b₃ a₃ c₃) (front x (take k₃ a₃) r₄ n₄ k₄ b₄ a₄ c₄) storage k l p.what q.what p.is q.is)
      ∙ sym q.leaves

-- The unchanging set of a set's shape, as `write_unchanging` wrote it, before or after the set gives back the set's bytes.
module _ (file : List ℕ) (b : Bytes file) (z : TransferSet) (r : read_set old file ≡ granted z) (n : ℕ) (blank still : List ℕ)
    (w : Writes (write_unchanging old z.shape (length blank)) (Ok n) blank still) (rows numbers k : ℕ) (before after : List ℕ) where
  pub unchanging-before : Composes (take n still) file rows numbers (Ok k) before after → take k after ≡ file
  unchanging-before = still-first file b z r n blank still w rows numbers k before after

  pub unchanging-after : Composes file (take n still) rows numbers (Ok k) before after → take k after ≡ file
  unchanging-after = still-second file b z r n blank still w rows numbers k before after
