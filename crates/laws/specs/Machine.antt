-- The stepping machine taken several steps at a time, and what a scan within a budget tells of it.
use Rattle.std.specs.Prelude.{ℕ, zero, suc, ◌+◌, ◌-◌, ◌≤◌, ◌<◌, ◌≡◌, refl, Bool, List, []}
use Rattle.std.proofs.Common.{◌∙◌, arith, zero-add, suc-add}
use Rattle.std.proofs.Math.Decide.{dec_lt}
use Rattle.std.proofs.Math.Nat.{sub-zero}
use Rattle.rules.specs.Verdict.{Verdict, granted, refused}
use Rattle.rules.specs.ProgramFile.{Program}
use Rattle.rules.specs.Machine.{State, due, stopped, step, run, Scanned, scan_from, scan_program}

-- A stopped machine stays as it is.
pub run-stopped : (P : Program) (k : ℕ) (s : List Bool) → run P k (stopped s) ≡ stopped s
unfolding run
run-stopped P zero s = refl
run-stopped P (suc k) s = run-stopped P k s

-- Steps add up: a steps and then b more.
pub run-add : (P : Program) (a b : ℕ) (z : State) → run P (a + b) z ≡ run P b (run P a z)
unfolding run
run-add P zero b z = rw zero-add
run-add P (suc a) b z = rw suc-add (run-add P a b (step P z))

-- Past the stop, more steps change nothing.
pub run_past : (P : Program) (k b : ℕ) (z : State) (s : List Bool) → run P k z ≡ stopped s → k ≤ b → run P b z ≡ stopped s
run_past P k b z s e h =
    let q : b ≡ k + (b - k) = omega arith in
    cc (run-add P k (b - k) z, run-stopped P (b - k) s)

-- What was scanned from z on, after n steps and within b more, is the machine's own: it stops so after k steps, and not sooner.
pub record Counts (P : Program) (b n k : ℕ) (z : State) (y : Scanned) : Type 0 where
  pub least : n ≤ y.steps
  pub most : y.steps ≤ n + b
  pub stops : run P k z ≡ stopped y.storage
  pub not-sooner : (j : ℕ) → j < k → (s : List Bool) → run P j z ≡ stopped s → ⊥

-- After all b steps the machine still has instruction p due, which is refusal 11.
pub record StillDue (P : Program) (b : ℕ) (z : State) (q p : ℕ) : Type 0 where
  pub number : q ≡ 11
  pub storage : List Bool
  pub returns : List ℕ
  pub after : run P b z ≡ due p storage returns

-- What the answer of a scan says of the machine.
abbrev Tells : Program → ℕ → ℕ → State → Verdict Scanned → Type 0
Tells P b n z (granted y) = Counts P b n (y.steps - n) z y
Tells P b n z (refused q p) = StillDue P b z q p

-- Where the machine is stopped already, no step is counted.
counts_none : (P : Program) (b n : ℕ) (s : List Bool) → Counts P b n (n - n) (stopped s) (record { steps = n; storage = s })
counts_none P b n s =
    record {
      least = omega arith;
      most = omega arith;
      stops = run-stopped P (n - n) s;
      not-sooner = λ j h. absurd (omega arith);
    }

-- A machine that is not stopped and then counts k steps counts one more.
counts_more : (P : Program) (b n k i : ℕ) (s : List Bool) (r : List ℕ) (y : Scanned)
    → Counts P b (suc n) k (step P (due i s r)) y
    → Counts P (suc b) n (suc k) (due i s r) y
unfolding run
counts_more P b n k i s r y c = record { least = omega arith; most = omega arith; stops = c.stops; not-sooner = sooner }
  where
    sooner : (j : ℕ) → j < suc k → (s' : List Bool) → run P j (due i s r) ≡ stopped s' → ⊥
    sooner zero h s' e =
        let z : ◌≡◌ {A = ℕ} 0 1 = cc in
        omega arith
    sooner (suc j) h s' e = c.not-sooner j (omega arith) s' e

-- Whatever a scan answers, it tells what the machine does, because it takes the machine's steps one by one.
scan-tells : (P : Program) (b n : ℕ) (z : State) → Tells P b n z (scan_from P b n z)
unfolding scan_from run
scan-tells P zero n (due i s r) = record { number = refl; storage = s; returns = r; after = refl }
scan-tells P zero n (stopped s) = counts_none P 0 n s
scan-tells P (suc b) n (stopped s) = counts_none P (suc b) n s
scan-tells P (suc b) n (due i s r) = go (scan_from P b (suc n) (step P (due i s r)))
    (scan-tells P b (suc n) (step P (due i s r)))
  where
    go : (v : Verdict Scanned) → Tells P b (suc n) (step P (due i s r)) v → Tells P (suc b) n (due i s r) v
    go (granted y) c =
        let q : y.steps - n ≡ suc (y.steps - suc n) = omega arith in
        rw q (counts_more P b n (y.steps - suc n) i s r y c)
    go (refused q p) d = record { number = d.number; storage = d.storage; returns = d.returns; after = d.after }

-- A scan that is granted reports the machine's own count.
pub scan_counts : (P : Program) (b n : ℕ) (z : State) (y : Scanned) → scan_from P b n z ≡ granted y
    → Counts P b n (y.steps - n) z y
scan_counts P b n z y e = rw e at (scan-tells P b n z)

-- A whole scan that is granted reports the machine's own count.
pub scan-whole : (P : Program) (b : ℕ) (s : List Bool) (y : Scanned) → scan_program P b s ≡ granted y
    → Counts P b 0 y.steps (due 0 s []) y
scan-whole P b s y e = rw sub-zero at (scan_counts P b 0 (due 0 s []) y e)

-- A scan that is refused has spent its budget, and the place is the instruction due.
pub scan-refused : (P : Program) (b n : ℕ) (z : State) (q p : ℕ) → scan_from P b n z ≡ refused q p → StillDue P b z q p
scan-refused P b n z q p e = rw e at (scan-tells P b n z)

-- And where the budget is spent with instruction p due, that is the refusal.
pub scan_spent : (P : Program) (b n : ℕ) (z : State) (p : ℕ) (s : List Bool) (r : List ℕ) → run P b z ≡ due p s r
    → scan_from P b n z ≡ refused 11 p
scan_spent P b n z p s r e = go (scan_from P b n z) refl (scan-tells P b n z)
  where
    go : (v : Verdict Scanned) → scan_from P b n z ≡ v → Tells P b n z v → scan_from P b n z ≡ refused 11 p
    go (granted y) q c =
        let stop = run_past P (y.steps - n) b z y.storage c.stops (omega arith) in
        let no : ◌≡◌ {A = ℕ} 0 1 = cc in
        absurd (omega arith)
    go (refused k i) q d =
        let place : i ≡ p = cc d.after in
        cc d.number

-- A scan with budget enough for the machine to stop is granted, with the storage at the stop.
pub scan_complete : (P : Program) (b n k : ℕ) (z : State) (s : List Bool) → run P k z ≡ stopped s → k ≤ b
    → (y : Scanned) × (scan_from P b n z ≡ granted y) × (y.storage ≡ s)
scan_complete P b n k z s e h = go (scan_from P b n z) refl (scan-tells P b n z) (run_past P k b z s e h)
  where
    go : (v : Verdict Scanned) → scan_from P b n z ≡ v → Tells P b n z v → run P b z ≡ stopped s
        → (y : Scanned) × (scan_from P b n z ≡ granted y) × (y.storage ≡ s)
    go (granted y) q c stop = (y, q, cc (run_past P (y.steps - n) b z y.storage c.stops (omega arith)))
    go (refused q p) g d stop =
        let z : ◌≡◌ {A = ℕ} 0 1 = cc d.after in
        absurd (omega arith)

-- And it counts the steps to the stop.
pub scan-stops : (P : Program) (b k : ℕ) (z : State) (s : List Bool) → run P k z ≡ stopped s
    → ((j : ℕ) → j < k → (t : List Bool) → run P j z ≡ stopped t → ⊥) → k ≤ b
    → scan_from P b 0 z ≡ granted (record { steps = k; storage = s })
scan-stops P b k z s e sooner h =
    let (y, q, is) = scan_complete P b 0 k z s e h in
    let c : Counts P b 0 y.steps z y = rw sub-zero at (scan_counts P b 0 z y q) in
    let steps : y.steps ≡ k = elim (dec_lt y.steps k) [
      | yes l ↦ absurd (sooner y.steps l y.storage c.stops)
      | no l ↦ elim (dec_lt k y.steps) [
        | yes m ↦ absurd (c.not-sooner k m s e)
        | no m ↦ omega arith
      ]
    ] in
    q ∙ λ i. granted (record { steps = steps i; storage = is i })
