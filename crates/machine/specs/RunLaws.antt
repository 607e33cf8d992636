-- How a run ends, from how its first instruction leads and how the runs after it end.
use Rattle.std.specs.Prelude.{ℕ, zero, suc, ◌+◌, ◌-◌, ◌≡◌, Result, Ok, Err, refl, Bool, List, [], ◌∷◌}
use Rattle.std.proofs.Common.{ap, ◌∙◌, arith, add-one}
use Rattle.rules.specs.Verdict.{granted}
use Rattle.rules.specs.ProgramFile as R
use Rattle.rules.specs.Machine.{State, due, stopped, back, step, scan_from, scan_program}
use Rattle.base.specs.declared.kinds.Instr.{Instr}
use Rattle.machine.specs.declared.obey.Move.TheVariants.{On, Call, End}
use Rattle.storage.specs.Cells.{bits_of, Storage}
use Rattle.program.specs.Standing.{program_in}
use Rattle.machine.specs.Run.{Leads, Obeys, Comes, Ends}

-- With budget left, a scan takes one step.
one-step : (P : R.Program) (left n i : ℕ) (b : List Bool) (q : List ℕ) → (left ≡ 0 → ⊥)
    → scan_from P left n (due i b q) ≡ scan_from P (left - 1) (suc n) (step P (due i b q))
unfolding scan_from
one-step P zero n i b q h = absurd (h refl)
one-step P (suc k) n i b q h =
    let e : k ≡ suc k - 1 = omega arith in
    ap (λ m. scan_from P m (suc n) (step P (due i b q))) e

counted : (P : R.Program) (m a b : ℕ) (z : State) → a ≡ b → scan_from P m a z ≡ scan_from P m b z
counted P m a b z e = ap (λ k. scan_from P m k z) e

comes_spent : (P : R.Program) (s : List ℕ) (i : Instr) → Comes P s i.0 0 (Err i) s
unfolding scan_from
comes_spent P s i n q = refl

comes_end : (P : R.Program) (s : List ℕ) (i left : ℕ) (s' : List ℕ) → (left ≡ 0 → ⊥) → Leads P s i End s'
    → Comes P s i left (Ok (left - 1)) s'
comes_end P s i left s' h g = (
  omega arith,
  λ n q. one-step P left n i (bits_of s) q h ∙ ap (scan_from P (left - 1) (suc n)) (g q)
      ∙ counted P (left - 1) (suc n) (n + (left - (left - 1))) (back (bits_of s') q) (omega arith),
)

comes-on : (P : R.Program) (s s₁ s₂ : List ℕ) (i left : ℕ) (j : Instr) (r : Result ℕ Instr) → (left ≡ 0 → ⊥) → Leads P s i (On j) s₁
    → Comes P s₁ j.0 (left - 1) r s₂ → Comes P s i left r s₂
comes-on P s s₁ s₂ i left j (Ok m) h g c = (
  omega (arith, c.0),
  λ n q. one-step P left n i (bits_of s) q h
      ∙ ap (scan_from P (left - 1) (suc n)) (g.2 q) ∙ c.1 (suc n) q
      ∙ counted P m (suc n + (left - 1 - m)) (n + (left - m)) (back (bits_of s₂) q) (omega (arith, c.0)),
)
comes-on P s s₁ s₂ i left j (Err k) h g c = λ n q. one-step P left n i (bits_of s) q h
    ∙ ap (scan_from P (left - 1) (suc n)) (g.2 q) ∙ c (suc n) q

comes_call : (P : R.Program) (s s₁ s₂ s₃ : List ℕ) (i left m : ℕ) (l : Instr) (r : Result ℕ Instr) → (left ≡ 0 → ⊥) → Leads P s i (Call l) s₁
    → Comes P s₁ l.0 (left - 1) (Ok m) s₂ → Comes P s₂ (suc i) m r s₃ → Comes P s i left r s₃
comes_call P s s₁ s₂ s₃ i left m l (Ok k) h g c d = (
  omega (arith, c.0, d.0),
  λ n q. one-step P left n i (bits_of s) q h
      ∙ ap (scan_from P (left - 1) (suc n)) (g.2 q) ∙ c.1 (suc n) (suc i ∷ q) ∙ d.1 (suc n + (left - 1 - m)) q
      ∙ counted P k (suc n + (left - 1 - m) + (m - k)) (n + (left - k)) (back (bits_of s₃) q) (omega (arith, c.0, d.0)),
)
comes_call P s s₁ s₂ s₃ i left m l (Err k) h g c d = λ n q. one-step P left n i (bits_of s) q h
    ∙ ap (scan_from P (left - 1) (suc n)) (g.2 q) ∙ c.1 (suc n) (suc i ∷ q) ∙ d (suc n + (left - 1 - m)) q

comes_lost : (P : R.Program) (s s₁ s₂ : List ℕ) (i left : ℕ) (l j : Instr) → (left ≡ 0 → ⊥) → Leads P s i (Call l) s₁
    → Comes P s₁ l.0 (left - 1) (Err j) s₂ → Comes P s i left (Err j) s₂
comes_lost P s s₁ s₂ i left l j h g c = λ n q. one-step P left n i (bits_of s) q h ∙ ap (scan_from P (left - 1) (suc n)) (g.2 q)
    ∙ c (suc n) (suc i ∷ q)

-- A scan whose whole run came back was granted, with as many steps as were spent.
pub scan-back : (P : R.Program) (s s' : List ℕ) (budget m : ℕ) → Comes P s 0 budget (Ok m) s'
    → scan_program P budget (bits_of s) ≡ granted (record { steps = budget - m; storage = bits_of s' })
unfolding scan_from
scan-back P s s' budget m c =
    c.1 0 [] ∙ counted P m (0 + (budget - m)) (budget - m) (stopped (bits_of s')) (omega arith) ∙ last m (budget - m)
  where
    last : (m k : ℕ) → scan_from P m k (stopped (bits_of s')) ≡ granted (record { steps = k; storage = bits_of s' })
    last zero k = refl
    last (suc m) k = refl

-- ---- the same with the storage's form

module _ (file s : List ℕ) (i left : ℕ) where
  pub ends_spent : (k : Instr) → k.0 ≡ i → left ≡ 0 → Storage (program_in file).shape s → Ends file s i left (Err k) s
  ends_spent k e z w = rw (← e, z) (record { comes = comes_spent (program_in file) s k; stored = w })

  module _ (h : left ≡ 0 → ⊥) (s₁ : List ℕ) where
    pub ends_end : Obeys file s i End s₁ → Ends file s i left (Ok (left - 1)) s₁
    ends_end o = record { comes = comes_end (program_in file) s i left s₁ h o.leads; stored = o.stored }

    pub ends_on : (j : Instr) (s₂ : List ℕ) (t : Result ℕ Instr) → Obeys file s i (On j) s₁ → Ends file s₁ j.0 (left - 1) t s₂
        → Ends file s i left t s₂
    ends_on j s₂ t o c = record {
      comes = comes-on (program_in file) s s₁ s₂ i left j t h o.leads c.comes;
      stored = c.stored;
    }

    pub ends_call : (l : Instr) (m : ℕ) (s₂ s₃ : List ℕ) (t : Result ℕ Instr) → Obeys file s i (Call l) s₁
        → Ends file s₁ l.0 (left - 1) (Ok m) s₂
        → Ends file s₂ (i + 1) m t s₃ → Ends file s i left t s₃
    ends_call l m s₂ s₃ t o c d = record {
      comes = comes_call (program_in file) s s₁ s₂ s₃ i left m l t h o.leads c.comes (rw add-one at d.comes);
      stored = d.stored;
    }

    pub ends_lost : (l j : Instr) (s₂ : List ℕ) → Obeys file s i (Call l) s₁ → Ends file s₁ l.0 (left - 1) (Err j) s₂
        → Ends file s i left (Err j) s₂
    ends_lost l j s₂ o c = record {
      comes = comes_lost (program_in file) s s₁ s₂ i left l j h o.leads c.comes;
      stored = c.stored;
    }
