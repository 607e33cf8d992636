-- T(i) evaluates to what the machine does from instruction i, for every return list, in fewer than 2^(n-i) steps.
use Prim.Native.Nat.{ℕ, suc, ◌+◌, ◌-◌, ◌*◌, ◌^◌, ◌≤◌, ◌<◌}
use Rattle.std.specs.Prelude.{◌≡◌, Bool, true, false, cond, length, drop}
use Rattle.std.proofs.Math.Path.{refl, ap}
use Rattle.std.proofs.Common.{sym, ◌∙◌, length-drop, drop-cons, get_or-drop}
use mathlib.Core.List.{List, [], ◌∷◌}
use native.Mathlib.Omega.{arith}
use Rattle.std.proofs.Math.Decide.{dec_lt}
use Rattle.std.proofs.Math.ListN.{get_or}
use Rattle.std.proofs.Math.Pow.{pow_mono}
use Rattle.rules.specs.Shape.{Shape, vars, flag, cells}
use Rattle.rules.specs.Instr.{INIT, Instr, plain, JP, JPC, JS, JSC, END}
use Rattle.rules.specs.ProgramFile.{Program}
use Rattle.rules.specs.Machine.{perform, due, back, obey, step, run}
use Rattle.rules.specs.Rows.{Row, row_of_cell, value}
use Rattle.rules.specs.Sets.{Heads, act, after}
use Rattle.rules.specs.Build.{own, Built, set_at, turn_heads, turn, turns, transfer}
use Rattle.laws.specs.Canonical.{Canonical, Fine, WellFormed}
use Rattle.laws.specs.Rows.{cell-value}
use Rattle.laws.specs.Grow.{grown_ext}
use Rattle.laws.specs.Rule.{base-canonical}
use Rattle.laws.specs.Machine.{run-add}
use Rattle.laws.specs.After.{Stands, over, stands_ext, act-kept, after_acts, after-grown}
use Rattle.laws.specs.Choice.{choice_acts}
use Rattle.laws.specs.Build.{own_acts, own-grown, turn_heads-grown}

-- From instruction l and storage s the machine comes back with s', whatever the return list, in fewer than 2^(n-l) steps.
pub record Does (P : Program) (l : ℕ) (s s' : List Bool) : Type 0 where
  pub steps : ℕ
  pub few : suc steps ≤ 2 ^ (length P.instrs - l)
  pub runs : (r : List ℕ) → run P steps (due l s r) ≡ back s' r

module _ (P : Program) where
  abbrev n : ℕ
  n = length P.instrs

  half : (i l : ℕ) → i < l → l ≤ n → 2 * 2 ^ (n - l) ≤ 2 ^ (n - i)
  half i l h g =
      let k : 2 ^ suc (n - l) ≤ 2 ^ (n - i) = pow_mono {i = suc (n - l)} (omega arith) in
      omega arith

  -- An instruction that goes to a later one.
  does-go : (i l : ℕ) (s s₁ s' : List Bool) → i < l → l < n → ((r : List ℕ) → step P (due i s r) ≡ due l s₁ r) → Does P l s₁ s'
      → Does P i s s'
  unfolding run
  does-go i l s s₁ s' h g e d = record {
    steps = suc d.steps;
    few = omega (arith, d.few, half i l h (omega arith), pow_mono {i = 0} {j = n - l} (omega arith));
    runs = λ r. ap (run P d.steps) (e r) ∙ d.runs r;
  }

  -- An instruction that calls a later one and comes back to the next.
  does_call : (i l : ℕ) (s s₁ s' : List Bool) → i < l → l < n → ((r : List ℕ) → step P (due i s r) ≡ due l s (suc i ∷ r))
      → Does P l s s₁ → Does P (suc i) s₁ s' → Does P i s s'
  unfolding run
  does_call i l s s₁ s' h g e d d' = record {
    steps = suc (d.steps + d'.steps);
    few = omega (
      arith,
      d.few,
      d'.few,
      half i (suc i) (omega arith) (omega arith),
      pow_mono {i = n - l} {j = n - suc i} (omega arith),
    );
    runs = λ r. ap (run P (d.steps + d'.steps)) (e r) ∙ run-add P d.steps d'.steps (due l s (suc i ∷ r))
        ∙ ap (run P d'.steps) (d.runs (suc i ∷ r)) ∙ d'.runs r;
  }

  -- An instruction that comes back at once.
  does_end : (i : ℕ) (s s' : List Bool) → i < n → ((r : List ℕ) → step P (due i s r) ≡ back s' r) → Does P i s s'
  unfolding run
  does_end i s s' h e = record { steps = 1; few = pow_mono {i = 1} {j = n - i} (omega arith); runs = e }

  does_to : (l : ℕ) (s s₁ s₂ : List Bool) → s₁ ≡ s₂ → Does P l s s₁ → Does P l s s₂
  does_to l s s₁ s₂ e d = rw (← e) d

  abbrev sh : Shape
  sh = P.shape

  -- T(i) and on are built: their heads stand in the one table, and evaluating T(l) is what the machine does from l.
  pub record Made (i : ℕ) (b : Built) : Type 0 where
    pub canonical : Canonical (cells sh) b.tab
    pub stands : (l : ℕ) → i ≤ l → l < n → Stands (cells sh) (over b.tab (set_at b i l))
    pub does : (l : ℕ) → i ≤ l → l < n → (s : List Bool) → Does P l s (act b.tab (set_at b i l) s)

  -- The heads of one turn stand, and evaluating them is what the machine does from i.
  pub record Turned (i : ℕ) (h : Heads) : Type 0 where
    pub stands : Stands (cells sh) h
    pub does : (s : List Bool) → Does P i s (act h.tab h.heads s)

  module _ (wf : WellFormed P) (i : ℕ) (i<n : i < n) (b : Built) (m : Made (suc i) b) where
    abbrev T : ℕ → List ℕ
    T l = set_at b (suc i) l

    -- One step of the instruction that stands at i.
    at : (x : Instr) → get_or P.instrs i END ≡ x → (s : List Bool) (r : List ℕ) → step P (due i s r) ≡ obey sh x i s r
    at x e s r = ap (λ y. obey sh y i s r) e

    flag-value : (t : List Row) → Canonical (cells sh) t → (s : List Bool)
        → value t s (row_of_cell (flag sh)) ≡ get_or s (flag sh) false
    flag-value t w s = cell-value w s (flag sh) (omega arith)

    -- By the flag: where it is 1 the machine does what x says, else what y says.
    by_flag : (s x y : List Bool) (c : Bool) → (c ≡ true → Does P i s x) → (c ≡ false → Does P i s y) → Does P i s (cond c x y)
    by_flag s x y true p q = p refl
    by_flag s x y false p q = q refl

    turned : (x : Instr) → get_or P.instrs i END ≡ x → Fine (vars sh) n i x → Turned i (turn_heads sh i x b.tab T)
    turned (plain p) e f =
        let o = own b.tab sh p in
        let O = own_acts b.tab sh wf.deep m.canonical p f.0 in
        let y = m.stands (suc i) (omega arith) f.1 in
        let A = after_acts o.tab o.heads o.tab (T (suc i)) O.stands
        (stands_ext O.stands.canonical (grown_ext (own-grown b.tab sh p)) (T (suc i)) y) in
        record {
          stands = A.stands;
          does = λ s. does_to i s _ _
              (sym (A.val s ∙ ap (act o.tab (T (suc i))) (O.val s)
              ∙ act-kept (grown_ext (own-grown b.tab sh p)) (T (suc i)) y (perform sh p s)))
              (does-go i (suc i) s (perform sh p s) _ (omega arith) f.1 (at (plain p) e s)
              (m.does (suc i) (omega arith) f.1 (perform sh p s)));
        }
    turned (JP l) e f = record {
      stands = m.stands l f.0 f.1;
      does = λ s. does-go i l s s _ f.0 f.1 (at (JP l) e s) (m.does l f.0 f.1 s);
    }
    turned (JPC l) e f =
        let A = choice_acts b.tab (row_of_cell (flag sh)) (T l) (T (suc i)) (omega (arith, m.canonical.long))
        (m.stands l f.0 f.1) (m.stands (suc i) (omega arith) (omega arith)) in
        record {
          stands = A.stands;
          does = λ s. does_to i s _ _
              (sym (A.val s ∙ ap (λ c. cond c (act b.tab (T l) s) (act b.tab (T (suc i)) s))
              (flag-value b.tab m.canonical s)))
              (by_flag s _ _ (get_or s (flag sh) false)
              (λ q. does-go i l s s _ f.0 f.1 (λ r. at (JPC l) e s r ∙ rw q) (m.does l f.0 f.1 s))
              (λ q. does-go i (suc i) s s _ (omega arith) (omega arith) (λ r. at (JPC l) e s r ∙ rw q)
              (m.does (suc i) (omega arith) (omega arith) s)));
        }
    turned (JS l) e f =
        let A = after_acts b.tab (T l) b.tab (T (suc i)) (m.stands l f.0 f.1)
        (m.stands (suc i) (omega arith) (omega arith)) in
        record {
          stands = A.stands;
          does = λ s. does_to i s _ _ (sym (A.val s))
              (does_call i l s _ _ f.0 f.1 (at (JS l) e s) (m.does l f.0 f.1 s)
              (m.does (suc i) (omega arith) (omega arith) (act b.tab (T l) s)));
        }
    turned (JSC l) e f =
        let a = after b.tab (T l) b.tab (T (suc i)) in
        let y = m.stands (suc i) (omega arith) (omega arith) in
        let B = after_acts b.tab (T l) b.tab (T (suc i)) (m.stands l f.0 f.1) y in
        let more = grown_ext (after-grown b.tab (T l) b.tab (T (suc i))) in
        let w = B.stands.canonical in
        let A = choice_acts a.tab (row_of_cell (flag sh)) a.heads (T (suc i)) (omega (arith, w.long)) B.stands
        (stands_ext w more (T (suc i)) y) in
        record {
          stands = A.stands;
          does = λ s. does_to i s _ _ (sym (A.val s ∙ cc (flag-value a.tab w s, B.val s, act-kept more (T (suc i)) y s)))
              (by_flag s _ _ (get_or s (flag sh) false)
              (λ q. does_call i l s _ _ f.0 f.1 (λ r. at (JSC l) e s r ∙ rw q) (m.does l f.0 f.1 s)
              (m.does (suc i) (omega arith) (omega arith) (act b.tab (T l) s)))
              (λ q. does-go i (suc i) s s _ (omega arith) (omega arith) (λ r. at (JSC l) e s r ∙ rw q)
              (m.does (suc i) (omega arith) (omega arith) s)));
        }
    turned END e f =
        let O = own_acts b.tab sh wf.deep m.canonical INIT tt in
        record {
          stands = O.stands;
          does = λ s. does_to i s _ _ (sym (O.val s))
              (does_end i s (perform sh INIT s) i<n (at END e s));
        }

    -- One turn of building.
    turn-made : Made i (turn sh i (get_or P.instrs i END) b)
    unfolding turn
    turn-made =
        let x = get_or P.instrs i END in
        let t = turned x refl (wf.fine i i<n) in
        let more = grown_ext (turn_heads-grown sh i x b.tab T) in
        record {
          canonical = t.stands.canonical;
          stands = λ l h g. elim (dec_lt i l) [
            | yes p ↦ rw (past l p) (stands_ext t.stands.canonical more (T l) (m.stands l p g))
            | no p ↦ (let z : l ≡ i = omega arith in rw (z, sub_self) t.stands)
          ];
          does = λ l h g s. elim (dec_lt i l) [
            | yes p ↦ rw (past l p, act-kept more (T l) (m.stands l p g) s) (m.does l p g s)
            | no p ↦ (let z : l ≡ i = omega arith in rw (z, sub_self) (t.does s))
          ];
        }
      where
        past : (l : ℕ) → i < l → l - i ≡ suc (l - suc i)
        past l p = omega arith

        sub_self : i - i ≡ 0
        sub_self = omega arith

  -- The instructions xs stand in the program from i on, to its end.
  pub record From (i : ℕ) (xs : List Instr) : Type 0 where
    pub size : i + length xs ≡ n
    pub same : (j : ℕ) → j < length xs → get_or xs j END ≡ get_or P.instrs (i + j) END

  turns-made : WellFormed P → (i : ℕ) (xs : List Instr) → From i xs → Made i (turns sh i xs)
  unfolding turns
  turns-made wf i [] f = record {
    canonical = base-canonical (cells sh);
    stands = λ l h g. absurd (omega (arith, f.size));
    does = λ l h g. absurd (omega (arith, f.size));
  }
  turns-made wf i (x ∷ xs) f =
      let rest : From (suc i) xs = record {
        size = omega (arith, f.size);
        same = λ j h. f.same (suc j) (omega arith)
            ∙ ap (λ k. get_or P.instrs k END) (omega arith);
      } in
      let here : x ≡ get_or P.instrs i END = f.same 0 (omega arith) ∙ ap (λ k. get_or P.instrs k END) (omega arith) in
      rw here (turn-made wf i (omega (arith, f.size)) (turns sh (suc i) xs) (turns-made wf (suc i) xs rest))

  -- What is built once T(n-1) down to T(i) are: every T(l) of these stands, and evaluating it is what the machine does from l on.
  pub made-from : WellFormed P → (i : ℕ) → i ≤ n → Made i (turns sh i (drop i P.instrs))
  made-from wf i h = turns-made wf i (drop i P.instrs) (record {
    size = omega (arith, length-drop i P.instrs);
    same = λ j l. get_or-drop i P.instrs j END;
  })

  -- One turn more.
  pub turn-from : (i : ℕ) → i < n
      → turns sh i (drop i P.instrs) ≡ turn sh i (get_or P.instrs i END) (turns sh (suc i) (drop (suc i) P.instrs))
  unfolding turns
  turn-from i h = rw (drop-cons P.instrs i END h)

  -- Every T(l) of a program stands in the one table, and evaluating it is what the machine does from l on.
  pub transfer-made : WellFormed P → Made 0 (turns sh 0 P.instrs)
  transfer-made wf = made-from wf 0 (omega arith)

  -- The program's set stands.
  pub transfer-stands : WellFormed P → Stands (cells sh) (transfer P)
  unfolding transfer
  transfer-stands wf = (transfer-made wf).stands 0 (omega arith) wf.some

  -- Evaluating the program's set is what the machine does from instruction 0.
  pub transfer-does : WellFormed P → (s : List Bool) → Does P 0 s (act (transfer P).tab (transfer P).heads s)
  unfolding transfer
  transfer-does wf = (transfer-made wf).does 0 (omega arith) wf.some
