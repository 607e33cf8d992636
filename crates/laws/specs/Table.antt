-- The whole table of instructions: one step of the machine, exactly, for every instruction and every state.
use Rattle.std.specs.Prelude.{ℕ, suc, ◌+◌, ◌-◌, ◌≤◌, ◌<◌, ◌≡◌, refl, Bool, true, false, ◌↔◌, length, get_or}
use Rattle.std.proofs.Common.{sym, ap, ◌∙◌, arith, lt-ltb, le-ltb, eq-eqb, ne_eqb}
use mathlib.Core.List.{List, [], ◌∷◌, map, map-map}
use Rattle.std.proofs.Math.Decide.{dec_lt}
use Rattle.std.proofs.lemmas.List.{length-map}
use Rattle.rules.specs.Lists.{from}
use Rattle.rules.specs.Shape.{Shape, flag, cells}
use Rattle.rules.specs.Expr.{eval}
use Rattle.rules.specs.Instr.{Plain, INIT, put, stack, effect, effects, Instr, plain, JP, JPC, JS, JSC, END}
use Rattle.rules.specs.ProgramFile.{Program}
use Rattle.rules.specs.Machine.{State, due, stopped, perform, obey, step}
use Rattle.laws.specs.Lists.{length_from, map-from, get_or-map-from}

-- R16: t has every cell, each with the value of its expression in the one table, all on the storage s before.
pub record Performs (sh : Shape) (p : Plain) (s t : List Bool) : Type 0 where
  pub long : length t ≡ cells sh
  pub value : (c : ℕ) → c < cells sh → get_or t c false ≡ eval s (effect sh p c)

-- R17, R20: t is s with f at 1 and the stack at 0.
pub record Resets (sh : Shape) (s t : List Bool) : Type 0 where
  pub long : length t ≡ cells sh
  pub variable : (c : ℕ) → c < flag sh → get_or t c false ≡ get_or s c false
  pub one : get_or t (flag sh) false ≡ true
  pub none : (k : ℕ) → 1 ≤ k → k ≤ sh.depth → get_or t (flag sh + k) false ≡ false

-- R20, R22, R23: what comes of instruction i on a storage s, with a return list r: the next state.
pub data Obeys (sh : Shape) (i : ℕ) (s : List Bool) : Instr → List ℕ → State → Type 0 where
  next : {p : Plain} {r : List ℕ} (t : List Bool) → Performs sh p s t → Obeys sh i s (plain p) r (due (suc i) t r)
  jumps : {l : ℕ} {r : List ℕ} → Obeys sh i s (JP l) r (due l s r)
  jumps_if : {l : ℕ} {r : List ℕ} → get_or s (flag sh) false ≡ true → Obeys sh i s (JPC l) r (due l s r)
  passes_jump : {l : ℕ} {r : List ℕ} → get_or s (flag sh) false ≡ false → Obeys sh i s (JPC l) r (due (suc i) s r)
  calls : {l : ℕ} {r : List ℕ} → Obeys sh i s (JS l) r (due l s (suc i ∷ r))
  calls_if : {l : ℕ} {r : List ℕ} → get_or s (flag sh) false ≡ true → Obeys sh i s (JSC l) r (due l s (suc i ∷ r))
  passes_call : {l : ℕ} {r : List ℕ} → get_or s (flag sh) false ≡ false → Obeys sh i s (JSC l) r (due (suc i) s r)
  returns : {j : ℕ} {r : List ℕ} (t : List Bool) → Resets sh s t → Obeys sh i s END (j ∷ r) (due j t r)
  stops : (t : List Bool) → Resets sh s t → Obeys sh i s END [] (stopped t)

-- R24: one step of a program's machine; a stopped one stays so.
pub data Steps (P : Program) : State → State → Type 0 where
  obeys : {i : ℕ} {s : List Bool} {r : List ℕ} {z : State} → Obeys P.shape i s (get_or P.instrs i END) r z → Steps P (due i s r) z
  stays : {s : List Bool} → Steps P (stopped s) (stopped s)

-- ---- storages, cell by cell

module _ (sh : Shape) (p : Plain) (s : List Bool) where
  performed : perform sh p s ≡ map (λ c. eval s (effect sh p c)) (from 0 (cells sh))
  unfolding perform effects
  performed = map-map (eval s) (effect sh p) (from 0 (cells sh))

  -- R16: performing an instruction gives exactly such a storage.
  pub perform_exactly : (t : List Bool) → (perform sh p s ≡ t) ↔ Performs sh p s t
  perform_exactly t = (there, back)
    where
      there : perform sh p s ≡ t → Performs sh p s t
      there e =
          let is = sym e ∙ performed in
          record {
            long = ap length is ∙ length-map (from 0 (cells sh)) _ ∙ length_from 0 (cells sh);
            value = λ c h. ap (λ l. get_or l c false) is ∙ get_or-map-from (λ k. eval s (effect sh p k)) false (cells sh) c h;
          }

      back : Performs sh p s t → perform sh p s ≡ t
      back w =
          performed ∙ ap (λ n. map (λ c. eval s (effect sh p c)) (from 0 n)) (sym w.long)
          ∙ map-from (λ c. eval s (effect sh p c)) false t (λ c h. sym (w.value c (omega (arith, w.long))))

-- R20: END leaves the cells as INIT does, and that is such a storage.
pub reset_exactly : (sh : Shape) (s t : List Bool) → (perform sh INIT s ≡ t) ↔ Resets sh s t
unfolding effect eval put stack
reset_exactly sh s t = (λ e. there ((perform_exactly sh INIT s t).0 e), λ w. (perform_exactly sh INIT s t).1 (back w))
  where
    there : Performs sh INIT s t → Resets sh s t
    there w = record {
      long = w.long;
      variable = λ c h. w.value c (omega arith) ∙ rw (ne_eqb c (flag sh) (λ q. omega arith), le-ltb (flag sh) c (omega arith));
      one = w.value (flag sh) (omega arith) ∙ rw (eq-eqb (flag sh) (flag sh) refl);
      none = λ k h l. w.value (flag sh + k) (omega arith)
          ∙ rw (ne_eqb (flag sh + k) (flag sh) (λ q. omega arith), lt-ltb (flag sh) (flag sh + k) (omega arith));
    }

    back : Resets sh s t → Performs sh INIT s t
    back w = record { long = w.long; value = cell }
      where
        cell : (c : ℕ) → c < cells sh → get_or t c false ≡ eval s (effect sh INIT c)
        cell c h = elim (dec_lt c (flag sh)) [
          | yes a ↦ rw (ne_eqb c (flag sh) (λ q. omega arith), le-ltb (flag sh) c (omega arith)) (w.variable c a)
          | no a ↦ elim (dec_lt (flag sh) c) [
            | yes b ↦
                let k : flag sh + (c - flag sh) ≡ c = omega arith in
                rw (ne_eqb c (flag sh) (λ q. omega arith), lt-ltb (flag sh) c b)
                (ap (λ n. get_or t n false) (sym k) ∙ w.none (c - flag sh) (omega arith) (omega arith))
            | no b ↦
                let k : c ≡ flag sh = omega arith in
                rw (k, eq-eqb (flag sh) (flag sh) refl) w.one
          ]
        ]

-- ---- one step

-- An instruction obeyed is exactly that.
pub obey_exactly : (sh : Shape) (x : Instr) (i : ℕ) (s : List Bool) (r : List ℕ) (z : State) → (obey sh x i s r ≡ z) ↔ Obeys sh i s x r z
obey_exactly sh x i s r z = (λ e. rw (sym e) (there x r (get_or s (flag sh) false) refl), only)
  where
    there : (x : Instr) (r : List ℕ) (b : Bool) → get_or s (flag sh) false ≡ b → Obeys sh i s x r (obey sh x i s r)
    there (plain p) r b f = next (perform sh p s) ((perform_exactly sh p s (perform sh p s)).0 refl)
    there (JP l) r b f = jumps
    there (JPC l) r true f = rw f (jumps_if f)
    there (JPC l) r false f = rw f (passes_jump f)
    there (JS l) r b f = calls
    there (JSC l) r true f = rw f (calls_if f)
    there (JSC l) r false f = rw f (passes_call f)
    there END [] b f = stops (perform sh INIT s) ((reset_exactly sh s (perform sh INIT s)).0 refl)
    there END (j ∷ r) b f = returns (perform sh INIT s) ((reset_exactly sh s (perform sh INIT s)).0 refl)

    only : {x : Instr} {r : List ℕ} {z : State} → Obeys sh i s x r z → obey sh x i s r ≡ z
    only (next {p = p} {r = r} t w) = ap (λ u. due (suc i) u r) ((perform_exactly sh p s t).1 w)
    only jumps = refl
    only (jumps_if f) = rw f
    only (passes_jump f) = rw f
    only calls = refl
    only (calls_if f) = rw f
    only (passes_call f) = rw f
    only (returns {j = j} {r = r} t w) = ap (λ u. due j u r) ((reset_exactly sh s t).1 w)
    only (stops t w) = ap stopped ((reset_exactly sh s t).1 w)

-- R24: one step, of every program and in every state, is exactly that.
pub step_exactly : (P : Program) (y z : State) → (step P y ≡ z) ↔ Steps P y z
step_exactly P y z = (λ e. rw (sym e) (there y), only)
  where
    there : (y : State) → Steps P y (step P y)
    there (due i s r) = obeys ((obey_exactly P.shape (get_or P.instrs i END) i s r (step P (due i s r))).0 refl)
    there (stopped s) = stays

    only : {y z : State} → Steps P y z → step P y ≡ z
    only (obeys {i = i} {s = s} {r = r} {z = z} w) = (obey_exactly P.shape (get_or P.instrs i END) i s r z).1 w
    only stays = refl
