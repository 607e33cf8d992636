-- Reading the instructions one after another for the place after each: a law for each answer, and for each turn of the walk.
use Prim.Native.Nat.{ℕ, zero, suc, ◌+◌, ◌-◌, ◌≤◌, ◌<◌}
use Rattle.std.specs.Prelude.{◌≡◌, Ok, Err, List, length, get_or}
use native.Mathlib.Omega.{arith}
use Rattle.std.proofs.Common.{add-one}
use borrow.Author.Tests.{eq-eqb, ne_eqb, le-leb, lt-leb}
use Rattle.rules.specs.Verdict.{granted, refused, ◌>>=◌}
use Rattle.rules.specs.Edition.{old}
use Rattle.rules.specs.Shape.{Shape}
use Rattle.rules.specs.ProgramFile.{codes, form_of, entry_at, body_at, read_body, read_instr, read_instrs}
use Rattle.base.specs.Answers.{Answer, refused_by, verdict_of}
use Rattle.base.specs.declared.refusal.Refusal.{Refusal}
use Rattle.program.specs.Stages.{ends}
use Rattle.program.specs.Chains.{ends_then, ends-made}

-- R9, R48: instruction i of n, whose body must stand at p; b is where its entry leads.
module _ (file : List ℕ) (sh : Shape) (n i p b : ℕ) (e : b ≡ body_at old file n i) where
  pub instr_misplaced : (b ≡ p → ⊥) → refused 4 (entry_at old i) ≡ ends (read_instr old file sh n i p)
  unfolding read_instr
  instr_misplaced h = rw (← e, ne_eqb b p h)

  module _ (h : b ≡ p) where
    pub instr_short : length file ≤ p → refused 1 (length file) ≡ ends (read_instr old file sh n i p)
    unfolding read_instr
    instr_short l = rw (← e, eq-eqb b p h, le-leb (length file) p l)

    pub instr_read : (r : Answer ℕ) → p < length file
        → verdict_of r ≡ ends (read_body old file sh n i p (form_of codes (get_or file p 0)))
        → verdict_of r ≡ ends (read_instr old file sh n i p)
    unfolding read_instr
    instr_read r l w = rw (← e, eq-eqb b p h, lt-leb (length file) p l) w

-- R9: the walk over n instructions has reached instruction i at p: what is left of it gives the answer of the whole.
pub record Reached (file : List ℕ) (sh : Shape) (n i p : ℕ) : Type 0 where
  pub most : i ≤ n
  pub same : ends (read_instrs old file sh n (n - i) p) ≡ ends (read_instrs old file sh n n (entry_at old n))

module _ (file : List ℕ) (sh : Shape) (n : ℕ) where
  -- One instruction, and then the rest.
  more : (k p : ℕ) → ends (read_instrs old file sh n (suc k) p)
      ≡ (ends (read_instr old file sh n (n - suc k) p) >>= λ q. ends (read_instrs old file sh n k q))
  unfolding read_instrs
  more k p = ends_then (read_instr old file sh n (n - suc k) p) _ _ (λ x. ends-made (read_instrs old file sh n k x.next) _)

  turn : (i p : ℕ) → i < n → ends (read_instrs old file sh n (n - i) p)
      ≡ (ends (read_instr old file sh n i p) >>= λ q. ends (read_instrs old file sh n (n - suc i) q))
  turn i p h =
      let k : n - i ≡ suc (n - suc i) = omega arith in
      let j : n - suc (n - suc i) ≡ i = omega arith in
      rw (k, more (n - suc i) p, j)

  pub walk_start : Reached file sh n 0 (entry_at old n)
  walk_start =
      let z : n - 0 ≡ n = omega arith in
      record { most = omega arith; same = rw z }

  module _ (i p : ℕ) (s : Reached file sh n i p) where
    pub walk_done : n ≤ i → granted p ≡ ends (read_instrs old file sh n n (entry_at old n))
    unfolding read_instrs
    walk_done h =
        let z : n - i ≡ zero = omega arith in
        rw z at s.same

    module _ (h : i < n) (r : Answer ℕ) (e : verdict_of r ≡ ends (read_instr old file sh n i p)) where
      pub walk_step : (q : ℕ) → r ≡ Ok q → Reached file sh n (i + 1) q
      walk_step q z = record { most = omega arith; same = rw (add-one, ← s.same, turn i p h, ← e, z) }

      pub walk_refused : (x : Refusal) → r ≡ Err x → refused_by x ≡ ends (read_instrs old file sh n n (entry_at old n))
      walk_refused x z = rw (← s.same, turn i p h, ← e, z)
