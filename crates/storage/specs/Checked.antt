-- What the check of a storage answers, in the words of the rules, and what its answers tell.
use Rattle.std.specs.Prelude.{ℕ, ◌+◌, ◌≤◌, ◌<◌, ◌≡◌, Bool, not, List, get_or, ltb, eqb}
use Rattle.std.proofs.Math.Path.{sym}
use Rattle.std.proofs.Common.{◌∙◌}
use Rattle.std.proofs.Math.Bool.{false}
use native.Mathlib.Omega.{arith}
use Rattle.std.proofs.Math.Nat.{zero-add}
use Rattle.std.proofs.Math.Decide.{dec_lt}
use Rattle.std.proofs.Math.ListN.{length, get_or-eq_default}
use borrow.Author.Tests.{le-ltb, ltb-false, eqb-true, not-false, lt-ltb, eq-eqb, ne_eqb}
use Rattle.rules.specs.Verdict.{Verdict, granted, refused, ◌>>=◌}
use Rattle.rules.specs.Lists.{seek}
use Rattle.laws.specs.Lists.{search_none, none_search, seek-first}
use Rattle.laws.specs.Verdict.{bind_granted, check_granted}
use Rattle.rules.specs.Operations.{check_storage}
use Rattle.storage.specs.Cells.{bits_of, Bits}

-- R50: the check of a storage that hands nothing back.
abbrev pub check_cells : ℕ → List ℕ → Verdict (Unit {0})
check_cells C s = do
  _ ← check_storage C s
  granted tt

-- A cell that is no bit.
abbrev above : List ℕ → ℕ → Bool
above s c = ltb 1 (get_or s c 0)

module _ (C : ℕ) (s : List ℕ) where
  -- R50: another length.
  pub wrong_length : (length s ≡ C → ⊥) → check_cells C s ≡ refused 14 (length s)
  unfolding check_storage
  wrong_length h = rw (ne_eqb (length s) C h)

  -- R50: the first cell above 1.
  pub wrong_cell : (i : ℕ) → length s ≡ C → i < C → 1 < get_or s i 0 → ((c : ℕ) → c < i → get_or s c 0 ≤ 1)
      → check_cells C s ≡ refused 14 i
  unfolding check_storage
  wrong_cell i h l p e =
      let none : (j : ℕ) → j < i → above s (0 + j) ≡ false = λ j q. rw zero-add (le-ltb 1 (get_or s j 0) (e j q)) in
      let at = seek-first (above s) C 0 i l (rw zero-add (lt-ltb 1 (get_or s i 0) p)) none in
      let first : seek (above s) C 0 ≡ i = at ∙ omega arith in
      rw (eq-eqb (length s) C h, first, lt-ltb i C l)

  -- R3: no cell above 1.
  pub all_cells : length s ≡ C → ((c : ℕ) → c < C → get_or s c 0 ≤ 1) → check_cells C s ≡ granted tt
  unfolding check_storage
  all_cells h e = rw (eq-eqb (length s) C h, none_search (above s) C (λ c q. le-ltb 1 (get_or s c 0) (e c q)))

  -- R3, R50: bytes that pass the check are a storage.
  pub record Passed : Type 0 where
    pub size : length s ≡ C
    pub bits : Bits s
    pub is : check_storage C s ≡ granted (bits_of s)

  pub cells_passed : check_cells C s ≡ granted tt → Passed
  unfolding check_storage
  cells_passed e =
      let (b, q, _) = bind_granted (check_storage C s) _ e in
      let sized = check_granted (not (eqb (length s) C)) 14 (length s) _ q in
      let low = check_granted (ltb (seek (above s) C 0) C) 14 _ _ sized.1 in
      let size : length s ≡ C = eqb-true (length s) C (not-false _ sized.0) in
      record {
        size = size;
        bits = λ c. elim (dec_lt c C) [
          | yes h ↦ ltb-false 1 (get_or s c 0) (search_none (above s) C low.0 c h)
          | no h ↦ omega (arith, get_or-eq_default s 0 {n = c} (omega arith))
        ];
        is = q ∙ sym low.1;
      }

  -- R50: a refusal of the check is the storage's own.
  pub cells-refused : (n p : ℕ) → check_cells C s ≡ refused n p → check_storage C s ≡ refused n p
  cells-refused n p e = go (check_storage C s) e
    where
      go : (v : Verdict (List Bool)) → (v >>= (λ b. granted (tt {0}))) ≡ refused n p → v ≡ refused n p
      go (granted b) q =
          let z : ◌≡◌ {A = ℕ} 0 1 = cc in
          absurd (omega arith)
      go (refused m o) q = cc
