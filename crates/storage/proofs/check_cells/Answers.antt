-- `check_cells` meets its contract: another length, the first cell that is no bit, or none.
use Rattle.std.proofs.Common.{ℕ, ◌≡◌, ◌≤◌, ◌<◌, sym, ◌∙◌, refl, Some, None, Bool, true, false, cond, List, get_or, length, nat_lt, position}
use Rattle.std.specs.List.{position_or_len}
use Rattle.std.proofs.lemmas.List.Quantifiers.{position-Some}
use Rattle.std.proofs.lemmas.List.Sums.{fails_before_first}
use native.Mathlib.Omega.{arith}
use borrow.Author.Tests.{ltb-true, ltb-false}
use Rattle.storage.specs.Checked.{wrong_length, wrong_cell, all_cells}
use Rattle.storage.proofs.check_cells.Goals as goal

abbrev above : ℕ → Bool
above x = nat_lt 1 x

-- No element passes a test that has no first one.
none-above : (s : List ℕ) → position above s ≡ None → (k : ℕ) → k < length s → get_or s k 0 ≤ 1
none-above s e = go (nat_lt (position_or_len above s) (length s)) refl e
  where
    go : (b : Bool) → nat_lt (position_or_len above s) (length s) ≡ b → cond b (Some (position_or_len above s)) None ≡ None
        → (k : ℕ) → k < length s → get_or s k 0 ≤ 1
    go true l q = absurd (cc)
    go false l q = λ k h. ltb-false 1 _ (fails_before_first above s k 0 (omega (arith, ltb-false _ _ l)))

pub returns-then-s-cells : goal.returns-then-s-cells
returns-then-s-cells c = sym (wrong_length _ _ (omega arith))

pub returns-in-Some : goal.returns-in-Some
returns-in-Some c =
    let (l, p, f) = position-Some above c.args.s.now _ 0 (sym c.first_above.ensures ∙ c.in-Some.is) in
    sym (wrong_cell _ _ _ (omega arith) (omega arith) (ltb-true 1 _ p) (λ k h. ltb-false 1 _ (f k h)))

pub returns-in-None : goal.returns-in-None
returns-in-None c =
    sym (all_cells _ _ (omega arith) (λ k h. none-above c.args.s.now (sym c.first_above.ensures ∙ c.in-None.is) k (omega arith)))
