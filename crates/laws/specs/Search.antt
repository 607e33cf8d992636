-- Searching a table: for an equal row, which may begin after an operand; for a number in a list; for what names a row.
use Rattle.std.specs.Prelude.{ℕ, suc, ◌-◌, ◌≤◌, ◌<◌, ◌≡◌, refl, Bool, true, false, length, get_or, eqb}
use Rattle.std.proofs.Common.{◌∙◌, arith, eq-eqb}
use Rattle.std.proofs.Math.Bool.{or-true}
use mathlib.Core.List.{List, [], ◌∷◌, flat_map}
use Rattle.std.proofs.Math.Decide.{dec_lt}
use Rattle.rules.specs.Lists.{elem, seek}
use Rattle.rules.specs.Rows.{Row, leaf, inv, bin, row_at, same, find}
use Rattle.rules.specs.Sets.{operands}
use Rattle.laws.specs.Canonical.{Below}
use Rattle.laws.specs.Lists.{elem-append, Searching, searching_hit, searching_end}
use Rattle.laws.specs.Rows.{Inserts, stood, fresh, inserts, find_first, same_true, same_refl}
use Rattle.laws.specs.Rule.{Ready}
use Rattle.laws.specs.Reach.{operands-low}

-- ---- an equal row

-- R30: finding a row is searching from s on where no row before s is the same.
pub find-from : (t : List Row) (r : Row) (s : ℕ) → s ≤ length t → ((i : ℕ) → i < s → same (row_at t i) r ≡ false)
    → find t r ≡ seek (λ i. same (row_at t i) r) (length t - s) s
find-from t r s h e = go (inserts t r)
  where
    went : s ≤ find t r → Searching (λ i. same (row_at t i) r) s (find t r)
    went l = record { low = l; none = λ j p q. find_first t r j q }

    go : Inserts t r → find t r ≡ seek (λ i. same (row_at t i) r) (length t - s) s
    go (stood k l d) = elim (dec_lt (find t r) s) [
      | yes q
          ↦ (let n = e (find t r) q in let y = same_refl r in let z : ◌≡◌ {A = ℕ} 0 1 = cc in absurd (omega arith))
      | no q ↦ searching_hit (length t - s) (find t r) (went (omega arith)) (omega arith) (rw d (same_refl r))
    ]
    go (fresh k l d) = searching_end (length t - s) (find t r) (went (omega arith)) (omega arith)

-- R30: where operands are earlier, no row up to an operand of r is the same as r. The first n rows are known to be so.
none-early : (t : List Row) (r : Row) (a n : ℕ) → elem a (operands r) ≡ true → a < n
    → ((i : ℕ) → i < n → Below i (row_at t i))
    → (i : ℕ) → i < suc a → same (row_at t i) r ≡ false
none-early t r a n e h b i l = go (same (row_at t i) r) refl
  where
    go : (q : Bool) → same (row_at t i) r ≡ q → q ≡ false
    go true q =
        let under : Below i r = rw (same_true (row_at t i) r q) at (b i (omega arith)) in
        let none = operands-low i a r under (omega arith) in
        let z : ◌≡◌ {A = ℕ} 0 1 = cc in
        absurd (omega arith)
    go false q = refl

-- R29: the larger operand of a row that the rule makes.
abbrev pub last_of : Row → ℕ
last_of (leaf i) = 0
last_of (inv a) = a
last_of (bin o a b) = b

pub last-low : (k : ℕ) (r : Row) → Ready k r → last_of r < k
last-low k (leaf i) h = absurd h
last-low k (inv a) h = h
last-low k (bin o a b) h = h.1

last-elem : (k : ℕ) (r : Row) → Ready k r → elem (last_of r) (operands r) ≡ true
unfolding elem
last-elem k (leaf i) h = absurd h
last-elem k (inv a) h = rw (eq-eqb a a refl)
last-elem k (bin o a b) h = rw (eq-eqb b b refl) (or-true (eqb b a))

-- R30: so the search for an equal row may begin after the larger operand.
pub none_to_last : (t : List Row) (r : Row) (n : ℕ) → Ready n r → ((i : ℕ) → i < n → Below i (row_at t i))
    → (i : ℕ) → i < suc (last_of r) → same (row_at t i) r ≡ false
none_to_last t r n h b = none-early t r (last_of r) n (last-elem n r h) (last-low n r h) b

-- ---- a number in a list, an operand among rows

-- A number that stands at no place of a list is not in it.
pub elem-none : (k : ℕ) (l : List ℕ) → ((c : ℕ) → c < length l → eqb k (get_or l c 0) ≡ false) → elem k l ≡ false
unfolding elem
elem-none k [] e = refl
elem-none k (x ∷ l) e = rw (e 0 (omega arith)) (elem-none k l (λ c h. e (suc c) (omega arith)))

-- R26: a row that no row of a list names is no operand of theirs.
pub operands-none : (k : ℕ) (l : List Row) → ((j : ℕ) → j < length l → elem k (operands (row_at l j)) ≡ false)
    → elem k (flat_map operands l) ≡ false
unfolding flat_map elem
operands-none k [] e = refl
operands-none k (r ∷ l) e = elem-append k (operands r) (flat_map operands l)
    ∙ rw (e 0 (omega arith)) (operands-none k l (λ j h. e (suc j) (omega arith)))
