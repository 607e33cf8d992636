-- Rows that the rule could append, and an operation row in its five bytes.
use Rattle.std.specs.Prelude.{ℕ, ◌+◌, ◌≤◌, ◌<◌, ◌≡◌, refl, Bool, true, false, cond, ◌&&◌, List, [], ◌∷◌, ◌++◌, length, get_or, take, drop, ltb, eqb}
use Rattle.std.proofs.Common.{ap, append_assoc, arith, add-one, ltb-true, eqb-true, lt-ltb, eq-eqb}
use Rattle.rules.specs.Lists.{number_at, bytes_of}
use Rattle.rules.specs.Edition.{most_rows}
use Rattle.rules.specs.Rows.{Row, leaf, inv, bin, row_at, kind, left, right, Plan, have, make, plan, find}
use Rattle.rules.specs.Sets.{operands}
use Rattle.rules.specs.SetFile.{row_bytes, row_of, row_in}
use Rattle.rules.specs.SetFile.{all_below, makes, fits}
use Rattle.laws.specs.Verdict.{both_true}
use Rattle.laws.specs.Canonical.{Below}
use Rattle.laws.specs.Bytes.{Bytes, bytes-cons, bytes-append, bytes-number, get_d_part, drop-part, take-cons, take-parts, length-bytes, number_read, number_write}
use Rattle.laws.specs.Rule.{Ready}
use Rattle.laws.specs.Rows.{same_true, same_refl, find_first, find_at}

-- ---- rows that fit

-- Operands that are all found below k are below k.
pub all_below_lem : (k : ℕ) (r : Row) → all_below k (operands r) ≡ true → Below k r
unfolding all_below
all_below_lem k (leaf i) e = tt
all_below_lem k (inv a) e = ltb-true a k (both_true (ltb a k) true e).0
all_below_lem k (bin o a b) e =
    let (p, q) = both_true (ltb a k) (ltb b k && true) e in
    (ltb-true a k p, ltb-true b k (both_true (ltb b k) true q).0)

-- Operands below k are all found so.
below_all : (k : ℕ) (r : Row) → Below k r → all_below k (operands r) ≡ true
unfolding all_below
below_all k (leaf i) h = refl
below_all k (inv a) h = rw (lt-ltb a k h)
below_all k (bin o a b) h = rw (lt-ltb a k h.0, lt-ltb b k h.1)

-- A plan that is found to make a row does.
pub makes_true : (p : Plan) (r : Row) → makes p r ≡ true → p ≡ make r
makes_true (have i) r e =
    let z : ◌≡◌ {A = ℕ} 0 1 = cc in
    absurd (omega arith)
makes_true (make q) r e = ap make (same_true q r e)

-- Row k is one that the rule could append there.
pub record Fits (t : List Row) (k : ℕ) : Type 0 where
  pub earlier : Below k (row_at t k)
  pub normal : plan t (row_at t k) ≡ make (row_at t k)
  pub new : (i : ℕ) → i < k → row_at t i ≡ row_at t k → ⊥

-- A row that is found to fit does.
pub fits_true : (t : List Row) (k : ℕ) → fits t k ≡ true → Fits t k
unfolding fits
fits_true t k e =
    let r = row_at t k in
    let (a, s) = both_true (all_below k (operands r)) _ e in
    let (b, c) = both_true (makes (plan t r) r) _ s in
    let f : find t r ≡ k = eqb-true (find t r) k c in
    record {
      earlier = all_below_lem k r a;
      normal = makes_true (plan t r) r b;
      new = λ i h q.
          let z : ◌≡◌ {A = ℕ} 0 1 = cc (same_refl r, find_first t r i (omega arith)) in
          omega arith;
    }

-- A row that fits is found to.
pub true_fits : (t : List Row) (k : ℕ) → k < length t → Fits t k → fits t k ≡ true
unfolding fits
true_fits t k h c =
    let r = row_at t k in
    rw (below_all k r c.earlier, c.normal, same_refl r, eq-eqb (find t r) k (find_at t k h c.new))

-- ---- an operation row in its five bytes

-- The length of a row in a file.
pub length-row : (r : Row) → length (row_bytes r) ≡ 5
unfolding bytes_of
length-row r = refl

-- Its five bytes are bytes.
pub bytes-row : (r : Row) → Bytes (row_bytes r)
bytes-row r =
    let a = bytes_of 2 (left r) in
    let b = bytes_of 2 (right r) in
    bytes-cons (kind r) (a ++ b) (kind-small r) (bytes-append a b (bytes-number 2 (left r)) (bytes-number 2 (right r)))
  where
    kind-small : (r : Row) → kind r < 256
    kind-small (leaf i) = omega arith
    kind-small (inv a) = omega arith
    kind-small (bin true a b) = omega arith
    kind-small (bin false a b) = omega arith

-- A row that its kind and operands tell, and that names no row above k.
pub record Operation (k : ℕ) (r : Row) : Type 0 where
  pub back : row_of (kind r) (left r) (right r) ≡ r
  pub one : left r ≤ k
  pub two : right r ≤ k

-- An operation over rows below k is such a row.
pub operation : (k : ℕ) (r : Row) → Ready k r → Operation k r
unfolding row_of
operation k (leaf i) h = absurd h
operation k (inv a) h = record { back = refl; one = omega arith; two = omega arith }
operation k (bin true a b) h = record { back = refl; one = omega arith; two = omega arith }
operation k (bin false a b) h = record { back = refl; one = omega arith; two = omega arith }

-- Reading at p the row that was written there.
pub row_read : (k p : ℕ) (r : Row) (file rest : List ℕ) → k ≤ most_rows → Operation k r → drop p file ≡ row_bytes r ++ rest
    → row_in file p ≡ r
row_read k p r file rest h o e =
    let a = bytes_of 2 (left r) in
    let b = bytes_of 2 (right r) in
    let at1 = drop-part file p 1 (kind r ∷ []) (a ++ (b ++ rest)) refl (rw append_assoc at e) in
    let q : p + 1 + 2 ≡ p + 3 = omega arith in
    let at3 = rw q at (drop-part file (p + 1) 2 a (b ++ rest) (length-bytes 2 (left r)) at1) in
    let kind_at = get_d_part file p (kind r) 0 (a ++ b ++ rest) e in
    let left_at = number_read 2 (left r) (p + 1) file (b ++ rest) (omega arith) at1 in
    let right-at = number_read 2 (right r) (p + 3) file rest (omega arith) at3 in
    rw (kind_at, left_at, right-at) o.back

-- The bytes of a row that the rule could make are those that it is read from.
row-bytes : (t : List Row) (k a b : ℕ) → plan t (row_of k a b) ≡ make (row_of k a b)
    → row_bytes (row_of k a b) ≡ k ∷ (bytes_of 2 a ++ bytes_of 2 b)
unfolding row_of
row-bytes t k a b = go (eqb k 1 && eqb b 0) (eqb k 2) (eqb k 3) refl refl refl
  where
    go : (q₁ q₂ q₃ : Bool) → eqb k 1 && eqb b 0 ≡ q₁ → eqb k 2 ≡ q₂ → eqb k 3 ≡ q₃
        → let r = cond q₁ (inv a) (cond q₂ (bin true a b) (cond q₃ (bin false a b) (leaf 0))) in
        plan t r ≡ make r → row_bytes r ≡ k ∷ (bytes_of 2 a ++ bytes_of 2 b)
    go true q₂ q₃ e₁ e₂ e₃ n =
        let (p, q) = both_true (eqb k 1) (eqb b 0) e₁ in
        rw (eqb-true k 1 p, eqb-true b 0 q)
    go false true q₃ e₁ e₂ e₃ n = rw (eqb-true k 2 e₂)
    go false false true e₁ e₂ e₃ n = rw (eqb-true k 3 e₃)
    go false false false e₁ e₂ e₃ n =
        let z : ◌≡◌ {A = ℕ} 0 1 = cc in
        absurd (omega arith)

-- Writing the row that was read at p.
pub row_write : (t : List Row) (file : List ℕ) → Bytes file → (p : ℕ) → p + 5 ≤ length file
    → plan t (row_in file p) ≡ make (row_in file p)
    → row_bytes (row_in file p) ≡ take 5 (drop p file)
row_write t file b p h n =
    let q : p + 3 ≡ p + 1 + 2 = omega arith in
    let one = number_write file b 2 (p + 1) (omega arith) in
    let two = number_write file b 2 (p + 3) (omega arith) in
    let bytes = row-bytes t (get_or file p 0) (number_at 2 file (p + 1)) (number_at 2 file (p + 3)) n in
    rw (bytes, one, two, q, take-parts, add-one) (take-cons file p 4 0 (omega arith))
