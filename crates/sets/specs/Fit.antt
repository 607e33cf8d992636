-- Whether a row fits: a law for each answer of the code.
use Rattle.std.specs.Prelude.{ℕ, suc, ◌+◌, ◌*◌, ◌-◌, ◌≤◌, ◌<◌, ◌≡◌, Bool, true, false, cond, not, ◌&&◌, List, get_or, eqb}
use Rattle.std.proofs.Math.Path.{refl}
use Rattle.std.proofs.Common.{sym, ap, ◌∙◌, arith}
use Rattle.std.proofs.Math.Decide.{dec_lt}
use borrow.Author.Tests.{eq-eqb, ne_eqb, eqb-true, not-true, not-false}
use Rattle.rules.specs.Edition.{old}
use Rattle.rules.specs.Lists.{number_at}
use Rattle.rules.specs.Shape.{Shape}
use Rattle.rules.specs.Rows.{Row, leaf, inv, bin, row_at, kind, left, right, same, Plan, make, plan_not, plan, find}
use Rattle.rules.specs.Sets.{operands}
use Rattle.rules.specs.SetFile.{leaves, row_place, row_of, row_in, all_below, makes, fits}
use Rattle.laws.specs.Verdict.{both_true}
use Rattle.laws.specs.Canonical.{Below}
use Rattle.laws.specs.Lists.{Searching}
use Rattle.laws.specs.Rows.{same_true, same_refl, find_first, find_at}
use Rattle.laws.specs.Fits.{all_below_lem, makes_true, fits_true}
use Rattle.laws.specs.Rule.{made-ready}
use Rattle.laws.specs.Search.{none_to_last}
use Rattle.sets.specs.Spelt.{row-leaf, row-bytes, spelt-row}
use Rattle.base.specs.Answers.{shape_of}
use Rattle.sets.specs.declared.read.SetFile.{SetFile}
use Rattle.sets.specs.Judging.{spells, spells-rows, Made, same_at}
use Rattle.sets.specs.Spelt.{rows_in, set_with}

-- Tests that hold together are the same.
both : (p q : Bool) → (p ≡ true → q ≡ true) → (q ≡ true → p ≡ true) → p ≡ q
both true q f g = sym (f refl)
both false true f g = g refl
both false false f g = refl

-- ---- the plan

pub plan-inv : (t : List Row) (r : Row) (p : Plan) (a : ℕ) (x : Row) → r ≡ inv a → x ≡ row_at t a → p ≡ plan_not a x → p ≡ plan t r
plan-inv t r p a x e y q = rw e (q ∙ ap (plan_not a) y)

-- ---- equal bytes

module _ (file : List ℕ) (p q a b : ℕ) (e : a ≡ number_at 2 file (p + 3)) (f : b ≡ number_at 2 file (q + 3)) where
  pub right-differs : (a ≡ b → ⊥) → false ≡ same_at file p q
  unfolding same_at
  right-differs h = rw (← e, ← f, ne_eqb a b h) refl

  module _ (h : a ≡ b) (c d : ℕ) (g : c ≡ number_at 2 file (p + 1)) (i : d ≡ number_at 2 file (q + 1)) where
    pub left-differs : (c ≡ d → ⊥) → false ≡ same_at file p q
    unfolding same_at
    left-differs j = rw (← e, ← f, eq-eqb a b h, ← g, ← i, ne_eqb c d j) refl

    pub kind_decides : c ≡ d → eqb (get_or file p 0) (get_or file q 0) ≡ same_at file p q
    unfolding same_at
    kind_decides j = rw (← e, ← f, eq-eqb a b h, ← g, ← i, eq-eqb c d j) refl

-- R42: the numbers that an operation row was read from.
record Parts (r : Row) (k a b : ℕ) : Type 0 where
  kind-is : kind r ≡ k
  left_is : left r ≡ a
  right_is : right r ≡ b

parts : (k a b : ℕ) → 1 ≤ kind (row_of k a b) → Parts (row_of k a b) k a b
unfolding row_of
parts k a b = go (eqb k 1 && eqb b 0) (eqb k 2) (eqb k 3) refl refl refl
  where
    go : (q₁ q₂ q₃ : Bool) → eqb k 1 && eqb b 0 ≡ q₁ → eqb k 2 ≡ q₂ → eqb k 3 ≡ q₃
        → let r = cond q₁ (inv a) (cond q₂ (bin true a b) (cond q₃ (bin false a b) (leaf 0))) in
        1 ≤ kind r → Parts r k a b
    go true q₂ q₃ e₁ e₂ e₃ h =
        let (p, q) = both_true (eqb k 1) (eqb b 0) e₁ in
        record { kind-is = sym (eqb-true k 1 p); left_is = refl; right_is = sym (eqb-true b 0 q) }
    go false true q₃ e₁ e₂ e₃ h = record { kind-is = sym (eqb-true k 2 e₂); left_is = refl; right_is = refl }
    go false false true e₁ e₂ e₃ h = record { kind-is = sym (eqb-true k 3 e₃); left_is = refl; right_is = refl }
    go false false false e₁ e₂ e₃ h = absurd (omega arith)

-- R42: a row is equal to an operation row exactly if their bytes are.
same_bytes : (file : List ℕ) (p q : ℕ) → 1 ≤ kind (row_in file q) → same (row_in file p) (row_in file q) ≡ same_at file p q
unfolding same_at
same_bytes file p q h = both (same (row_in file p) (row_in file q)) _ there back
  where
    there : same (row_in file p) (row_in file q) ≡ true → same_at file p q ≡ true
    there e =
        let z : row_in file p ≡ row_in file q = same_true (row_in file p) (row_in file q) e in
        let x = parts (get_or file p 0) (number_at 2 file (p + 1)) (number_at 2 file (p + 3)) (rw z h) in
        let y = parts (get_or file q 0) (number_at 2 file (q + 1)) (number_at 2 file (q + 3)) h in
        let k : get_or file p 0 ≡ get_or file q 0 = sym x.kind-is ∙ ap kind z ∙ y.kind-is in
        let l : number_at 2 file (p + 1) ≡ number_at 2 file (q + 1) = sym x.left_is ∙ ap left z ∙ y.left_is in
        let r : number_at 2 file (p + 3) ≡ number_at 2 file (q + 3) = sym x.right_is ∙ ap right z ∙ y.right_is in
        rw (eq-eqb (number_at 2 file (p + 3)) _ r, eq-eqb (number_at 2 file (p + 1)) _ l, eq-eqb (get_or file p 0) _ k) refl

    back : same_at file p q ≡ true → same (row_in file p) (row_in file q) ≡ true
    back e =
        let (r, s) = both_true (eqb (number_at 2 file (p + 3)) (number_at 2 file (q + 3))) _ e in
        let (l, k) = both_true (eqb (number_at 2 file (p + 1)) (number_at 2 file (q + 1))) _ s in
        let right_is = eqb-true (number_at 2 file (p + 3)) (number_at 2 file (q + 3)) r in
        let left_is = eqb-true (number_at 2 file (p + 1)) (number_at 2 file (q + 1)) l in
        let kind-is = eqb-true (get_or file p 0) (get_or file q 0) k in
        rw (right_is, left_is, kind-is) (same_refl (row_in file q))

-- ---- no equal row

-- R28: a row that the rule makes is an operation.
made-kind : (t : List Row) (r : Row) → plan t r ≡ make r → 1 ≤ kind r
made-kind t (leaf i) e =
    let z : ◌≡◌ {A = ℕ} 0 1 = cc in
    absurd (omega arith)
made-kind t (inv a) e = omega arith
made-kind t (bin true a b) e = omega arith
made-kind t (bin false a b) e = omega arith

-- A constant or cell is no operation.
leaf-differs : (i : ℕ) (r : Row) → 1 ≤ kind r → same (leaf i) r ≡ false
leaf-differs i r h = rw (ne_eqb 0 (kind r) (λ e. omega arith)) refl

-- R26, R41: a row of the table before the operation rows, and one of them.
module _ (file : List ℕ) (sh : Shape) (i : ℕ) where
  at_leaf : i < leaves sh → row_at (set_with file sh).tab i ≡ leaf i
  at_leaf h = spelt-row file sh (rows_in file) i (omega arith) ∙ sym (row-leaf file sh i h)

  pub at-bytes : leaves sh ≤ i → i < leaves sh + rows_in file
      → row_at (set_with file sh).tab i ≡ row_in file (row_place old sh (i - leaves sh))
  at-bytes h l = spelt-row file sh (rows_in file) i l ∙ sym (row-bytes file sh i h)

module _ (s : SetFile) (k last : ℕ) (d : Made s k last) where
  abbrev file : List ℕ
  file = s.file.now

  abbrev sh : Shape
  sh = shape_of s.shape

  abbrev t : List Row
  t = (spells s).tab

  operation : 1 ≤ kind (row_at t k)
  operation = made-kind t (row_at t k) d.made

  below : (i : ℕ) → i < k → Below i (row_at t i)
  below i h = elim (dec_lt i (leaves sh)) [
    | yes l ↦ rw (at_leaf file sh i l) tt
    | no l ↦ (fits_true t i (d.before i (omega arith) h)).earlier
  ]

  -- R43: up to the larger operand no row is equal to row k.
  early : (i : ℕ) → i < leaves sh + (suc last - leaves sh) → same (row_at t i) (row_at t k) ≡ false
  early i h = elim (dec_lt i (leaves sh)) [
    | yes l ↦ rw (at_leaf file sh i l) (leaf-differs i (row_at t k) operation)
    | no l ↦ none_to_last t (row_at t k) k (made-ready t k (row_at t k) d.below d.made) below i (omega (arith, d.larger))
  ]

  bytes : (i : ℕ) → leaves sh ≤ i → i < k
      → same (row_at t i) (row_at t k) ≡ same_at file (row_place old sh (i - leaves sh)) (row_place old sh (k - leaves sh))
  bytes i h l =
      let x = at-bytes file sh i h (omega (arith, d.among.low)) in
      let y = at-bytes file sh k d.among.high d.among.low in
      rw (x, y) (same_bytes file _ (row_place old sh (k - leaves sh)) (rw y at operation))

  module _ (first n at : ℕ) (x : first ≡ row_place old sh 0) (y : n ≡ suc k - leaves sh - 1) (z : at ≡ first + 5 * n) where
    -- R43: an equal row before row k.
    pub equal_found : (j : ℕ) → j < n → same_at file (first + 5 * j) at ≡ true → false ≡ eqb (find t (row_at t k)) k
    equal_found j h q =
        let i = leaves sh + j in
        let u : first + 5 * j ≡ row_place old sh (i - leaves sh) = omega arith in
        let v : at ≡ row_place old sh (k - leaves sh) = omega (arith, d.among.high) in
        let e : same (row_at t i) (row_at t k) ≡ true = bytes i (omega arith) (omega (arith, d.among.high))
        ∙ rw (← u, ← v) q in
        sym (ne_eqb (find t (row_at t k)) k λ g.
        let o = find_first t (row_at t k) i (omega (arith, d.among.high)) in
        let c : ◌≡◌ {A = ℕ} 0 1 = cc in
        omega arith)

    -- R43: none.
    pub none_found : (j j₀ : ℕ) → n ≤ j → j₀ ≡ suc last - leaves sh → Searching (λ i. same_at file (first + 5 * i) at) j₀ j
        → true ≡ eqb (find t (row_at t k)) k
    none_found j j₀ h g f =
        sym (eq-eqb (find t (row_at t k)) k (find_at t k (omega (arith, d.among.low, spells-rows s)) none))
      where
        differs : (i : ℕ) → i < k → same (row_at t i) (row_at t k) ≡ false
        differs i l = elim (dec_lt i (leaves sh + (suc last - leaves sh))) [
          | yes q ↦ early i q
          | no q ↦
              let u : first + 5 * (i - leaves sh) ≡ row_place old sh (i - leaves sh) = omega arith in
              let v : at ≡ row_place old sh (k - leaves sh) = omega (arith, d.among.high) in
              bytes i (omega arith) l ∙ rw (← u, ← v) (f.none (i - leaves sh) (omega arith) (omega arith))
        ]

        none : (i : ℕ) → i < k → row_at t i ≡ row_at t k → ⊥
        none i l q =
            let o = differs i l in
            let r = same_refl (row_at t k) in
            let c : ◌≡◌ {A = ℕ} 0 1 = cc in
            omega arith

-- ---- a row that fits

module _ (t : List Row) (k : ℕ) (r : Row) (e : r ≡ row_at t k) (d : Bool) (f : d ≡ all_below k (operands r)) where
  pub fits_late : not d ≡ true → false ≡ fits t k
  unfolding fits
  fits_late h = rw (← e, ← f, not-true d h) refl

  module _ (h : not d ≡ false) where
    pub fits_below : Below k r
    fits_below = all_below_lem k r (sym f ∙ not-false d h)

    module _ (p : Plan) (m : Bool) (g : p ≡ plan t r) (i : m ≡ makes p r) where
      pub fits_folds : not m ≡ true → false ≡ fits t k
      unfolding fits
      fits_folds j = rw (← e, ← f, not-false d h, ← g, ← i, not-true m j) refl

      module _ (j : not m ≡ false) where
        pub fits-made : plan t (row_at t k) ≡ make (row_at t k)
        fits-made = rw e at (sym g ∙ makes_true p r (sym i ∙ not-false m j))

        pub fits-found : (s : Bool) → s ≡ eqb (find t (row_at t k)) k → s ≡ fits t k
        unfolding fits
        fits-found s q = q ∙ rw (← e, ← f, not-false d h, ← g, ← i, not-false m j) refl
