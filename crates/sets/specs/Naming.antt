-- Whether anything names a row: a law for each answer of the code.
use Rattle.std.specs.Prelude.{ℕ, suc, ◌+◌, ◌*◌, ◌-◌, ◌≤◌, ◌<◌, ◌≡◌, Bool, true, false, cond, ◌&&◌, length, get_or, drop, eqb}
use Rattle.std.proofs.Math.Path.{refl, sym}
use Rattle.std.proofs.Common.{ap, ◌∙◌, arith, length-drop, get_or-drop}
use mathlib.Core.List.{List, [], flat_map}
use borrow.Author.Tests.{ne_eqb}
use Rattle.rules.specs.Edition.{old}
use Rattle.rules.specs.Lists.{number_at, elem}
use Rattle.rules.specs.Shape.{Shape, cells}
use Rattle.rules.specs.Rows.{Row, leaf, inv, bin, row_at}
use Rattle.rules.specs.Sets.{operands}
use Rattle.rules.specs.SetFile.{leaves, row_place, row_of, row_in, named}
use Rattle.laws.specs.Lists.{elem-append, elem_at, Searching}
use Rattle.laws.specs.Named.{named-row}
use Rattle.laws.specs.Search.{elem-none, operands-none}
use Rattle.sets.specs.Spelt.{rows_in}
use Rattle.sets.specs.Fit.{at-bytes}
use Rattle.base.specs.Answers.{shape_of}
use Rattle.sets.specs.declared.read.SetFile.{SetFile}
use Rattle.sets.specs.Judging.{spells, spells-rows, spells-heads, Among}

-- ---- heads

module _ (s : SetFile) (k c : ℕ) where
  abbrev x : List ℕ
  x = (spells s).heads

  pub head-is : c < cells (shape_of s.shape) → get_or x c 0 ≡ k → true ≡ elem k x
  head-is h e = sym (rw e at (elem_at x c 0 (omega (arith, spells-heads s))))

  pub head-none : cells (shape_of s.shape) ≤ c → Searching (λ c. eqb k (get_or x c 0)) 0 c → false ≡ elem k x
  head-none h f = sym (elem-none k x λ d l. f.none d (omega arith) (omega (arith, spells-heads s)))

-- ---- operands

-- R42: a row whose two numbers are not k does not name row k.
names_other : (k K a b : ℕ) → (a ≡ k → ⊥) → (b ≡ k → ⊥) → elem k (operands (row_of K a b)) ≡ false
unfolding row_of elem
names_other k K a b p q = go (eqb K 1 && eqb b 0) (eqb K 2) (eqb K 3)
  where
    go : (q₁ q₂ q₃ : Bool) → elem k (operands (cond q₁ (inv a) (cond q₂ (bin true a b) (cond q₃ (bin false a b) (leaf 0))))) ≡ false
    go true q₂ q₃ = rw (ne_eqb k a (λ e. p (sym e))) refl
    go false true q₃ = rw (ne_eqb k a (λ e. p (sym e)), ne_eqb k b (λ e. q (sym e))) refl
    go false false true = rw (ne_eqb k a (λ e. p (sym e)), ne_eqb k b (λ e. q (sym e))) refl
    go false false false = refl

pub names-none : (file : List ℕ) (p k a b : ℕ) → a ≡ number_at 2 file (p + 1) → b ≡ number_at 2 file (p + 3)
    → (a ≡ k → ⊥) → (b ≡ k → ⊥) → false ≡ elem k (operands (row_in file p))
names-none file p k a b e f g h = rw (← e, ← f) (sym (names_other k (get_or file p 0) a b g h))

-- ---- later rows

module _ (s : SetFile) (k : ℕ) (m : Among s k) (first rows : ℕ)
    (x : first ≡ row_place old (shape_of s.shape) 0) (y : rows ≡ rows_in s.file.now) where
  abbrev file : List ℕ
  file = s.file.now

  abbrev sh : Shape
  sh = shape_of s.shape

  abbrev t : List Row
  t = (spells s).tab

  row-at : (j : ℕ) → j < rows → row_at t (leaves sh + j) ≡ row_in file (first + 5 * j)
  row-at j h =
      let z : row_place old sh (leaves sh + j - leaves sh) ≡ first + 5 * j = omega arith in
      at-bytes file sh (leaves sh + j) (omega arith) (omega arith) ∙ ap (row_in file) z

  pub operand-is : (j : ℕ) → suc k - leaves sh ≤ j → j < rows → elem k (operands (row_in file (first + 5 * j))) ≡ true
      → true ≡ elem k (flat_map operands (drop (suc k) t))
  unfolding named
  operand-is j h l e =
      let n = spells-rows s in
      sym (named-row t [] k (leaves sh + j) (omega (arith, m.high)) (omega arith) (rw (row-at j l) e))

  pub operand-none : (j j₀ : ℕ) → rows ≤ j → j₀ ≡ suc k - leaves sh
      → Searching (λ j. elem k (operands (row_in file (first + 5 * j)))) j₀ j
      → false ≡ elem k (flat_map operands (drop (suc k) t))
  operand-none j j₀ h g f = sym (operands-none k (drop (suc k) t) none)
    where
      none : (i : ℕ) → i < length (drop (suc k) t) → elem k (operands (row_at (drop (suc k) t) i)) ≡ false
      none i l =
          let q : suc k + i - leaves sh < rows = omega (arith, m.high, length-drop (suc k) t, spells-rows s) in
          let z : suc k + i ≡ leaves sh + (suc k + i - leaves sh) = omega (arith, m.high) in
          let at : row_at (drop (suc k) t) i ≡ row_in file (first + 5 * (suc k + i - leaves sh)) = get_or-drop (suc k) t i (leaf 0)
          ∙ ap (row_at t) z ∙ row-at (suc k + i - leaves sh) q in
          ap (λ r. elem k (operands r)) at ∙ f.none (suc k + i - leaves sh) (omega (arith, m.high)) (omega arith)

-- ---- a head or a later row

module _ (t : List Row) (x : List ℕ) (k : ℕ) (d : Bool) (e : d ≡ elem k x) where
  pub named-by-head : d ≡ true → true ≡ named t x k
  unfolding named
  named-by-head h = sym (elem-append k x (flat_map operands (drop (suc k) t)) ∙ rw (← e, h) refl)

  pub named-by-row : d ≡ false → (r : Bool) → r ≡ elem k (flat_map operands (drop (suc k) t)) → r ≡ named t x k
  unfolding named
  named-by-row h r f = f ∙ sym (elem-append k x (flat_map operands (drop (suc k) t)) ∙ rw (← e, h) refl)
