-- One set after another evaluates as first then second, over a canonical table; and the table only grows.
use Prim.Native.Nat.{ℕ, zero, suc, ◌+◌, ◌-◌, ◌≤◌, ◌<◌}
use Rattle.std.specs.Prelude.{◌≡◌, Bool, true, List, [], ◌∷◌, ◌++◌}
use Rattle.std.proofs.Math.Path.{refl, sym, ap}
use Rattle.std.proofs.Common.{◌∙◌, arith, add-zero, add-suc, length-append}
use Rattle.std.proofs.Math.Bool.{false}
use Rattle.std.proofs.lemmas.Simd.{map-map}
use Rattle.std.proofs.Math.Decide.{dec_lt}
use Rattle.std.proofs.Math.ListN.{length, get_or, get_or-append, get_or-map}
use Rattle.std.proofs.lemmas.List.{length-map}
use Rattle.std.proofs.Math.Seq.{get_or-append_seam}
use Rattle.rules.specs.Rows.{Row, leaf, inv, bin, row_at, value, make, plan, add, Added}
use Rattle.rules.specs.Sets.{Heads, act, reaches, Carried, carry_one, carry_row, carry, after}
use Rattle.laws.specs.Lists.{map_ext, map-low, elem_at}
use Rattle.laws.specs.Canonical.{Operands, Canonical}
use Rattle.laws.specs.Rows.{meaning, canonical-value}
use Rattle.laws.specs.Grow.{Ext, ext_length, ext_value, Grown, bare, grown-one, grown_trans, grown_ext}
use Rattle.laws.specs.Rule.{zero_is, one-is, op-earlier, Sound, add_sound}
use Rattle.laws.specs.Reach.{needs_keeps, reaches-operands}

-- Heads of C cells stand in a canonical table; past the last cell `get_or` gives row 0, which stands too.
pub record Stands (C : ℕ) (h : Heads) : Type 0 where
  pub canonical : Canonical C h.tab
  pub count : length h.heads ≡ C
  pub low : (c : ℕ) → get_or h.heads c 0 < length h.tab

-- They stand, and evaluating them is f.
pub record Acts (C : ℕ) (h : Heads) (f : List Bool → List Bool) : Type 0 where
  pub stands : Stands C h
  pub val : (s : List Bool) → act h.tab h.heads s ≡ f s

abbrev pub over : List Row → List ℕ → Heads
over t x = record { tab = t; heads = x }

-- Two ways to evaluate heads agree where they agree on every head.
pub act_ext : (t u : List Row) (x : List ℕ) (s r : List Bool) → ((c : ℕ) → value t s (get_or x c 0) ≡ value u r (get_or x c 0))
    → act t x s ≡ act u x r
unfolding act
act_ext t u x s r e = map_ext (value t s) (value u r) 0 x (λ c h. e c)

-- Heads keep standing, and keep their values, when the table grows.
pub stands_ext : {C : ℕ} {t u : List Row} → Canonical C u → Ext t u → (x : List ℕ) → Stands C (over t x) → Stands C (over u x)
stands_ext w p x h = record { canonical = w; count = h.count; low = λ c. omega (arith, h.low c, ext_length p) }

pub act-kept : {C : ℕ} {t u : List Row} → Ext t u → (x : List ℕ) → Stands C (over t x) → (s : List Bool) → act u x s ≡ act t x s
act-kept {t = t} {u = u} p x h s = act_ext u t x s s (λ c. ext_value p s (get_or x c 0) (h.low c))

-- ---- carrying rows

carry_one-grown : (x : List ℕ) (m : Carried) (r : Row) → Grown m.tab (carry_one add x m r).tab
carry_one-grown x m (leaf i) = bare m.tab
carry_one-grown x m (inv a) = grown-one m.tab (inv (get_or m.new a 0))
carry_one-grown x m (bin o a b) = grown-one m.tab (bin o (get_or m.new a 0) (get_or m.new b 0))

pub carry_row-grown : (x : List ℕ) (m : Carried) (r : Row) (b : Bool) → Grown m.tab (carry_row add x m r b).tab
carry_row-grown x m r false = bare m.tab
carry_row-grown x m r true = carry_one-grown x m r

-- Carrying by the rule is additions.
pub carry-grown : (t : List Row) (x : List ℕ) (u : List Row) (y : List ℕ) (k : ℕ) → Grown t (carry add t x u y k).tab
unfolding carry
carry-grown t x u y zero = bare t
carry-grown t x u y (suc k) = grown_trans (carry-grown t x u y k)
    (carry_row-grown x (carry add t x u y k) (row_at u k) (reaches u y k))

pub after-grown : (t : List Row) (x : List ℕ) (u : List Row) (y : List ℕ) → Grown t (after t x u y).tab
unfolding after
after-grown t x u y = carry-grown t x u y (length u)

-- A number put at the end of a list of numbers, and those before it.
pub snoc_last : (l : List ℕ) (a k : ℕ) → length l ≡ k → get_or (l ++ (a ∷ [])) k 0 ≡ a
snoc_last l a k e = rw (← e) (get_or-append_seam l a [] 0)

pub snoc_old : (l : List ℕ) (a k : ℕ) → length l ≡ k → (i : ℕ) → i < k → get_or (l ++ (a ∷ [])) i 0 ≡ get_or l i 0
snoc_old l a k e i h = get_or-append l (a ∷ []) 0 i (omega arith)

-- What holds of each number of a list and of one more holds of each of the longer list.
pub snoc_each : (P : ℕ → ℕ → Type 0) (l : List ℕ) (a k : ℕ) → length l ≡ k → ((i : ℕ) → i < k → P i (get_or l i 0)) → P k a
    → (i : ℕ) → i < suc k → P i (get_or (l ++ (a ∷ [])) i 0)
snoc_each P l a k e h p i g = elim (dec_lt i k) [
  | yes f ↦ rw (snoc_old l a k e i f) (h i f)
  | no f ↦ (let z : i ≡ k = omega arith in rw (z, snoc_last l a k e) p)
]

pub snoc_length : (l : List ℕ) (a k : ℕ) → length l ≡ k → length (l ++ (a ∷ [])) ≡ suc k
snoc_length l a k e = length-append l (a ∷ []) ∙ omega arith

pub snoc_low : (l : List ℕ) (a n m : ℕ) → ((i : ℕ) → get_or l i 0 < m) → m ≤ n → a < n → (i : ℕ) → get_or (l ++ (a ∷ [])) i 0 < n
snoc_low [] a n m h g p zero = p
snoc_low [] a n m h g p (suc i) = omega arith
snoc_low (b ∷ l) a n m h g p zero = omega (arith, h 0)
snoc_low (b ∷ l) a n m h g p (suc i) = snoc_low l a n m (λ i. h (suc i)) g p i

-- Carrying gives every row a number, whatever puts the rows, and a number that was given stays.
module _ (put : List Row → Row → Added) (t : List Row) (x : List ℕ) (u : List Row) (y : List ℕ) where
  row-size : (m : Carried) (k : ℕ) (r : Row) (b : Bool) → length m.new ≡ k → length (carry_row put x m r b).new ≡ suc k
  row-size m k r false e = snoc_length m.new 0 k e
  row-size m k r true e = snoc_length m.new (carry_one put x m r).row k e

  pub carry-size : (k : ℕ) → length (carry put t x u y k).new ≡ k
  unfolding carry
  carry-size zero = refl
  carry-size (suc k) = row-size (carry put t x u y k) k (row_at u k) (reaches u y k) (carry-size k)

  row_old : (m : Carried) (k : ℕ) (r : Row) (b : Bool) → length m.new ≡ k → (i : ℕ) → i < k
      → get_or (carry_row put x m r b).new i 0 ≡ get_or m.new i 0
  row_old m k r false e i h = snoc_old m.new 0 k e i h
  row_old m k r true e i h = snoc_old m.new (carry_one put x m r).row k e i h

  carry-old : (k i : ℕ) → i < k → get_or (carry put t x u y (suc k)).new i 0 ≡ get_or (carry put t x u y k).new i 0
  unfolding carry
  carry-old k i h = row_old (carry put t x u y k) k (row_at u k) (reaches u y k) (carry-size k) i h

  carry-more : (k i : ℕ) → i < k → (d : ℕ) → get_or (carry put t x u y (k + d)).new i 0 ≡ get_or (carry put t x u y k).new i 0
  carry-more k i h zero = rw add-zero
  carry-more k i h (suc d) = rw add-suc (carry-old (k + d) i (omega arith) ∙ carry-more k i h d)

  pub carry-stays : (k n i : ℕ) → i < k → k ≤ n → get_or (carry put t x u y n).new i 0 ≡ get_or (carry put t x u y k).new i 0
  carry-stays k n i h p =
      let z : k + (n - k) ≡ n = omega arith in
      rw z at (carry-more k i h (n - k))

-- The leaf's row of a canonical table is the leaf of its own number.
pub leaf-own : {C : ℕ} {t : List Row} → Canonical C t → (k i : ℕ) → k < length t → row_at t k ≡ leaf i → (i ≡ k) × (k < 2 + C)
leaf-own {C} {t} w k i h e = elim (dec_lt k (2 + C)) [
  | yes p ↦ (let q : leaf i ≡ leaf k = sym e ∙ w.leaf-at k p in (cc, p))
  | no p ↦ absurd (never (omega arith))
]
  where
    never : 2 + C ≤ k → ⊥
    never p =
        let q : plan t (leaf i) ≡ make (leaf i) = rw e at (w.normal k p h) in
        let z : ◌≡◌ {A = ℕ} 0 1 = cc in
        omega arith

-- After k rows: the table is canonical, every row carried has a number in it, and those that are reached keep their values.
pub record Stage (C : ℕ) (t : List Row) (x : List ℕ) (u : List Row) (y : List ℕ) (k : ℕ) (m : Carried) : Type 0 where
  pub canonical : Canonical C m.tab
  pub size : length m.new ≡ k
  pub low : (i : ℕ) → get_or m.new i 0 < length m.tab
  pub val : (i : ℕ) → i < k → reaches u y i ≡ true → (s : List Bool)
      → value m.tab s (get_or m.new i 0) ≡ value u (act t x s) i

module _ {C : ℕ} (t : List Row) (x : List ℕ) (u : List Row) (y : List ℕ) (X : Stands C (over t x)) (w : Canonical C u) where
  closed : (k : ℕ) (r : Row) → k < length u → row_at u k ≡ r → reaches u y k ≡ true → Operands (λ a. reaches u y a ≡ true) r
  closed k r = reaches-operands u w y k r

  -- The head that replaces leaf i has the leaf's value on the storage that x leaves.
  head-value : (i : ℕ) → i < 2 + C → (s : List Bool)
      → value t s (get_or (0 ∷ 1 ∷ x) i 0) ≡ get_or (false ∷ true ∷ act t x s) i false
  unfolding act
  head-value zero h s = zero_is X.canonical s
  head-value (suc zero) h s = one-is X.canonical s
  head-value (suc (suc c)) h s =
      let z : value t s 0 ≡ false = zero_is X.canonical s in
      rw (← z) (sym (get_or-map (value t s) x c 0))

  one_sound : (k : ℕ) (m : Carried) → k < length u → Stage C t x u y k m → Ext t m.tab → (r : Row) → row_at u k ≡ r
      → reaches u y k ≡ true
      → Sound C (carry_one add x m r) (λ s. value u (act t x s) k)
  unfolding value
  one_sound k m h g p (leaf i) e q =
      let own = leaf-own w k i h e in
      let low : get_or (0 ∷ 1 ∷ x) i 0 < length t = head-low i in
      record {
        canonical = g.canonical;
        low = omega (arith, low, ext_length p);
        val = λ s. ext_value p s (get_or (0 ∷ 1 ∷ x) i 0) low ∙ head-value i (omega (arith, own.0, own.1)) s
            ∙ sym (canonical-value w (act t x s) k h ∙ ap (meaning u (act t x s)) e);
      }
    where
      head-low : (i : ℕ) → get_or (0 ∷ 1 ∷ x) i 0 < length t
      head-low zero = omega (arith, X.canonical.long)
      head-low (suc zero) = omega (arith, X.canonical.long)
      head-low (suc (suc c)) = X.low c
  one_sound k m h g p (inv a) e q =
      let a<k : a < k = op-earlier w k (inv a) h e in
      let z = add_sound g.canonical (inv (get_or m.new a 0)) (g.low a) in
      record {
        canonical = z.canonical;
        low = z.low;
        val = λ s. cc (z.val s, g.val a a<k (closed k (inv a) h e q) s, canonical-value w (act t x s) k h, e);
      }
  one_sound k m h g p (bin o a b) e q =
      let lt : (a < k) × (b < k) = op-earlier w k (bin o a b) h e in
      let qs = closed k (bin o a b) h e q in
      let z = add_sound g.canonical (bin o (get_or m.new a 0) (get_or m.new b 0)) (g.low a, g.low b) in
      record {
        canonical = z.canonical;
        low = z.low;
        val = λ s. cc (
          z.val s,
          g.val a lt.0 qs.0 s,
          g.val b lt.1 qs.1 s,
          canonical-value w (act t x s) k h,
          e,
        );
      }

  -- One turn keeps the stage.
  stage-row : (k : ℕ) (m : Carried) → k < length u → Stage C t x u y k m → Ext t m.tab → (b : Bool) → reaches u y k ≡ b
      → Stage C t x u y (suc k) (carry_row add x m (row_at u k) b)
  stage-row k m h g p false q = record {
    canonical = g.canonical;
    size = snoc_length m.new 0 k g.size;
    low = snoc_low m.new 0 (length m.tab) (length m.tab) g.low (omega arith) (omega (arith, g.canonical.long));
    val = snoc_each (λ i n. reaches u y i ≡ true → (s : List Bool) → value m.tab s n ≡ value u (act t x s) i) m.new 0 k
        g.size g.val (λ z s. cc);
  }
  stage-row k m h g p true q =
      let a = carry_one add x m (row_at u k) in
      let z = one_sound k m h g p (row_at u k) refl q in
      let more : Ext m.tab a.tab = grown_ext (carry_one-grown x m (row_at u k)) in
      record {
        canonical = z.canonical;
        size = snoc_length m.new a.row k g.size;
        low = snoc_low m.new a.row (length a.tab) (length m.tab) g.low (ext_length more) z.low;
        val = snoc_each (λ i n. reaches u y i ≡ true → (s : List Bool) → value a.tab s n ≡ value u (act t x s) i) m.new
            a.row k g.size
            (λ i l f s. ext_value more s (get_or m.new i 0) (g.low i) ∙ g.val i l f s) (λ f. z.val);
      }

  pub stages : (k : ℕ) → k ≤ length u → Stage C t x u y k (carry add t x u y k)
  unfolding carry
  stages zero h = record {
    canonical = X.canonical;
    size = refl;
    low = λ i. omega (arith, X.canonical.long);
    val = λ i j. absurd (omega arith);
  }
  stages (suc k) h =
      stage-row k (carry add t x u y k) (omega arith) (stages k (omega arith)) (grown_ext (carry-grown t x u y k))
      (reaches u y k) refl

-- The law of composition: a set after another stands, and evaluates as first then second.
pub after_acts : {C : ℕ} (t : List Row) (x : List ℕ) (u : List Row) (y : List ℕ) → Stands C (over t x) → Stands C (over u y)
    → Acts C (after t x u y) (λ s. act u y (act t x s))
unfolding after act
after_acts {C} t x u y X Y =
    let m = carry add t x u y (length u) in
    let g = stages t x u y X Y.canonical (length u) (omega arith) in
    let new : ℕ → ℕ = λ h. get_or m.new h 0 in
    record {
      stands = record {
        canonical = g.canonical;
        count = length-map y new ∙ Y.count;
        low = map-low new (length m.tab) g.low y;
      };
      val = λ s. map-map (value m.tab s) new y
          ∙ map_ext (λ h. value m.tab s (new h)) (value u (act t x s)) 0 y
          (λ c h. g.val (get_or y c 0) (Y.low c) (needs_keeps u (length u) (get_or y c 0) y (elem_at y c 0 h)) s);
    }
