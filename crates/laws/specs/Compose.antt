-- Composition of sets: first then second, either grouping, the unchanging set on each side, and the file of what building and composing give.
use Prim.Native.Nat.{ℕ, zero, suc, ◌+◌, ◌≤◌, ◌<◌}
use Rattle.std.specs.Prelude.{◌≡◌, Bool, true, false, List, [], ◌∷◌, ◌++◌, map, length, get_or}
use Rattle.std.proofs.Math.Path.{refl}
use Rattle.std.proofs.Common.{sym, ap, ◌∙◌, arith}
use Rattle.std.proofs.lemmas.List.{length-map}
use Rattle.rules.specs.Verdict.{granted}
use Rattle.rules.specs.Edition.{Edition, most_rows}
use Rattle.rules.specs.Shape.{Shape, cells, check_shape}
use Rattle.rules.specs.Rows.{Row, base, row_of_cell, row_at, add}
use Rattle.rules.specs.Sets.{Heads, act, unchanging, reaches, Carried, carry_row, carry, after}
use Rattle.rules.specs.SetFile.{TransferSet, leaves, named}
use Rattle.rules.specs.Operations.{evaluate_set, set_of, composed, compose_sets, unchanging_set}
use Rattle.rules.specs.Lists.{from, elem}
use Rattle.laws.specs.Lists.{length_from, get_or-from, map_shift, map-from, elem_at}
use Rattle.laws.specs.Reach.{needs_keeps}
use Rattle.laws.specs.Canonical.{Canonical, Proper}
use Rattle.laws.specs.Rows.{length-base}
use Rattle.laws.specs.Rule.{base-canonical}
use Rattle.laws.specs.After.{Stands, Acts, over, snoc_length, snoc_each, after_acts}
use Rattle.laws.specs.Squeeze.{squeeze-after, squeeze-stands, squeeze_acts, squeeze-few}
use Rattle.laws.specs.Named.{squeeze-named, squeeze-fixed}

-- A set whose heads stand in its canonical table.
abbrev pub Whole : TransferSet → Type 0
Whole z = Stands (cells z.shape) (over z.tab z.heads)

pub proper_whole : {e : Edition} {z : TransferSet} → Proper e z → Whole z
proper_whole p = record { canonical = p.canonical; count = p.count; low = p.rows }

-- Evaluating gives a storage of as many cells.
pub evaluate-length : (z : TransferSet) → Whole z → (s : List Bool) → length (evaluate_set z s) ≡ cells z.shape
unfolding act
evaluate-length z w s = length-map z.heads _ ∙ w.count

-- ---- the set that heads are

module _ (sh : Shape) (h : Heads) (H : Stands (cells sh) h) where
  pub set_of-whole : Whole (set_of sh h)
  unfolding set_of
  set_of-whole = squeeze-stands H

  pub set_of_acts : (s : List Bool) → length s ≡ cells sh → evaluate_set (set_of sh h) s ≡ act h.tab h.heads s
  unfolding set_of
  set_of_acts = squeeze_acts H

  -- It has a file if its table had room.
  pub set_of_proper : (e : Edition) → check_shape e sh ≡ granted tt → length h.tab ≤ most_rows → Proper e (set_of sh h)
  unfolding set_of
  set_of_proper e c room =
      let w = squeeze-stands H in
      record {
        shaped = c;
        canonical = w.canonical;
        count = w.count;
        rows = w.low;
        names = squeeze-named H;
        room = omega (arith, squeeze-few H);
      }

-- A set with a file is what its own heads are.
pub set_of-fixed : (z : TransferSet) → Whole z
    → ((k : ℕ) → leaves z.shape ≤ k → k < length z.tab → named z.tab z.heads k ≡ true)
    → set_of z.shape (over z.tab z.heads) ≡ z
unfolding set_of
set_of-fixed z w n = ap (λ (h : Heads). record { shape = z.shape; tab = h.tab; heads = h.heads }) (squeeze-fixed w n)

-- ---- first then second

module _ (X Y : TransferSet) (same : X.shape ≡ Y.shape) (x : Whole X) (y : Whole Y) where
  composed_acts : Acts (cells X.shape) (composed X Y) (λ s. evaluate_set Y (evaluate_set X s))
  composed_acts = after_acts X.tab X.heads Y.tab Y.heads x (rw same y)

  pub compose-whole : Whole (compose_sets X Y)
  compose-whole = set_of-whole X.shape (composed X Y) composed_acts.stands

  pub composed-stands : Stands (cells X.shape) (composed X Y)
  composed-stands = composed_acts.stands

  -- A composed set evaluates as the first and then the second.
  pub compose-value : (s : List Bool) → length s ≡ cells X.shape
      → evaluate_set (compose_sets X Y) s ≡ evaluate_set Y (evaluate_set X s)
  compose-value s e = set_of_acts X.shape (composed X Y) composed_acts.stands s e ∙ composed_acts.val s

-- Either grouping of three sets has equal values on every storage.
pub compose_grouping : (X Y Z : TransferSet) → X.shape ≡ Y.shape → Y.shape ≡ Z.shape → Whole X → Whole Y → Whole Z
    → (s : List Bool) → length s ≡ cells X.shape
    → evaluate_set (compose_sets (compose_sets X Y) Z) s ≡ evaluate_set (compose_sets X (compose_sets Y Z)) s
unfolding set_of
compose_grouping X Y Z p q x y z s e =
    compose-value (compose_sets X Y) Z (p ∙ q) (compose-whole X Y p x y) z s e
    ∙ ap (evaluate_set Z) (compose-value X Y p x y s e)
    ∙ sym (compose-value X (compose_sets Y Z) p x (compose-whole Y Z q y z) s e
    ∙ compose-value Y Z q y z (evaluate_set X s) (evaluate-length X x s ∙ ap cells p))

-- ---- the unchanging set on each side

-- The unchanging set before another gives the other's table and heads.
pub composed-before : (z : TransferSet) → Whole z
    → ((k : ℕ) → leaves z.shape ≤ k → k < length z.tab → named z.tab z.heads k ≡ true)
    → composed (unchanging_set z.shape) z ≡ over z.tab z.heads
composed-before z w n = sym (squeeze-after w) ∙ squeeze-fixed w n

-- The unchanging set before another gives the other.
pub unchanging-before : (z : TransferSet) → Whole z
    → ((k : ℕ) → leaves z.shape ≤ k → k < length z.tab → named z.tab z.heads k ≡ true)
    → compose_sets (unchanging_set z.shape) z ≡ z
unchanging-before z w n = ap (set_of z.shape) (composed-before z w n) ∙ set_of-fixed z w n

-- ---- the leaves of the second set

-- Leaves are carried to the heads of x, and add no row.
pub record Left (t : List Row) (x : List ℕ) (u : List Row) (y : List ℕ) (k : ℕ) (m : Carried) : Type 0 where
  pub size : length m.new ≡ k
  pub tab : m.tab ≡ t
  pub same : (i : ℕ) → i < k → reaches u y i ≡ true → get_or m.new i 0 ≡ get_or (0 ∷ 1 ∷ x) i 0

module _ {C : ℕ} (t : List Row) (x : List ℕ) (u : List Row) (y : List ℕ) (w : Canonical C u) where
  left-row : (k : ℕ) (m : Carried) → Left t x u y k m → k < 2 + C → (b : Bool) → reaches u y k ≡ b
      → Left t x u y (suc k) (carry_row add x m (row_at u k) b)
  left-row k m g h b q = go b q
    where
      one : (a : ℕ) → (reaches u y k ≡ true → a ≡ get_or (0 ∷ 1 ∷ x) k 0)
          → Left t x u y (suc k) (record { tab = m.tab; new = m.new ++ (a ∷ []) })
      one a p = record {
        size = snoc_length m.new a k g.size;
        tab = g.tab;
        same = snoc_each (λ i n. reaches u y i ≡ true → n ≡ get_or (0 ∷ 1 ∷ x) i 0) m.new a k g.size g.same p;
      }

      go : (b : Bool) → reaches u y k ≡ b → Left t x u y (suc k) (carry_row add x m (row_at u k) b)
      go false q = one 0 (λ r. cc)
      go true q = rw (w.leaf-at k h) (one (get_or (0 ∷ 1 ∷ x) k 0) (λ r. refl))

  pub left-carried : (k : ℕ) → k ≤ 2 + C → Left t x u y k (carry add t x u y k)
  unfolding carry
  left-carried zero h = record { size = refl; tab = refl; same = λ i p. absurd (omega arith) }
  left-carried (suc k) h = left-row k (carry add t x u y k) (left-carried k (omega arith)) (omega arith) (reaches u y k) refl

-- The unchanging set after another leaves its table and its heads.
after-unchanging : (C : ℕ) (t : List Row) (x : List ℕ) → length x ≡ C → after t x (base C) (unchanging C) ≡ over t x
unfolding after unchanging
after-unchanging C t x e =
    let m = carry add t x (base C) (from 2 C) (length (base C)) in
    let g = left-carried t x (base C) (from 2 C) (base-canonical C) (length (base C)) (omega (arith, length-base C)) in
    λ i. record { tab = g.tab i; heads = heads m g i }
  where
    head : (c : ℕ) → c < C → elem (row_of_cell c) (from 2 C) ≡ true
    head c h =
        let p : get_or (from 2 C) c 0 ≡ row_of_cell c = get_or-from 2 C c 0 h ∙ omega arith in
        rw p at (elem_at (from 2 C) c 0 (omega (arith, length_from 2 C)))

    heads : (m : Carried) → Left t x (base C) (from 2 C) (length (base C)) m → map (λ h. get_or m.new h 0) (from 2 C) ≡ x
    heads m g = map_shift (λ h. get_or m.new h 0) 1 C ∙ map_shift (λ h. get_or m.new (suc h) 0) 0 C
        ∙ ap (λ n. map (λ h. get_or m.new (suc (suc h)) 0) (from 0 n)) (sym e)
        ∙ map-from (λ h. get_or m.new (suc (suc h)) 0) 0 x
        (λ c h. g.same (row_of_cell c) (omega (arith, length-base C))
        (needs_keeps (base C) (length (base C)) (row_of_cell c) (from 2 C) (head c (omega arith))))

-- The unchanging set after another gives the other's table and heads.
pub composed-after : (z : TransferSet) → Whole z → composed z (unchanging_set z.shape) ≡ over z.tab z.heads
composed-after z w = after-unchanging (cells z.shape) z.tab z.heads w.count

-- The unchanging set after another gives the other.
pub unchanging-after : (z : TransferSet) → Whole z
    → ((k : ℕ) → leaves z.shape ≤ k → k < length z.tab → named z.tab z.heads k ≡ true)
    → compose_sets z (unchanging_set z.shape) ≡ z
unchanging-after z w n = ap (set_of z.shape) (composed-after z w) ∙ set_of-fixed z w n
