-- Laws of choosing: a chain of four additions, one cell, and one cell more a turn.
use Rattle.std.specs.Prelude.{Ok, Err}
use Rattle.std.specs.Prelude.{ℕ, zero, suc, ◌+◌, ◌≤◌, ◌<◌, ◌≡◌, refl, Bool, true, length, get_or, set}
use Rattle.std.proofs.Common.{ap, sym, ◌∙◌, arith, add-one, take-suc, drop-cons, length-take-le, eq-eqb, ne_eqb}
use Rattle.std.proofs.Math.Bool.{false}
use mathlib.Core.List.{List, [], ◌∷◌, ◌++◌, append-nil, zip}
use Rattle.std.proofs.Math.ListN.{take, drop, drop_of_length-le}
use Rattle.std.proofs.Math.Seq.{take_all, append_snoc}
use Rattle.std.proofs.lemmas.List.{set_at, get_or_at}
use Rattle.rules.specs.Rows.{Row, inv, bin, add}
use Rattle.rules.specs.Rows as R
use Rattle.rules.specs.Sets.{Heads, each, four_rows, choose, choice}
use Rattle.laws.specs.Canonical.{Canonical}
use Rattle.laws.specs.Rows.{meaning}
use Rattle.laws.specs.Rule.{Ready, Sound, add_sound}
use Rattle.laws.specs.Grow.{Grown, ext_length, add_extends, grown_ext}
use Rattle.laws.specs.After.{over}
use Rattle.laws.specs.Choice.{each_more, each-count, each-grown, choose-grown, choose_sound, length-zip, zip-at}
use Rattle.base.specs.Answers.{Answer}
use Rattle.base.specs.declared.kinds.Row as K
use Rattle.table.specs.declared.LentTable.{LentTable}
use Rattle.base.specs.declared.refusal.Refusal.{Refusal}
use Rattle.table.specs.Append.{Kept}
use Rattle.rows.specs.Table.{Stored, Exceeds, Addable, Adds, Gives}
use Rattle.rows.specs.Stored.{exceeds-more, ends-before, kept_refl}
use Rattle.rows.specs.Adding.{holds-add}
use Rattle.rows.specs.Making.{Drawn, addable}
use Rattle.rows.specs.declared.node.Node.TheVariants.{Not, Two}
use Rattle.choice.specs.Choosing.{Among, Choosable, Picks, Choosing}

-- ---- four operations

module _ {C : ℕ} {t : List Row} {s : LentTable} (f x y : K.Row) (g : Among C t s f.0 x.0 y.0) where
  -- R35: NOT f, the half for x and the half for y, as the rules add them.
  abbrev N : R.Added
  N = add t (inv f.0)

  abbrev A : R.Added
  A = add N.tab (bin true f.0 x.0)

  abbrev B : R.Added
  B = add A.tab (bin true N.row y.0)

  abbrev all : List Row
  all = (four_rows t f.0 x.0 y.0).tab

  -- What each of the four additions needs, and what it gives.
  pub not-addable : Addable s (inv f.0)
  not-addable = addable g.stored (inv f.0) g.low.0

  sound_n : Sound C N (λ z. meaning t z (inv f.0))
  sound_n = add_sound g.canonical (inv f.0) g.low.0

  ready_a : Ready (length N.tab) (bin true f.0 x.0)
  ready_a =
      let m = ext_length (add_extends t (inv f.0)) in
      (omega (arith, g.low.0), omega (arith, g.low.1))

  sound_a : Sound C A (λ z. meaning N.tab z (bin true f.0 x.0))
  sound_a = add_sound sound_n.canonical (bin true f.0 x.0) ready_a

  ready_b : Ready (length A.tab) (bin true N.row y.0)
  ready_b =
      let m = ext_length (add_extends t (inv f.0)) in
      let k = ext_length (add_extends N.tab (bin true f.0 x.0)) in
      (omega (arith, sound_n.low), omega (arith, g.low.2))

  sound_b : Sound C B (λ z. meaning A.tab z (bin true N.row y.0))
  sound_b = add_sound sound_a.canonical (bin true N.row y.0) ready_b

  ready_o : Ready (length B.tab) (bin false A.row B.row)
  ready_o =
      let m = ext_length (add_extends A.tab (bin true N.row y.0)) in
      (omega (arith, sound_a.low), sound_b.low)

  -- Each table is one of the last, which is longer.
  all_b : length B.tab ≤ length all
  unfolding four_rows
  all_b = ext_length (add_extends B.tab (bin false A.row B.row))

  all_a : length A.tab ≤ length all
  unfolding four_rows
  all_a = omega (arith, ext_length (add_extends A.tab (bin true N.row y.0)), all_b)

  all_n : length N.tab ≤ length all
  unfolding four_rows
  all_n = omega (arith, ext_length (add_extends N.tab (bin true f.0 x.0)), all_a)

  pub over_n : {e : Refusal} (s' : LentTable) → Adds s (Not f) (Err e) s' → Exceeds s e all
  over_n s' an = exceeds-more (kept_refl s) (an.gives C t g.canonical g.stored g.low.0) all_n

  module _ {n : K.Row} {s₁ : LentTable} (an : Adds s (Not f) (Ok n) s₁) where
    gives_n : Gives s (Ok n) s₁ N
    gives_n = an.gives C t g.canonical g.stored g.low.0

    pub and-addable : Addable s₁ (bin true f.0 x.0)
    and-addable = addable gives_n.0 (bin true f.0 x.0) ready_a

    pub over_a : {e : Refusal} (s' : LentTable) → Kept s s₁ → Adds s₁ (Two true f x) (Err e) s' → Exceeds s e all
    over_a s' k aa = exceeds-more k (aa.gives C N.tab sound_n.canonical gives_n.0 ready_a) all_a

    module _ {a : K.Row} {s₂ : LentTable} (aa : Adds s₁ (Two true f x) (Ok a) s₂) where
      gives_a : Gives s₁ (Ok a) s₂ A
      gives_a = aa.gives C N.tab sound_n.canonical gives_n.0 ready_a

      -- NOT f as the code has it.
      row_b : bin true n.0 y.0 ≡ bin true N.row y.0
      row_b = ap (λ k. bin true k y.0) gives_n.1

      pub other_addable : Addable s₂ (bin true n.0 y.0)
      other_addable = rw row_b (addable gives_a.0 (bin true N.row y.0) ready_b)

      adds_b : (r : Answer K.Row) (s' : LentTable) → Adds s₂ (Two true n y) r s' → Gives s₂ r s' B
      adds_b r s' ab = holds-add sound_a.canonical gives_a.0 ab (bin true N.row y.0) ready_b row_b

      pub over_b : {e : Refusal} (s' : LentTable) → Kept s s₂ → Adds s₂ (Two true n y) (Err e) s' → Exceeds s e all
      over_b s' k ab = exceeds-more k (adds_b (Err _) s' ab) all_b

      module _ {b : K.Row} {s₃ : LentTable} (ab : Adds s₂ (Two true n y) (Ok b) s₃) where
        gives_b : Gives s₂ (Ok b) s₃ B
        gives_b = adds_b (Ok b) s₃ ab

        -- Both halves as the code has them.
        row_o : {o : Bool} → bin o a.0 b.0 ≡ bin o A.row B.row
        row_o = rw (gives_a.1, gives_b.1) refl

        pub halves_addable : {o : Bool} → Addable s₃ (bin o a.0 b.0)
        halves_addable {o} = rw (row_o {o = o}) (addable gives_b.0 (bin o A.row B.row) ready_o)

        pub four_gives : (r : Answer K.Row) (s' : LentTable) → Kept s s₃ → Adds s₃ (Two false a b) r s'
            → Gives s r s' (four_rows t f.0 x.0 y.0)
        unfolding four_rows
        four_gives r s' k ar = ends-before (add B.tab (bin false A.row B.row)).tab _ k r
            (holds-add sound_b.canonical gives_b.0 ar (bin false A.row B.row) ready_o row_o)

-- ---- one cell

module _ {s : LentTable} {f x y : ℕ} where
  -- Equal heads are kept.
  pub choose_keeps : (r : K.Row) → x ≡ y → r.0 ≡ x → Picks choose s f x y (Ok r) s
  unfolding choose
  choose_keeps r e v = record { gives = λ C t g. rw (eq-eqb x y e) (g.stored, v) }

  -- Else the four operations give the head.
  pub choose-makes : {r : Answer K.Row} {s' : LentTable} → (x ≡ y → ⊥) → Picks four_rows s f x y r s' → Picks choose s f x y r s'
  unfolding choose
  choose-makes e p = record { gives = λ C t g. rw (ne_eqb x y e) (p.gives C t g) }

-- ---- one cell more a turn

-- R35: the choice for the first c cells.
abbrev pub part : ℕ → List ℕ → Heads → ℕ → Heads
part f y X c = each (λ u p. choose u f p.0 p.1) X.tab (take c (zip X.heads y))

-- After c turns the state stands for the choice for the first c cells, and `made` has its heads, then those of X.
pub record Chosen (C f : ℕ) (y : List ℕ) (X : Heads) (s : LentTable) (made : List ℕ) (c : ℕ) : Type 0 where
  pub canonical : Canonical C (part f y X c).tab
  pub stored : Stored s (part f y X c).tab
  pub heads : made ≡ (part f y X c).heads ++ drop c X.heads

module _ {C f : ℕ} {y : List ℕ} {s₀ : LentTable} {was : List ℕ} (w : Choosing C f y s₀ was) where
  abbrev X : Heads
  X = w.first

  abbrev P : ℕ → Heads
  P c = part f y X c

  abbrev put : List Row → ℕ × ℕ → R.Added
  put u p = choose u f p.0 p.1

  grows : (u : List Row) (p : ℕ × ℕ) → Grown u (put u p).tab
  grows u p = choose-grown u f p.0 p.1

  paired : length X.heads ≡ length y
  paired = w.stands.count ∙ sym w.second.count

  pairs : length (zip X.heads y) ≡ C
  pairs = length-zip X.heads y paired ∙ w.stands.count

  -- Before any cell.
  pub chosen_none : Chosen C f y X s₀ was 0
  unfolding each
  chosen_none = record { canonical = w.stands.canonical; stored = w.drawn.stored; heads = w.drawn.same }

  -- The tables grow from cell to cell.
  part-low : (u : List Row) (ps : List (ℕ × ℕ)) (c : ℕ) → length (each put u (take c ps)).tab ≤ length (each put u ps).tab
  unfolding each
  part-low u ps zero = ext_length (grown_ext (each-grown put grows u ps))
  part-low u [] (suc c) = omega arith
  part-low u (p ∷ ps) (suc c) = part-low (put u p).tab ps c

  longer : (c : ℕ) → length X.tab ≤ length (P c).tab
  longer c = ext_length (grown_ext (each-grown put grows X.tab (take c (zip X.heads y))))

  module _ (c : ℕ) (h : c < C) where
    -- The heads of cell c, and its choice.
    abbrev hx : ℕ
    hx = get_or X.heads c 0

    abbrev hy : ℕ
    hy = get_or y c 0

    abbrev Q : R.Added
    Q = choose (P c).tab f hx hy

    -- One cell more at the end.
    step : P (suc c) ≡ over Q.tab ((P c).heads ++ (Q.row ∷ []))
    step =
        let cut = take-suc (zip X.heads y) c (0, 0) (omega (arith, pairs)) in
        rw (cut, zip-at X.heads y paired c) (each_more put grows X.tab (take c (zip X.heads y)) (hx, hy))

    size : length (P c).heads ≡ c
    size = each-count put grows X.tab (take c (zip X.heads y)) ∙ length-take-le c (zip X.heads y) (omega (arith, pairs))

    low : (f < length (P c).tab) × (hx < length (P c).tab) × (hy < length (P c).tab)
    low =
        let m = longer c in
        (omega (arith, w.low), omega (arith, w.stands.low c), omega (arith, w.second.low c))

    module _ {s : LentTable} {made : List ℕ} (g : Chosen C f y X s made c) where
      -- Up to the turn for cell c, its place has the head of X.
      split : made ≡ (P c).heads ++ hx ∷ drop (suc c) X.heads
      split = g.heads ∙ ap (λ l. (P c).heads ++ l) (drop-cons X.heads c 0 (omega (arith, w.stands.count)))

      head-is : get_or made c 0 ≡ hx
      head-is = ap (λ l. get_or l c 0) split ∙ get_or_at (P c).heads hx (drop (suc c) X.heads) 0 c size

      among : Among C (P c).tab s f (get_or made c 0) hy
      among = rw head-is (record { canonical = g.canonical; stored = g.stored; low = low })

      pub chosen_needs : Choosable s f (get_or made c 0) hy
      chosen_needs = record { cells = C; table = (P c).tab; among = among }

      gives : (r : Answer K.Row) (s' : LentTable) → Picks choose s f (get_or made c 0) hy r s' → Gives s r s' Q
      gives r s' p = rw head-is at (p.gives C (P c).tab among)

      -- No row is left for cell c.
      pub chosen_over : {e : Refusal} {s' : LentTable} → Kept s₀ s → Picks choose s f (get_or made c 0) hy (Err e) s'
          → Exceeds s₀ e (choice X.tab f X.heads y).tab
      unfolding choice
      chosen_over {e} {s'} k p =
          let o : Exceeds s e (P (suc c)).tab = rw step (gives (Err e) s' p) in
          exceeds-more k o (part-low X.tab (zip X.heads y) (suc c))

      -- R35: after the turn for cell c, whose head is put in its place.
      pub chosen_more : {r : K.Row} {s' : LentTable} → Picks choose s f (get_or made c 0) hy (Ok r) s'
          → Chosen C f y X s' (set made c r.0) (c + 1)
      chosen_more {r} {s'} p =
          let stored : set made c r.0 ≡ ((P c).heads ++ (Q.row ∷ [])) ++ drop (suc c) X.heads =
          ap (λ l. set l c r.0) split ∙ set_at (P c).heads hx (drop (suc c) X.heads) r.0 c size
          ∙ ap (λ k. (P c).heads ++ k ∷ drop (suc c) X.heads) (gives (Ok r) s' p).1
          ∙ sym (append_snoc (P c).heads Q.row (drop (suc c) X.heads)) in
          rw add-one (record {
            canonical = rw step (choose_sound g.canonical f hx hy low.0 low.1 low.2).canonical;
            stored = rw step (gives (Ok r) s' p).0;
            heads = rw step stored;
          })

  -- All cells: the choice.
  pub chosen_all : {s : LentTable} {made : List ℕ} (c : ℕ) → Chosen C f y X s made c → C ≤ c
      → Drawn s made (choice X.tab f X.heads y)
  unfolding choice
  chosen_all c g e =
      let whole : take c (zip X.heads y) ≡ zip X.heads y = take_all c (zip X.heads y) (omega (arith, pairs)) in
      let none : drop c X.heads ≡ [] = drop_of_length-le X.heads {i = c} (omega (arith, w.stands.count)) in
      record { stored = rw whole at g.stored; same = rw (whole, none, append-nil) at g.heads }
