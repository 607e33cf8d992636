-- Laws of rewriting the second set onto the first: new numbers, one row more, and the heads.
use Prim.Native.Nat.{ℕ, zero, suc, ◌+◌, ◌-◌, ◌≤◌, ◌<◌}
use Rattle.std.specs.Prelude.{◌≡◌, true, List, [], ◌∷◌, ◌++◌, length, set, Ok, Err}
use Rattle.std.proofs.Math.Path.{refl, ap}
use Rattle.std.proofs.Common.{ap₂, sym, ◌∙◌, subst, length-set, add-one, get_or-set_same, get_or-set_other}
use native.Mathlib.Omega.{arith}
use Rattle.std.proofs.Math.Decide.{dec_lt}
use Rattle.std.proofs.Math.ListN.{get_or}
use Rattle.std.proofs.lemmas.List.{length-map, get_or-map}
use borrow.Author.Tests.{lt-ltb, le-ltb}
use Rattle.rules.specs.Edition.{old}
use Rattle.rules.specs.Lists.{number_at}
use Rattle.rules.specs.Shape as R
use Rattle.rules.specs.Shape.{cells, shape_at}
use Rattle.rules.specs.Rows.{Row, leaf, inv, bin, row_at, add}
use Rattle.rules.specs.Sets.{Carried, carry, reaches, after}
use Rattle.rules.specs.SetFile.{TransferSet, leaves, head_at, named}
use Rattle.rules.specs.Operations.{composed}
use Rattle.laws.specs.Lists.{map_ext, elem_at}
use Rattle.laws.specs.Canonical.{Operands, Below, Canonical}
use Rattle.laws.specs.Rule.{Ready, canonical-ready, canonical-below}
use Rattle.laws.specs.Reach.{needs_keeps, reaches-operands}
use Rattle.laws.specs.After.{Stands, over, carry-size, carry-stays, snoc_old, snoc_last, stages}
use Rattle.laws.specs.Squeeze.{ren, carry-op}
use Rattle.laws.specs.Named.{all_reached}
use Rattle.laws.specs.Compose.{left-carried}
use Rattle.laws.specs.Room.{add-one-row}
use Rattle.base.specs.Answers.{Answer, shape_of}
use Rattle.base.specs.declared.shape.Shape.{Shape}
use Rattle.base.specs.declared.kinds.Row as K
use Rattle.table.specs.declared.LentTable.{LentTable}
use Rattle.rows.specs.Entries.{node_row}
use Rattle.base.specs.declared.refusal.Refusal.{Refusal}
use Rattle.table.specs.Append.{Kept}
use Rattle.rows.specs.Table.{Stored, Exceeds, Addable, Adds, Gives}
use Rattle.rows.specs.Stored.{stored-length, exceeds-more}
use Rattle.rows.specs.Adding.{holds-add}
use Rattle.rows.specs.Making.{carry-longer}
use Rattle.rows.specs.declared.node.Node.{Node}
use Rattle.sets.specs.Spelt.{set_in, rows_in, spelt_row, spelt-row, spelt-shape, spelt-length, spelt-head, spelt-heads, taken_proper, taken-canonical}
use Rattle.carry.specs.Carrying.{Pair, Known, new_number, renumbered, carried, Carrying, Moving, new_heads}

-- ---- new numbers

module _ (first : List ℕ) (leaves : ℕ) (numbers : List ℕ) (i : ℕ) where
  pub number_constant : i < 2 → i ≡ new_number first leaves numbers i
  unfolding new_number
  number_constant h = rw (lt-ltb i 2 h) refl

  pub number-head : 2 ≤ i → i < leaves → number_at 2 first (head_at old (i - 2)) ≡ new_number first leaves numbers i
  unfolding new_number
  number-head h l = rw (le-ltb i 2 h, lt-ltb i leaves l) refl

  pub number-noted : 2 ≤ i → leaves ≤ i → get_or numbers (i - leaves) 0 ≡ new_number first leaves numbers i
  unfolding new_number
  number-noted h l = rw (le-ltb i 2 h, le-ltb i leaves l) refl

-- The same where the code has counted C cells.
pub noted-at : (first : List ℕ) (sh : R.Shape) (numbers : List ℕ) (i C : ℕ) → C ≡ cells sh → 2 ≤ i → 2 + C ≤ i
    → get_or numbers (i - (2 + C)) 0 ≡ new_number first (leaves sh) numbers i
noted-at first sh numbers i C e h l = rw e (number-noted first (leaves sh) numbers i h (omega arith))

-- ---- two files

module _ (first second : List ℕ) (shape : Shape) (p : Pair first second shape) where
  abbrev X : TransferSet
  X = set_in first

  abbrev Y : TransferSet
  Y = set_in second

  abbrev L : ℕ
  L = leaves (shape_of shape)

  abbrev C : ℕ
  C = cells (shape_of shape)

  first-shape : shape_at old first ≡ shape_of shape
  first-shape = sym p.shaped

  second-shape : shape_at old second ≡ shape_of shape
  second-shape = sym (p.shaped ∙ p.same)

  canon_x : Canonical C X.tab
  canon_x = subst (λ k. Canonical k X.tab) (ap cells first-shape) (taken-canonical first p.one)

  canon_y : Canonical C Y.tab
  canon_y = subst (λ k. Canonical k Y.tab) (ap cells second-shape) (taken-canonical second p.two)

  size_x : length X.tab ≡ L + rows_in first
  size_x = spelt-length first (shape_at old first) (rows_in first) ∙ ap (λ sh. leaves sh + rows_in first) first-shape

  size_y : length Y.tab ≡ L + rows_in second
  size_y = spelt-length second (shape_at old second) (rows_in second) ∙ ap (λ sh. leaves sh + rows_in second) second-shape

  heads_x : length X.heads ≡ C
  heads_x = spelt-heads first (shape_at old first) (rows_in first) ∙ ap cells first-shape

  heads_y : length Y.heads ≡ C
  heads_y = spelt-heads second (shape_at old second) (rows_in second) ∙ ap cells second-shape

  pub stands_x : Stands C (over X.tab X.heads)
  stands_x = record { canonical = canon_x; count = heads_x; low = (taken_proper first p.one).rows }

  pub stands_y : Stands C (over Y.tab Y.heads)
  stands_y = record { canonical = canon_y; count = heads_y; low = (taken_proper second p.two).rows }

  -- R44: every operation row of the second set is reached.
  reached : (k : ℕ) → L ≤ k → k < length Y.tab → reaches Y.tab Y.heads k ≡ true
  reached k h l =
      let shape_is : cells Y.shape ≡ C = ap cells (spelt-shape second (shape_at old second) (rows_in second) ∙ second-shape) in
      let names : (i : ℕ) → L ≤ i → i < length Y.tab → named Y.tab Y.heads i ≡ true = λ i f g.
      (taken_proper second p.two).names i (omega arith) g in
      all_reached Y.tab Y.heads canon_y names (length Y.tab) k (omega arith) h l

  abbrev M : ℕ → Carried
  M k = carried first second k

  -- The rule's table stays canonical, and every number is one of its rows.
  pub carried-canonical : (k : ℕ) → k ≤ length Y.tab → Canonical C (M k).tab
  carried-canonical k h = (stages X.tab X.heads Y.tab Y.heads stands_x canon_y k h).canonical

  carried-low : (k : ℕ) → k ≤ length Y.tab → (i : ℕ) → get_or (M k).new i 0 < length (M k).tab
  carried-low k h = (stages X.tab X.heads Y.tab Y.heads stands_x canon_y k h).low

  -- A leaf keeps the number that it got.
  leaf-kept : (j i : ℕ) → i < L → reaches Y.tab Y.heads i ≡ true → get_or (M (L + j)).new i 0 ≡ get_or (0 ∷ 1 ∷ X.heads) i 0
  leaf-kept j i h q = carry-stays add X.tab X.heads Y.tab Y.heads L (L + j) i h (omega arith)
      ∙ (left-carried X.tab X.heads Y.tab Y.heads canon_y L (omega arith)).same i h q

  head_at_lem : (i : ℕ) → 2 ≤ i → i < L → number_at 2 first (head_at old (i - 2)) ≡ get_or (0 ∷ 1 ∷ X.heads) i 0
  head_at_lem zero h l = absurd (omega arith)
  head_at_lem (suc zero) h l = absurd (omega arith)
  head_at_lem (suc (suc c)) h l =
      let z : suc (suc c) - 2 ≡ c = omega arith in
      rw z (sym (spelt-head first (shape_at old first) (rows_in first) c (omega (arith, ap cells first-shape))))

  constant_at : (i : ℕ) → i < 2 → i ≡ get_or (0 ∷ 1 ∷ X.heads) i 0
  constant_at zero h = refl
  constant_at (suc zero) h = refl
  constant_at (suc (suc i)) h = absurd (omega arith)

  -- R34: the number that the code finds for a reached row is the one that it was carried to.
  module _ (numbers : List ℕ) (j : ℕ)
      (noted : (i : ℕ) → i < j → get_or numbers i 0 ≡ get_or (M (L + j)).new (L + i) 0) where
    pub number-carried : (i : ℕ) → i < L + j → reaches Y.tab Y.heads i ≡ true
        → new_number first L numbers i ≡ get_or (M (L + j)).new i 0
    number-carried i h q = elim (dec_lt i 2) [
      | yes a ↦ sym (number_constant first L numbers i a) ∙ constant_at i a ∙ sym (leaf-kept j i (omega arith) q)
      | no a ↦ elim (dec_lt i L) [
        | yes b ↦ sym (number-head first L numbers i (omega arith) b) ∙ head_at_lem i (omega arith) b ∙ sym (leaf-kept j i b q)
        | no b ↦
            let z : L + (i - L) ≡ i = omega arith in
            sym (number-noted first L numbers i (omega arith) (omega arith)) ∙ noted (i - L) (omega arith)
            ∙ ap (λ k. get_or (M (L + j)).new k 0) z
      ]
    ]

    -- R34: so a row is renumbered as the rules do.
    renumbered-is : (r : Row) → Below (L + j) r → Operands (λ a. reaches Y.tab Y.heads a ≡ true) r
        → renumbered first L numbers r ≡ ren (M (L + j)).new r
    renumbered-is (leaf i) h q = refl
    renumbered-is (inv a) h q = ap inv (number-carried a h q)
    renumbered-is (bin o a b) h q = ap₂ {C = Row} (bin o) (number-carried a h.0 q.0) (number-carried b h.1 q.1)

  -- ---- one row more

  -- Row j of the second set's operations, and what it is carried as.
  abbrev row : ℕ → Row
  row j = row_at Y.tab (L + j)

  abbrev new : ℕ → Row
  new j = ren (M (L + j)).new (row j)

  row-ready : (j : ℕ) → j < rows_in second → Ready (L + j) (row j)
  row-ready j h = canonical-ready canon_y (L + j) (omega arith) (omega (arith, size_y))

  ready-ren : (news : List ℕ) (k n : ℕ) (r : Row) → Ready k r → ((i : ℕ) → get_or news i 0 < n) → Ready n (ren news r)
  ready-ren news k n (leaf i) h l = absurd h
  ready-ren news k n (inv a) h l = l a
  ready-ren news k n (bin o a b) h l = (l a, l b)

  new-ready : (j : ℕ) → j < rows_in second → Ready (length (M (L + j)).tab) (new j)
  new-ready j h =
      ready-ren (M (L + j)).new (L + j) (length (M (L + j)).tab) (row j) (row-ready j h)
      (carried-low (L + j) (omega (arith, size_y)))

  -- R34: it is added, and its number is the next of the new numbers.
  record Step (j : ℕ) : Type 0 where
    tab : (M (L + suc j)).tab ≡ (add (M (L + j)).tab (new j)).tab
    news : (M (L + suc j)).new ≡ (M (L + j)).new ++ ((add (M (L + j)).tab (new j)).row ∷ [])

  step : (j : ℕ) → j < rows_in second → Step j
  unfolding carry
  step j h =
      let z : L + suc j ≡ suc (L + j) = omega arith in
      let q = reached (L + j) (omega arith) (omega (arith, size_y)) in
      let o = carry-op add X.heads (M (L + j)) (L + j) (row j) (row-ready j h) in
      record { tab = rw (z, q, o); news = rw (z, q, o) }

  -- Where the code reads it; c is the number of cells.
  module _ (j : ℕ) (h : j < rows_in second) (c : ℕ) (e : c ≡ C) where
    pub row-place : (n : Node) → node_row n ≡ spelt_row second (shape_of shape) (2 + c + j)
        → node_row n ≡ spelt_row second (shape_of shape) (L + j)
    row-place n q = q ∙ ap (λ k. spelt_row second (shape_of shape) (2 + k + j)) e

  -- The row as the code reads it and renumbers it.
  module _ (numbers : List ℕ) (s : LentTable) (j : ℕ) (g : Carrying first second shape s numbers j) (h : j < rows_in second)
      (n : Node) (read : node_row n ≡ spelt_row second (shape_of shape) (L + j)) where
    row_is : node_row n ≡ row j
    row_is =
        let at = spelt-row second (shape_at old second) (rows_in second) (L + j) (omega (arith, ap cells second-shape)) in
        read ∙ sym (at ∙ ap (λ sh. spelt_row second sh (L + j)) second-shape)

    known-one : (a : ℕ) → a < L + j → Known first L (length numbers) a
    known-one a l = record {
      head = λ b c. omega (arith, size_x, p.one.size, ap cells first-shape);
      noted = λ q. omega (arith, g.long);
    }

    known-row : (r : Row) → Ready (L + j) r → Operands (Known first L (length numbers)) r
    known-row (leaf i) l = tt
    known-row (inv a) l = known-one a l
    known-row (bin o a b) l = (known-one a l.0, known-one b l.1)

    pub row-known : Operands (Known first L (length numbers)) (node_row n)
    row-known = rw row_is (known-row (row j) (row-ready j h))

    module _ (m : Node) (e : node_row m ≡ renumbered first L numbers (node_row n)) where
      -- The operation is the one that the rules add.
      new_is : node_row m ≡ new j
      new_is =
          let below = canonical-below canon_y (L + j) (omega (arith, size_y)) in
          let ops = reaches-operands Y.tab canon_y Y.heads (L + j) (row j) (omega (arith, size_y)) refl
          (reached (L + j) (omega arith) (omega (arith, size_y))) in
          e ∙ ap (renumbered first L numbers) row_is ∙ renumbered-is numbers j g.noted (row j) below ops

      pub new-addable : Addable s (node_row m)
      new-addable = record {
        held = g.stored.held;
        ready = rw (new_is, ← stored-length g.stored) (new-ready j h);
      }

      gives : (r : Answer K.Row) (s' : LentTable) → Adds s m r s' → Gives s r s' (add (M (L + j)).tab (new j))
      gives r s' a = holds-add (carried-canonical (L + j) (omega (arith, size_y))) g.stored a (new j) (new-ready j h) new_is

      pub carrying-more : (x : K.Row) (s' : LentTable) → Adds s m (Ok x) s' → Carrying first second shape s' (set numbers j x.0) (j + 1)
      carrying-more x s' a =
          let st = step j h in
          let p = gives (Ok x) s' a in
          let one = add-one-row (M (L + j)).tab (new j) in
          rw add-one (record {
            pair = g.pair;
            low = omega arith;
            long = rw length-set g.long;
            few = rw st.tab (omega (arith, g.few, one));
            stored = rw st.tab p.0;
            noted = λ i l. elim (dec_lt i j) [
              | yes k ↦ rw (st.news, snoc_old (M (L + j)).new _ (L + j) (carry-size add X.tab X.heads Y.tab Y.heads (L + j)) (L + i) (omega arith))
                  (get_or-set_other numbers j i x.0 0 (omega arith) ∙ g.noted i k)
              | no k ↦
                  let u : i ≡ j = omega arith in
                  rw (
                    u,
                    st.news,
                    snoc_last (M (L + j)).new _ (L + j)
                        (carry-size add X.tab X.heads Y.tab Y.heads (L + j)),
                  )
                  (get_or-set_same numbers j x.0 0 (omega (arith, g.long)) ∙ p.1)
            ];
          })

      pub carrying-full : (x : Refusal) (s' : LentTable) → Adds s m (Err x) s' → Exceeds s x (M (L + (j + 1))).tab
      carrying-full x s' a =
          let z : j + 1 ≡ suc j = omega arith in
          rw (z, (step j h).tab) (gives (Err x) s' a)

  -- ---- the start and the end

  -- Before any row of the second set, the table is that of the first.
  pub carrying_start : (numbers : List ℕ) (s : LentTable) → Stored s X.tab → rows_in second ≤ length numbers
      → Carrying first second shape s numbers 0
  carrying_start numbers s st long =
      let left = left-carried X.tab X.heads Y.tab Y.heads canon_y L (omega arith) in
      let z : L + 0 ≡ L = omega arith in
      let tab : (M (L + 0)).tab ≡ X.tab = ap (λ k. (M k).tab) z ∙ left.tab in
      record {
        pair = p;
        low = omega arith;
        long = long;
        few = rw tab (omega arith);
        stored = rw tab st;
        noted = λ i l. absurd (omega arith);
      }

  -- All rows of the second set: the composed table.
  pub carried_all : (M (L + rows_in second)).tab ≡ (composed X Y).tab
  unfolding after
  carried_all = ap (λ k. (M k).tab) (sym size_y)

  module _ (numbers : List ℕ) (s : LentTable) (g : Carrying first second shape s numbers (rows_in second)) where
    pub composed-holds : Stored s (composed X Y).tab
    composed-holds = rw carried_all at g.stored

    pub composed-few : length (composed X Y).tab ≤ length X.tab + rows_in second
    composed-few = rw carried_all at g.few

    -- R34: the heads of the second set, renumbered, are those of the composed set.
    pub heads-moved : new_heads first second shape numbers ≡ (composed X Y).heads
    unfolding after
    heads-moved =
        map_ext (new_number first L numbers) (λ h. get_or (M (length Y.tab)).new h 0) 0 Y.heads λ c l.
        let head = get_or Y.heads c 0 in
        let asked = needs_keeps Y.tab (length Y.tab) head Y.heads (elem_at Y.heads c 0 l) in
        number-carried numbers (rows_in second) g.noted head (omega (arith, stands_y.low c, size_y)) asked
        ∙ ap (λ k. get_or (M k).new head 0) (sym size_y)

  -- ---- the heads, one by one

  module _ (numbers : List ℕ) (n : ℕ) (w : Moving first second shape numbers n) where
    abbrev given : List ℕ
    given = new_heads first second shape numbers

    head-is : (c h : ℕ) → c < n → h ≡ number_at 2 second (head_at old c) → h ≡ get_or Y.heads c 0
    head-is c h l q =
        q ∙ sym (spelt-head second (shape_at old second) (rows_in second) c (omega (arith, w.count, ap cells second-shape)))

    pub head-known : (c h : ℕ) → c < n → h ≡ number_at 2 second (head_at old c) → Known first L (length numbers) h
    head-known c h l q = record {
      head = λ a b. omega (arith, p.one.size, ap cells first-shape);
      noted = λ a. omega (arith, head-is c h l q, stands_y.low c, size_y, w.long);
    }

    -- As many as there are places, each in its own.
    pub given-length : length given ≡ n
    given-length = length-map Y.heads (new_number first L numbers) ∙ heads_y ∙ sym w.count

    pub given-at : (c h v : ℕ) → c < n → h ≡ number_at 2 second (head_at old c) → v ≡ new_number first L numbers h → v ≡ get_or given c 0
    given-at c h v l q e =
        e ∙ ap (new_number first L numbers) (head-is c h l q)
        ∙ sym (get_or-map (new_number first L numbers) Y.heads c 0 0 (omega (arith, heads_y, w.count)))

-- No row is left for a row of the second set, so none is for all of them.
pub carrying-over : (first second : List ℕ) (shape : Shape) {s₀ s : LentTable} {x : Refusal} (j : ℕ) → Kept s₀ s → j < rows_in second
    → Exceeds s x (carried first second (leaves (shape_of shape) + (j + 1))).tab
    → Exceeds s₀ x (carried first second (leaves (shape_of shape) + rows_in second)).tab
carrying-over first second shape j k h o = exceeds-more k o (carry-longer _ _ _ _ _ _ (omega arith))
