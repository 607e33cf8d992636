-- Laws of carrying rows to their own table: one row, one row more, and the heads.
use Rattle.std.specs.Prelude.{ℕ, suc, ◌+◌, ◌<◌, ◌≡◌, Bool, List, [], ◌∷◌, ◌++◌, length, get_or, set, Ok, Err}
use Rattle.std.proofs.Math.Path.{refl, ap}
use Rattle.std.proofs.Common.{ap₂, sym, ◌∙◌, arith, length-set, add-one}
use Rattle.std.proofs.Math.Bool.{true, false}
use Rattle.std.proofs.Math.Decide.{dec_lt}
use Rattle.std.proofs.Math.Seq.{get_or-set_same, get_or-set_other}
use borrow.Author.Tests.{eq-eqb, ne_eqb, not-true, not-false}
use Rattle.rules.specs.Rows.{Row, leaf, inv, bin, row_at, add, Added}
use Rattle.rules.specs.Sets.{Carried, reaches, carry_one, carry}
use Rattle.laws.specs.Canonical.{Below}
use Rattle.laws.specs.Rule.{canonical-below}
use Rattle.laws.specs.Grow.{ext_length, ext_row, grown_ext}
use Rattle.laws.specs.After.{Stage, leaf-own, carry-grown, carry-size, snoc_old, snoc_last, stages}
use Rattle.base.specs.Answers.{Answer}
use Rattle.base.specs.declared.kinds.Row as K
use Rattle.base.specs.declared.refusal.Refusal.{Refusal}
use Rattle.table.specs.declared.LentTable.{LentTable}
use Rattle.rows.specs.Entries.{node_row, row_of_entry}
use Rattle.table.specs.Append.{Kept}
use Rattle.rows.specs.Table.{Stored, Exceeds, Addable, Adds, Gives}
use Rattle.rows.specs.Making.{carry-longer}
use Rattle.rows.specs.Stored.{stored-length, stored_row, exceeds-more}
use Rattle.rows.specs.declared.node.Node.{Node}
use Rattle.rows.specs.declared.node.Node.TheVariants.{Not, Two}
use Rattle.rewrite.specs.Carrying.{Both, carried, Carrying, Fits, Puts, Turn, Start}

-- ---- one row

-- What a row that can be carried needs, and what carrying it leaves, for each form of it.
module _ (n : Node) (x : List ℕ) (s : LentTable) (numbers : List ℕ) (fits : Fits x s numbers (node_row n)) where
  pub fits_not : (a : K.Row) → n ≡ Not a → Fits x s numbers (inv a.0)
  fits_not a e = rw e at fits

  pub fits-two : (o : Bool) (a b : K.Row) → n ≡ Two o a b → Fits x s numbers (bin o a.0 b.0)
  fits-two o a b e = rw e at fits

  pub not-addable : (a m : K.Row) → n ≡ Not a → m.0 ≡ get_or numbers a.0 0 → Addable s (inv m.0)
  not-addable a m e q = rw q (fits_not a e).1

  pub two-addable : (o : Bool) (a b m k : K.Row) → n ≡ Two o a b → m.0 ≡ get_or numbers a.0 0 → k.0 ≡ get_or numbers b.0 0
      → Addable s (bin o m.0 k.0)
  two-addable o a b m k e q r = rw (q, r) (fits-two o a b e).2

  pub puts_not : (a m : K.Row) → n ≡ Not a → m.0 ≡ get_or numbers a.0 0 → (v : Answer K.Row) (s' : LentTable)
      → Adds s (Not m) v s' → Puts x s numbers (node_row n) v s'
  puts_not a m e q v s' z C t w st =
      let g = z.gives C t w st (rw (stored-length st) (not-addable a m e q).ready) in
      rw e (rw q at g)

  pub puts_two : (o : Bool) (a b m k : K.Row) → n ≡ Two o a b → m.0 ≡ get_or numbers a.0 0 → k.0 ≡ get_or numbers b.0 0
      → (v : Answer K.Row) (s' : LentTable) → Adds s (Two o m k) v s' → Puts x s numbers (node_row n) v s'
  puts_two o a b m k e q r v s' z C t w st =
      let g = z.gives C t w st (rw (stored-length st) (two-addable o a b m k e q r).ready) in
      rw e (rw (q, r) at g)

-- ---- one row more

-- Carrying a row looks at no number but those of its operands.
one_agrees : (x : List ℕ) (m : Carried) (numbers : List ℕ) (k : ℕ) → ((i : ℕ) → i < k → get_or numbers i 0 ≡ get_or m.new i 0)
    → (r : Row) → Below k r → carry_one add x (record { tab = m.tab; new = numbers }) r ≡ carry_one add x m r
one_agrees x m numbers k same (leaf i) h = refl
one_agrees x m numbers k same (inv a) h = ap (λ c. add m.tab (inv c)) (same a h)
one_agrees x m numbers k same (bin o a b) h =
    ap₂ {C = Added} (λ c d. add m.tab (bin o c d)) (same a h.0) (same b h.1)

module _ {x : List ℕ} (b : Both x) (s : LentTable) (numbers : List ℕ) (k : ℕ) (g : Carrying b s numbers k)
    (h : k < length b.tab) where
  abbrev M : ℕ → Carried
  M i = carried b i

  -- The row that is next.
  abbrev row : Row
  row = row_at b.tab k

  -- The table so far is canonical, and the numbers are rows of it.
  stage : Stage b.width b.tab x b.tab b.second k (M k)
  stage = stages b.tab x b.tab b.second b.one b.one.canonical k g.low

  -- Each row carried so far has a number.
  size : length (M k).new ≡ k
  size = carry-size add b.tab x b.tab b.second k

  below : Below k row
  below = canonical-below b.one.canonical k h

  -- After the row, which got the number a.
  next : (s' : LentTable) (numbers' : List ℕ) (a : ℕ) → Stored s' (M (suc k)).tab
      → length numbers' ≡ length numbers → ((i : ℕ) → (i ≡ k → ⊥) → get_or numbers' i 0 ≡ get_or numbers i 0)
      → get_or numbers' k 0 ≡ a → (M (suc k)).new ≡ (M k).new ++ (a ∷ []) → Carrying b s' numbers' (k + 1)
  next s' numbers' a stored long others one new =
      rw add-one (record {
        low = omega arith;
        long = omega (arith, g.long);
        stored = stored;
        noted = λ i l. elim (dec_lt i k) [
          | yes p ↦ others i (omega arith) ∙ g.noted i p ∙ sym (ap (λ w. get_or w i 0) new ∙ snoc_old (M k).new a k size i p)
          | no p ↦
              let e : i ≡ k = omega arith in
              rw e (one ∙ sym (ap (λ w. get_or w k 0) new ∙ snoc_last (M k).new a k size))
        ];
        marked = λ i l p. rw (others i (omega arith)) (g.marked i (omega arith) p);
      })

  -- The next row is one of those used.
  used : k < s.state.used
  used = omega (arith, stored-length g.stored, ext_length (grown_ext (carry-grown b.tab x b.tab b.second k)))

  pub turn-held : k < length s.rows.now
  turn-held = omega (arith, used, g.stored.held)

  -- A row that is not marked is not carried.
  pub turn-none : get_or numbers k 0 ≡ 0 → Carrying b s numbers (k + 1)
  unfolding carry
  turn-none e =
      let q : reaches b.tab b.second k ≡ false
      = not-true _ (sym (g.marked k (omega arith) h) ∙ eq-eqb (get_or numbers k 0) 0 e) in
      next s numbers 0 (rw q g.stored) refl (λ i _. refl) e (rw q)

  module _ (n : Node) (read : node_row n ≡ row_of_entry (get_or s.rows.now k 0)) where
    -- The row as the code reads it is that of the rules' table, which has only grown.
    row_is : node_row n ≡ row
    row_is = read ∙ sym (stored_row g.stored k used)
        ∙ ext_row (grown_ext (carry-grown b.tab x b.tab b.second k)) k h

    -- A number noted is a row that is used.
    number-low : (a : ℕ) → a < k → get_or numbers a 0 < s.state.used
    number-low a l = omega (arith, g.noted a l, stage.low a, stored-length g.stored)

    fits-row : (r : Row) → row ≡ r → Below k r → Fits x s numbers r
    fits-row (leaf i) e l =
        let own = leaf-own b.one.canonical k i h e in
        omega (arith, own.0, own.1, b.one.count)
    fits-row (inv a) e l = (omega (arith, g.long), record { held = g.stored.held; ready = number-low a l })
    fits-row (bin o a c) e l = (
      omega (arith, g.long),
      omega (arith, g.long),
      record { held = g.stored.held; ready = (number-low a l.0, number-low c l.1) },
    )

    -- A row that is marked can be carried.
    pub turn-fits : Fits x s numbers (node_row n)
    turn-fits = rw row_is (fits-row row refl below)

    -- A row that is marked is carried, and its number noted; or no row is left for it.
    module _ (e : get_or numbers k 0 ≡ 0 → ⊥) where
      reached : reaches b.tab b.second k ≡ true
      reached = not-false _ (sym (g.marked k (omega arith) h) ∙ ne_eqb (get_or numbers k 0) 0 e)

      gives : (v : Answer K.Row) (s' : LentTable) → Puts x s numbers (node_row n) v s' → Gives s v s' (carry_one add x (M k) row)
      gives v s' z =
          let one : carry_one add x (record { tab = (M k).tab; new = numbers }) (node_row n) ≡ carry_one add x (M k) row
          = ap (carry_one add x (record { tab = (M k).tab; new = numbers })) row_is ∙ one_agrees x (M k) numbers k g.noted row below in
          rw one at (z b.width (M k).tab stage.canonical g.stored)

      pub turn-some : (v : K.Row) (s' : LentTable) → Puts x s numbers (node_row n) (Ok v) s' → Carrying b s' (set numbers k v.0) (k + 1)
      unfolding carry
      turn-some v s' z =
          let p = gives (Ok v) s' z in
          next s' (set numbers k v.0) (carry_one add x (M k) row).row (rw reached p.0)
          (length-set numbers k v.0) (λ i q. get_or-set_other numbers k i v.0 0 q)
          (get_or-set_same numbers k v.0 0 (omega (arith, g.long)) ∙ p.1) (rw reached)

      pub turn-full : (a : Refusal) (s' : LentTable) → Puts x s numbers (node_row n) (Err a) s' → Exceeds s a (carried b (k + 1)).tab
      unfolding carry
      turn-full a s' z = rw (add-one, reached) (gives (Err a) s' z)

-- ---- the rows, one by one

-- The rows of the table are those that are used before any row is carried.
pub start_size : {x : List ℕ} {s : LentTable} {numbers : List ℕ} (w : Start x s numbers) → length w.both.tab ≡ s.state.used
unfolding carry
start_size w = stored-length w.state.stored

module _ {x : List ℕ} {s₀ s : LentTable} {numbers₀ numbers : List ℕ} {k : ℕ} (w : Start x s₀ numbers₀) (g : Carrying w.both s numbers k) where
  -- The next row can be carried.
  abbrev pub carries_turn : k < s₀.state.used → Turn x s numbers k
  carries_turn h = record { both = w.both; state = g; more = omega (arith, start_size w) }

  -- No row is left for it.
  pub carries_over : {e : Refusal} → Kept s₀ s → k < s₀.state.used → Exceeds s e (carried w.both (k + 1)).tab
      → Exceeds s₀ e (carried w.both s₀.state.used).tab
  carries_over l h o = exceeds-more l o (carry-longer _ _ _ _ (k + 1) s₀.state.used (omega arith))
