-- Composing two files: a law for each answer.
use Rattle.std.specs.Prelude.{ℕ, ◌+◌, ◌-◌, ◌≤◌, ◌<◌, ◌≡◌, Ok, Err, MatchResult, refl, Bool, true, false, not, List, length, eqb}
use Rattle.std.proofs.Common.{ap, sym, ◌∙◌, arith}
use Rattle.std.specs.Result.{IsErrAnd}
use borrow.Author.Tests.{lt-ltb, le-ltb, eq-eqb, not-false}
use Rattle.rules.specs.Verdict.{Verdict, granted}
use Rattle.rules.specs.Edition.{old}
use Rattle.rules.specs.Shape.{cells, shape_at, check_shape}
use Rattle.rules.specs.Shape as R
use Rattle.rules.specs.Sets.{Heads}
use Rattle.rules.specs.SetFile.{TransferSet, leaves, read_set}
use Rattle.rules.specs.Operations.{composed, finish, same_shape, compose, neither, blamed}
use Rattle.laws.specs.Shape.{shape-limits}
use Rattle.laws.specs.Grow.{ext_length, grown_ext}
use Rattle.laws.specs.Room.{composed-grown}
use Rattle.laws.specs.After.{Stands, after_acts}
use Rattle.laws.specs.Files.{same-shape}
use Rattle.base.specs.Answers.{Answer, passed, shape_of, refused_by}
use Rattle.base.specs.declared.shape.Shape.{Shape}
use Rattle.base.specs.declared.refusal.Refusal.{Refusal}
use Rattle.base.specs.declared.refusal.Refusal.TheVariants.{NoRoom, ShapesDiffer}
use Rattle.table.specs.declared.LentTable.{LentTable}
use Rattle.rows.specs.Table.{Exceeds}
use Rattle.rows.specs.Making.{Drawn}
use Rattle.rows.specs.Stored.{stored-length, exceeds-more, kept_refl}
use Rattle.writer.specs.Writes.{Writes, refused_writes}
use Rattle.writer.specs.Finish.{Finishing, Finishes, finish-full}
use Rattle.sets.specs.Spelt.{set_in, rows_in, Taken, spelt-shape, spelt-length, taken-read, taken_proper}
use Rattle.compose.specs.declared.Blame.TheVariants.{First, Second, Neither}
use Rattle.carry.specs.Carrying.{Pair, Moving, carried, new_heads}
use Rattle.carry.specs.CarryLaws.{stands_x, stands_y, carried_all, composed-holds, composed-few, heads-moved}
use Rattle.compose.specs.Contract.{answer, Composed, Composes, Ready, Finished}

-- R40: two accepted files whose shapes are found to be the same.
pub paired : (first second : List ℕ) → Taken first → Taken second → (s t : Shape) → shape_of s ≡ shape_at old first
    → shape_of t ≡ shape_at old second → (d : Bool) → d ≡ same_shape (shape_of s) (shape_of t) → not d ≡ false → Pair first second s
paired first second a b s t p q d e h = record {
  one = a;
  two = b;
  shaped = p;
  same = sym p ∙ same-shape (shape_of s) (shape_of t) (sym e ∙ not-false d h) ∙ q;
}

module _ (first second : List ℕ) (rows numbers : ℕ) (out : List ℕ) where
  abbrev v : Verdict (List ℕ)
  v = answer first second rows numbers out

  -- R51: a file that is refused.
  pub first-refused : (x : Refusal) → read_set old first ≡ refused_by x → Composes first second rows numbers (Err (First x)) out out
  unfolding compose
  first-refused x e = record { answers = rw e; about = rw e; output = rw e }

  module _ (a : Taken first) where
    pub second-refused : (x : Refusal) → read_set old second ≡ refused_by x → Composes first second rows numbers (Err (Second x)) out out
    unfolding compose
    second-refused x e =
        let r = taken-read first a in
        record { answers = rw (r, e); about = rw (r, e); output = rw (r, e) }

    module _ (b : Taken second) where
      abbrev X : TransferSet
      X = set_in first

      abbrev Y : TransferSet
      Y = set_in second

      -- R51: neither file is at fault.
      none-blamed : neither ≡ blamed old first second
      none-blamed = rw (taken-read first a, taken-read second b) refl

      pub composes-length : (w : Answer ℕ) (after : List ℕ) → Writes v w out after → (n : ℕ) → w ≡ Ok n
          → Composes first second rows numbers (Ok n) out after
      composes-length w after g n e = record { answers = rw e at g.answer; about = none-blamed; output = g.output }

      pub composes-refused : (w : Answer ℕ) (after : List ℕ) → Writes v w out after → (x : Refusal) → w ≡ Err x
          → Composes first second rows numbers (Err (Neither x)) out after
      composes-refused w after g x e = record { answers = rw e at g.answer; about = none-blamed; output = g.output }

      pub composes-written : (w : Answer ℕ) (q : Composed) (after : List ℕ) → Writes v w out after
          → MatchResult w (λ n. q ≡ Ok n) (λ x. IsErrAnd q (λ d. d ≡ Neither x)) → Composes first second rows numbers q out after
      composes-written (Ok n) q after g m = rw m (composes-length (Ok n) after g n refl)
      composes-written (Err x) q after g m = rw (passed m) (composes-refused (Err x) after g x refl)

      shape_x : X.shape ≡ shape_at old first
      shape_x = spelt-shape first (shape_at old first) (rows_in first)

      shape_y : Y.shape ≡ shape_at old second
      shape_y = spelt-shape second (shape_at old second) (rows_in second)

      -- R40: the shapes; s and t are those of the files, and d says whether they are the same.
      module _ (s t : Shape) (p : shape_of s ≡ shape_at old first) (q : shape_of t ≡ shape_at old second) (d : Bool)
          (e : d ≡ same_shape (shape_of s) (shape_of t)) where
        test_is : same_shape X.shape Y.shape ≡ d
        test_is = rw (shape_x ∙ sym p, shape_y ∙ sym q) (sym e)

        pub shapes_differ : not d ≡ true → Writes v (Err ShapesDiffer) out out
        unfolding compose
        shapes_differ h = refused_writes ShapesDiffer (rw (taken-read first a, taken-read second b, test_is, h))

      -- R54, R56: the room to begin with.
      module _ (same : shape_at old first ≡ shape_at old second) where
        agree : not (same_shape X.shape Y.shape) ≡ false
        agree = rw (shape_x, shape_y, same) (alike (shape_at old second))
          where
            own : (n : ℕ) → eqb n n ≡ true
            own n = eq-eqb n n refl

            alike : (sh : R.Shape) → not (same_shape sh sh) ≡ false
            alike sh = rw (own sh.depth, own sh.inputs, own sh.outputs, own sh.memory)

        numbers_is : length X.tab + (length Y.tab - leaves Y.shape) ≡ length X.tab + rows_in second
        numbers_is = omega (arith, spelt-length second (shape_at old second) (rows_in second), ap cells shape_y)

        pub rows_short : rows < length X.tab → Writes v (Err (NoRoom 0)) out out
        unfolding compose
        rows_short h =
            refused_writes (NoRoom 0) (rw (taken-read first a, taken-read second b, agree, lt-ltb rows (length X.tab) h))

        pub numbers_short : length X.tab ≤ rows → numbers < length X.tab + rows_in second
            → Writes v (Err (NoRoom 0)) out out
        unfolding compose
        numbers_short h l =
            refused_writes (NoRoom 0) (rw (
              taken-read first a,
              taken-read second b,
              agree,
              le-ltb rows (length X.tab) h,
              numbers_is,
              lt-ltb numbers (length X.tab + rows_in second) l,
            ))

        module _ (r : Ready first second rows numbers) where
          -- R54: then the table, and the output.
          pub answer-is : v ≡ finish old X.shape rows (length out) (composed X Y)
          unfolding compose
          answer-is = rw (
            taken-read first a,
            taken-read second b,
            agree,
            le-ltb rows (length X.tab) r.rows_lent,
            numbers_is,
            le-ltb numbers (length X.tab + rows_in second) r.numbers_lent,
          )

-- ---- the composed table written, or full

module _ (first second : List ℕ) (shape : Shape) (pair : Pair first second shape) where
  abbrev Z : Heads
  Z = composed (set_in first) (set_in second)

  stands : Stands (cells (shape_of shape)) Z
  stands = (after_acts (set_in first).tab (set_in first).heads (set_in second).tab (set_in second).heads
      (stands_x first second shape pair) (stands_y first second shape pair)).stands

  shape_is : (set_in first).shape ≡ shape_of shape
  shape_is = spelt-shape first (shape_at old first) (rows_in first) ∙ sym pair.shaped

  pub shape-checked : check_shape old (shape_of shape) ≡ granted tt
  shape-checked = rw shape_is at (taken_proper first pair.one).shaped

  -- R54, R59: what the rules finish with is what they answer.
  finish-is : (rows numbers : ℕ) (out : List ℕ) → Ready first second rows numbers
      → answer first second rows numbers out ≡ finish old (shape_of shape) rows (length out) Z
  finish-is rows numbers out r =
      answer-is first second rows numbers out pair.one pair.two pair.same r ∙ ap (λ sh. finish old sh rows (length out) Z) shape_is

  -- R54: no row is left, for the first set's rows or for those that are carried.
  module _ {s : LentTable} {e : Refusal} (rows numbers : ℕ) (size : length s.rows.now ≡ rows) (r : Ready first second rows numbers) where
    pub composed-full : Exceeds s e Z.tab → (out : List ℕ) → Writes (answer first second rows numbers out) (Err e) out out
    composed-full o out = rw (finish-is rows numbers out r, ← size) (finish-full (shape_of shape) Z out o)

    pub first-full : Exceeds s e (set_in first).tab → (out : List ℕ) → Writes (answer first second rows numbers out) (Err e) out out
    first-full o = composed-full (exceeds-more (kept_refl s) o (ext_length (grown_ext (composed-grown (set_in first) (set_in second)))))

    pub carried-full : Exceeds s e (carried first second (leaves (shape_of shape) + rows_in second)).tab → (out : List ℕ)
        → Writes (answer first second rows numbers out) (Err e) out out
    carried-full o = composed-full (rw (carried_all first second shape pair) at o)

module _ (first second : List ℕ) (shape : Shape) (s : LentTable) (numbers : List ℕ) (f : Finished first second shape s numbers) where
  pub moving : (n : ℕ) → n ≡ cells (shape_of shape) → Moving first second shape numbers n
  moving n e = record { pair = f.carrying.pair; long = f.carrying.long; count = e }

  pub cells-most : cells (shape_of shape) ≤ 217
  cells-most =
      let l = shape-limits old (shape_of shape) (shape-checked first second shape f.carrying.pair) in
      omega (arith, l.shallow, l.most)

  module _ (heads : List ℕ) (e : heads ≡ new_heads first second shape numbers) where
    drawn : Drawn s heads (composed (set_in first) (set_in second))
    drawn = record {
      stored = composed-holds first second shape f.carrying.pair numbers s f.carrying;
      same = e ∙ heads-moved first second shape f.carrying.pair numbers s f.carrying;
    }

    pub finishing : Finishing (shape_of shape) heads s.rows.now s.state (length numbers)
    finishing = record {
      made = composed (set_in first) (set_in second);
      drawn = drawn;
      stands = stands first second shape f.carrying.pair;
      shaped = shape-checked first second shape f.carrying.pair;
      enough = omega (
        arith,
        stored-length drawn.stored,
        composed-few first second shape f.carrying.pair numbers s f.carrying,
        f.ready.numbers_lent,
      );
    }

    -- R54, R59: what the rules finish with is what they answer.
    pub finished : (r : Answer ℕ) (out after : List ℕ) → Finishes (shape_of shape) heads s.rows.now s.state r out after
        → Writes (answer first second (length s.rows.now) (length numbers) out) r out after
    finished r out after w =
        rw (finish-is first second shape f.carrying.pair (length s.rows.now) (length numbers) out f.ready)
        (w (composed (set_in first) (set_in second)) drawn)
