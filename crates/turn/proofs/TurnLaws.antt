-- The turn of one instruction: what its parts need, and a law for each end (R38).
use Rattle.std.specs.Prelude.{ℕ, zero, suc, ◌+◌, ◌-◌, ◌*◌, ◌≤◌, ◌<◌, ◌≡◌, List, ◌∷◌, length, Ok}
use Rattle.std.proofs.Common.{sym, ap, subst, ◌∙◌, arith}
use Rattle.std.proofs.Math.Decide.{dec_lt}
use Rattle.rules.specs.Verdict.{granted}
use Rattle.rules.specs.Edition.{old}
use Rattle.rules.specs.Shape as R
use Rattle.rules.specs.Shape.{vars, cells, check_shape}
use Rattle.rules.specs.Instr.{Plain, INIT, Instr, plain, END}
use Rattle.rules.specs.ProgramFile.{Program}
use Rattle.rules.specs.Rows.{Row}
use Rattle.rules.specs.Sets.{Heads, after}
use Rattle.rules.specs.Build as B
use Rattle.rules.specs.Build.{own, set_at, turn_heads, turn}
use Rattle.laws.specs.Canonical.{Names, WellFormed, Canonical}
use Rattle.laws.specs.ProgramFile.{read-shape}
use Rattle.laws.specs.Grow.{Ext, ext_refl, ext_length, grown_ext}
use Rattle.laws.specs.After.{Stands, over, stands_ext, after-grown}
use Rattle.laws.specs.Build.{own_acts, own-grown, turn_heads-grown}
use Rattle.laws.specs.Transfer.{Made, made-from, turn-from}
use Rattle.base.specs.Answers.{Answer, shape_of}
use Rattle.base.specs.declared.shape.Shape.{Shape}
use Rattle.base.specs.declared.kinds.Instr as K
use Rattle.program.specs.Stages.{instr_in}
use Rattle.program.specs.Codes.{Tells}
use Rattle.reader.specs.declared.code.LabelCode.{LabelCode}
use Rattle.reader.specs.Codes.{on_label}
use Rattle.program.specs.Standing.{program_in, instr_at, Standing, standing-at, formed, deep, most-cells, tells}
use Rattle.base.specs.declared.refusal.Refusal.{Refusal}
use Rattle.table.specs.declared.LentTable.{LentTable}
use Rattle.table.specs.Append.{Kept, room_of}
use Rattle.rows.specs.Table.{Stored, Exceeds}
use Rattle.rows.specs.Stored.{exceeds-more, kept_refl}
use Rattle.rows.specs.Making.{Drawn, Draws, draws-before}
use Rattle.own.specs.Owning.{Owning, Owns}
use Rattle.reader.specs.declared.body.Body.{Body}
use Rattle.reader.specs.declared.body.Body.TheVariants.{Label, Unknown}
use Rattle.rewrite.specs.Follow.{Following, Follows}
use Rattle.turn.specs.Turning.{built, slot, Building, turn_at, Turning, Jumps}
use Rattle.turn.specs.Slots.{slot-inside, slot-length, put_at, length-put, slot-put, slot_kept}
use Rattle.turn.proofs.JumpLaws.{turn-jumped}

-- ---- one turn more

module _ {file : List ℕ} {sh : Shape} {n i : ℕ} (r : Standing file sh n i) where
  abbrev P : Program
  P = program_in file

  -- R38: what is built from T(i) on is what is built from T(i+1) on, and the turn of instruction i.
  built-is : built file i ≡ record { tab = (turn_at file i).tab; sets = (turn_at file i).heads ∷ (built file (suc i)).sets }
  unfolding turn
  built-is = turn-from P i (omega (arith, r.low, r.count))

  -- A turn only grows the table.
  turn-grows : length (built file (suc i)).tab ≤ length (built file i).tab
  turn-grows = rw built-is (ext_length (grown_ext (turn_heads-grown P.shape i (instr_at file i) (built file (suc i)).tab _)))

-- So do all turns.
built-longer : {file : List ℕ} {sh : Shape} {n : ℕ} → Standing file sh n 0 → (i : ℕ) → i ≤ n
    → length (built file i).tab ≤ length (built file 0).tab
built-longer r zero h = omega arith
built-longer {file} {sh} {n} r (suc i) h =
    omega (arith, turn-grows (standing-at file sh n 0 r i (omega arith)), built-longer r i (omega arith))

-- R38: instruction i is plain, and its own set is made.
pub record Acted (file : List ℕ) (sh : Shape) (i : ℕ) (s : LentTable) (made : List ℕ) (s' : LentTable) (made' : List ℕ) : Type 0 where
  pub what : Plain
  pub is : instr_at file i ≡ plain what
  pub kept : Kept s s'
  pub owns : Owns (shape_of sh) what s (Ok tt) s' made'
  pub size : length made' ≡ length made

module _ {file : List ℕ} {sh : Shape} {n i : ℕ} {s : LentTable} {numbers : ℕ} {heads made : List ℕ}
    (w : Turning file sh n i s numbers heads made) where
  abbrev C : ℕ
  C = cells (shape_of sh)

  abbrev b : B.Built
  b = built file (suc i)

  pub place : Standing file sh n i
  place = standing-at file sh n 0 w.built-on.standing i w.low

  wf : WellFormed (program_in file)
  wf = formed file sh n i place

  -- Every T(l) that is built stands.
  made-on : Made (program_in file) (suc i) b
  made-on = made-from (program_in file) wf (suc i) (omega (arith, w.low, place.count))

  stands_at : (l : ℕ) → i < l → l < n → Stands C (over b.tab (set_at b (suc i) l))
  stands_at l h k =
      subst (λ (x : R.Shape). Stands (cells x) (over b.tab (set_at b (suc i) l))) (sym place.shaped)
      (made-on.stands l h (omega (arith, place.count)))

  canonical : Canonical C b.tab
  canonical = subst (λ (x : R.Shape). Canonical (cells x) b.tab) (sym place.shaped) made-on.canonical

  slot_is : (l : ℕ) → i < l → l < n → slot C heads l ≡ set_at b (suc i) l
  slot_is l h k = w.built-on.slots l h k

  shaped : check_shape old (shape_of sh) ≡ granted tt
  shaped =
      subst (λ (x : R.Shape). check_shape old x ≡ granted tt) (sym place.shaped)
      (read-shape old file (program_in file) place.accepted)

  -- R38: the turn of instruction i, which is x.
  turn_as : (x : Instr) → instr_at file i ≡ x → turn_at file i ≡ turn_heads (shape_of sh) i x b.tab (set_at b (suc i))
  turn_as x e =
      ap (λ z. turn_heads z i (instr_at file i) b.tab (set_at b (suc i))) (sym place.shaped)
      ∙ ap (λ z. turn_heads (shape_of sh) i z b.tab (set_at b (suc i))) e

  pub slot-ends : (l : ℕ) → l < n → l * C + C ≤ length heads
  slot-ends l k = omega (arith, slot-inside l n C k, w.built-on.heads_lent)

  -- T(i+1) as the code has it.
  next-is : (y : List ℕ) → y ≡ slot C heads (i + 1) → suc i < n → y ≡ set_at b (suc i) (suc i)
  next-is y e k =
      let z : i + 1 ≡ suc i = omega arith in
      e ∙ ap (slot C heads) z ∙ slot_is (suc i) (omega arith) k

  -- T(i+1) after heads over a table that has only grown.
  followed : (y : List ℕ) → y ≡ slot C heads (i + 1) → suc i < n → (X : Heads) → Stands C X → Ext b.tab X.tab
      → {s' : LentTable} {made' : List ℕ} → Drawn s' made' X → length made' ≡ C → Kept s s' → Following (shape_of sh) y s' numbers made'
  followed y e k X p m d c kept =
      let q = next-is y e k in
      record {
        first = X;
        drawn = d;
        stands = p;
        second = rw q (stands_ext p.canonical m (set_at b (suc i) (suc i)) (stands_at (suc i) (omega arith) k));
        shaped = shaped;
        count = c;
        room = rw kept.size w.numbers_lent;
      }

  -- What the body of instruction i tells.
  pub told : {x b : Body} → x ≡ instr_in file n i → x ≡ b → Tells file (vars (shape_of sh)) n i (instr_at file i) b
  told {x} {b} e q = tells file sh n i place b (sym q ∙ e)

  fine : (p : Plain) → instr_at file i ≡ plain p → Names (vars (shape_of sh)) p × (suc i < n)
  fine p x =
      let f = rw x at (wf.fine i (omega (arith, w.low, place.count))) in
      (subst (λ (x : R.Shape). Names (vars x) p) (sym place.shaped) f.0, omega (arith, f.1, place.count))

  -- What cutting out T(l) asks for.
  cut_in : (l : ℕ) → l < n → (c : ℕ) → c ≡ C → (l ≤ 512) × (c ≤ 217) × (l * c + c ≤ length heads)
  cut_in l k c q = rw q (omega (arith, place.most), most-cells file sh n i place, slot-ends l k)

  -- ---- the own set, and T(i+1) after it

  pub owning : Owning sh s made
  owning = record {
    given = record {
      inside = record { deep = deep file sh n i place; most = most-cells file sh n i place };
      opened = record { table = b.tab; canonical = canonical; stored = w.built-on.stored };
    };
    count = w.count;
  }

  -- No row is left for the own set.
  pub own_over : {e : Refusal} (p : Plain) → ((t : List Row) → Canonical C t → Stored s t → Exceeds s e (own t (shape_of sh) p).tab)
      → instr_at file i ≡ plain p → Exceeds s e (turn_at file i).tab
  own_over p g x =
      let h = own b.tab (shape_of sh) p in
      rw (turn_as (plain p) x)
      (exceeds-more (kept_refl s) (g b.tab canonical w.built-on.stored)
      (ext_length (grown_ext (after-grown h.tab h.heads h.tab (set_at b (suc i) (suc i))))))

  -- R38: END's turn is the own set of INIT.
  pub end_turned : (r : Answer (Unit {0})) (s' : LentTable) (made' : List ℕ) → Owns (shape_of sh) INIT s r s' made' → instr_at file i ≡ END
      → Draws s r s' made' (turn_at file i)
  end_turned r s' made' g x = rw (turn_as END x) (g b.tab canonical w.built-on.stored)

  module _ {s' : LentTable} {made' : List ℕ} (a : Acted file sh i s made s' made') where
    abbrev h : Heads
    h = own b.tab (shape_of sh) a.what

    -- R14: after a plain instruction there is a next one.
    pub plain-next : (c : ℕ) → c ≡ C → (i + 1 ≤ 512) × (c ≤ 217) × ((i + 1) * c + c ≤ length heads)
    plain-next = cut_in (i + 1) (omega (arith, (fine a.what a.is).1))

    module _ (y : List ℕ) (e : y ≡ slot C heads (i + 1)) where
      pub own-following : Following (shape_of sh) y s' numbers made'
      own-following =
          let f = fine a.what a.is in
          followed y e f.1 h (own_acts b.tab (shape_of sh) (deep file sh n i place) canonical a.what f.0).stands
          (grown_ext (own-grown b.tab (shape_of sh) a.what)) (a.owns b.tab canonical w.built-on.stored) (a.size ∙ w.count) a.kept

      -- R38: a plain instruction's turn is T(i+1) after its own set.
      pub plain-turned : (r : Answer (Unit {0})) (s'' : LentTable) (made'' : List ℕ)
          → Follows (shape_of sh) y s' numbers made' r s'' made'' → Draws s r s'' made'' (turn_at file i)
      unfolding followed own-following
      plain-turned r s'' made'' f =
          let is : after h.tab h.heads h.tab y ≡ turn_at file i
          = ap (after h.tab h.heads h.tab) (next-is y e (fine a.what a.is).1) ∙ sym (turn_as (plain a.what) a.is) in
          rw is at (draws-before a.kept r s'' made'' (after h.tab h.heads h.tab y) (f own-following))

  -- R10: each code is known.
  pub never-unknown : {x : Body} → x ≡ instr_in file n i → x ≡ Unknown → ⊥
  never-unknown e q = told e q

  -- ---- jumps and calls

  module _ (c : LabelCode) (l : K.Instr) (t : Tells file (vars (shape_of sh)) n i (instr_at file i) (Label c l)) where
    -- T(l) is there to be copied, and T(i+1) is there too.
    pub label_cut : (d : ℕ) → d ≡ C → (l.0 ≤ 512) × (d ≤ 217) × (l.0 * d + d ≤ length heads)
    label_cut = cut_in l.0 t.1

    pub label_next : (d : ℕ) → d ≡ C → (i + 1 ≤ 512) × (d ≤ 217) × ((i + 1) * d + d ≤ length heads)
    label_next = cut_in (i + 1) (omega (arith, t.0, t.1))

    pub label_length : length (slot C heads l.0) ≡ length made
    label_length = slot-length C heads l.0 (slot-ends l.0 t.1) ∙ sym w.count

    module _ (y : List ℕ) (e : y ≡ slot C heads (i + 1)) (made' : List ℕ) (copied : made' ≡ slot C heads l.0) where
      abbrev X : Heads
      X = over b.tab (set_at b (suc i) l.0)

      drawn : Drawn s made' X
      drawn = record { stored = w.built-on.stored; same = copied ∙ slot_is l.0 t.0 t.1 }

      pub jumping : Following (shape_of sh) y s numbers made'
      jumping = followed y e (omega (arith, t.0, t.1)) X (stands_at l.0 t.0 t.1) (ext_refl b.tab)
          drawn (ap length copied ∙ slot-length C heads l.0 (slot-ends l.0 t.1)) (kept_refl s)

      -- R38: what is left is the turn of instruction i.
      pub jump_turned : (r : Answer (Unit {0})) (s' : LentTable) (made'' : List ℕ)
          → Jumps (shape_of sh) c y s numbers made' r s' made'' → Draws s r s' made'' (turn_at file i)
      unfolding followed jumping
      jump_turned r s' made'' g =
          let k : suc i < n = omega (arith, t.0, t.1) in
          rw (turn_as (on_label c l.0) t.2 ∙ turn-jumped (shape_of sh) i c l.0 b.tab (set_at b (suc i)))
          (rw (next-is y e k) at (g jumping))

  -- ---- the heads in their slot

  -- R38: with the heads of T(i) in their slot, which begins at a, T(i) and on are built.
  pub turn-built : {s' : LentTable} {made' : List ℕ} → Drawn s' made' (turn_at file i) → length made' ≡ length made
      → (ys : List ℕ) → ys ≡ made' → (a c : ℕ) → a ≡ i * c → c ≡ C → Building file sh n s' (put_at a (a + c - a) heads ys) i
  turn-built {made' = made'} d size ys same a c e q =
      let z : a + c - a ≡ C = omega arith in
      let count : length made' ≡ C = size ∙ w.count in
      let inside = slot-ends i w.low in
      let is = built-is place in
      rw (z, same, e, q) (record {
        standing = w.built-on.standing;
        high = omega (arith, w.low);
        heads_lent = omega (arith, length-put C heads i made' count inside, w.built-on.heads_lent);
        stored = rw is d.stored;
        slots = λ l h m. elim (dec_lt i l) [
          | yes g ↦
              let y : l - i ≡ suc (l - suc i) = omega arith in
              slot_kept C heads i made' count inside l g ∙ slot_is l g m ∙ rw (is, y)
          | no g ↦
              let y : l ≡ i = omega arith in
              let o : i - i ≡ 0 = omega arith in
              rw (y, is, o) (slot-put C heads i made' count inside ∙ d.same)
        ];
      })

  -- No row is left for it.
  pub turn-full : {e : Refusal} → Exceeds s e (turn_at file i).tab → Exceeds s e (built file i).tab
  turn-full o = rw (built-is place) o

module _ {file : List ℕ} {sh : Shape} {n : ℕ} (i : ℕ) {s : LentTable} {heads : List ℕ} (b : Building file sh n s heads (i + 1)) where
  -- The instruction whose turn it is.
  pub due : Standing file sh n i
  due = standing-at file sh n 0 b.standing i (omega (arith, b.high))

  -- R1, R2: its heads have room in the frame.
  pub cells_few : cells (shape_of sh) ≤ 217
  cells_few = most-cells file sh n i due

  pub turning : (numbers : ℕ) → room_of s ≤ numbers → (made : List ℕ) → length made ≡ cells (shape_of sh)
      → Turning file sh n i s numbers heads made
  turning numbers l made c =
      let z : i + 1 ≡ suc i = omega arith in
      record { low = omega (arith, b.high); built-on = rw z at b; numbers_lent = l; count = c }

-- No row is left for a turn, so none is for all of them.
pub turns-full : {file : List ℕ} {sh : Shape} {n j : ℕ} {s₀ s : LentTable} {heads : List ℕ} {e : Refusal} (i : ℕ) → i ≤ j
    → Building file sh n s heads j → Kept s₀ s → Exceeds s e (built file i).tab → Exceeds s₀ e (built file 0).tab
turns-full i h b k o = exceeds-more k o (built-longer b.standing i (omega (arith, b.high)))
