-- The main row of each instruction: what adding it asks for, and that the additions of the code make it.
use Prim.Native.Nat.{ℕ, ◌+◌, ◌<◌}
use Rattle.std.specs.Prelude.{◌≡◌, Bool, ◌⊎◌, List, Ok, Err}
use Rattle.std.proofs.Math.Path.{refl}
use Rattle.std.proofs.Math.Bool.{true, false}
use Rattle.std.proofs.Common.{inl, inr}
use native.Mathlib.Omega.{arith}
use Rattle.rules.specs.Shape as R
use Rattle.rules.specs.Shape.{vars, flag, cells}
use Rattle.rules.specs.Expr.{Exp, con, cell, neg, Read}
use Rattle.rules.specs.Expr as E
use Rattle.rules.specs.Instr.{Plain, NOT, TAND, TOR, AND, OR, STORE, SET, REDGE, popped, effect}
use Rattle.rules.specs.Rows.{bin}
use Rattle.laws.specs.Own.{Simple, simple_row}
use Rattle.base.specs.declared.shape.Shape.{Shape}
use Rattle.base.specs.declared.kinds.Row as K
use Rattle.base.specs.Answers.{Answer, shape_of}
use Rattle.reader.specs.declared.code.AloneCode.{AloneCode}
use Rattle.reader.specs.declared.code.AloneCode.TheVariants.{Init, Push, Pop, Drop, Dup, Fswp, Eswp, End}
use Rattle.reader.specs.declared.code.ValueCode.{ValueCode}
use Rattle.reader.specs.declared.code.ValueCode.TheVariants.{Load, And, Or, Epush}
use Rattle.reader.specs.declared.code.VariableCode.{VariableCode}
use Rattle.reader.specs.declared.code.VariableCode.TheVariants.{Res, Fedge}
use Rattle.reader.specs.Codes.{alone_of, on_expr, on_variable}
use Rattle.program.specs.Reading.{Reads, Legible}
use Rattle.table.specs.declared.LentTable.{LentTable}
use Rattle.base.specs.declared.refusal.Refusal.{Refusal}
use Rattle.table.specs.Append.{Kept}
use Rattle.rows.specs.Table.{Addable, Adds}
use Rattle.rows.specs.Stored.{kept_refl}
use Rattle.rows.specs.Making.{Open}
use Rattle.rows.specs.declared.node.Node.TheVariants.{Not, Two}
use Rattle.spell.specs.declared.expression.Grown.{Grown}
use Rattle.spell.specs.Made.{Made, made-simple, full-two, made-not, full-second, two-addable, made-two}
use Rattle.spell.specs.Spelling.{Spelt, Unspelt}
use Rattle.spell.specs.SpellLaws.{reads_over}
use Rattle.own.specs.Changes.{Inside, place_of, main_of}
use Rattle.own.specs.ChangeLaws.{put-here, stack-below, pushed-here}

-- A shape, and a table of its cells that is stored.
pub record Given (sh : Shape) (s : LentTable) : Type 0 where
  pub inside : Inside sh
  pub opened : Open (cells (shape_of sh)) s

-- The main expression is a constant or a cell, and r is its row.
pub record MainRow (sh : R.Shape) (p : Plain) (r : ℕ) : Type 0 where
  pub simple : Simple (main_of sh p)
  pub is : r ≡ simple_row (main_of sh p)

-- ---- a constant or a cell

module _ (sh : R.Shape) (code : AloneCode) where
  main-row : (p : Plain) (x : Exp) (r : ℕ) → main_of sh p ≡ x → Simple x → r ≡ simple_row x → MainRow sh p r
  main-row p x r e h q = record { simple = rw e h; is = rw e q }

  pub main_init : (code ≡ Init) ⊎ (code ≡ End) → MainRow sh (alone_of code) 1
  unfolding effect place_of
  main_init (inl z) = rw z (main-row _ (con true) 1 (put-here (flag sh) _ _) tt refl)
  main_init (inr z) = rw z (main-row _ (con true) 1 (put-here (flag sh) _ _) tt refl)

  module _ (f r : ℕ) (q : f ≡ flag sh) where
    pub main-flag : r ≡ 2 + f → (code ≡ Push) ⊎ (code ≡ Drop) → MainRow sh (alone_of code) r
    unfolding effect place_of popped
    main-flag e (inl z) = rw z (main-row _ (cell (flag sh)) r (pushed-here sh _) tt (omega arith))
    main-flag e (inr z) = rw z (main-row _ (cell (flag sh)) r (stack-below sh _ (flag sh) (omega arith)) tt (omega arith))

    pub main-top : r ≡ 2 + (f + 1) → (code ≡ Pop) ⊎ ((code ≡ Dup) ⊎ (code ≡ Fswp)) → MainRow sh (alone_of code) r
    unfolding effect place_of
    main-top e (inl z) = rw z (main-row _ (cell (flag sh + 1)) r (put-here (flag sh) _ _) tt (omega arith))
    main-top e (inr (inl z)) = rw z (main-row _ (cell (flag sh + 1)) r (pushed-here sh _) tt (omega arith))
    main-top e (inr (inr z)) = rw z (main-row _ (cell (flag sh + 1)) r (put-here (flag sh) _ _) tt (omega arith))

    pub main-second : r ≡ 2 + (f + 2) → code ≡ Eswp → MainRow sh (alone_of code) r
    unfolding effect place_of
    main-second e z = rw z (main-row _ (cell (flag sh + 2)) r (put-here (flag sh + 1) _ _) tt (omega arith))

-- ---- operations over cells

module _ {C : ℕ} {s : LentTable} (c : ℕ) (x : K.Row) (q : x.0 ≡ 2 + c) where
  -- R26: the row of a cell.
  pub made-cell : Made C s (cell c) (Ok x) s
  made-cell = made-simple C s (cell c) tt x (omega arith)

  module _ (h : c < C) where
    pub made_opposite : {r : Answer K.Row} {s' : LentTable} → Adds s (Not x) r s' → Made C s (neg (cell c)) r s'
    made_opposite d = made-not h made-cell (kept_refl s) d

module _ {C : ℕ} {s : LentTable} (c : ℕ) (x : K.Row) (q : x.0 ≡ 2 + c) (h : c < C)
    (e : ℕ) (y : K.Row) (p : y.0 ≡ 2 + e) (g : e < C) (o : Bool) where
  pub made_cells : {r : Answer K.Row} {s' : LentTable} → Adds s (Two o x y) r s' → Made C s (E.bin o (cell c) (cell e)) r s'
  made_cells d = made-two h (made-cell c x q) g (made-cell e y p) o (kept_refl s) d

-- ---- instructions

module _ {sh : Shape} {s : LentTable} (g : Given sh s) where
  abbrev S : R.Shape
  S = shape_of sh

  abbrev C : ℕ
  C = cells S

  abbrev Makes : Plain → Answer K.Row → LentTable → Type 0
  Makes p r s' = Made C s (main_of S p) r s'

  pub row-stands : (p : Plain) (r : K.Row) → MainRow S p r.0 → Makes p (Ok r) s
  row-stands p r m = made-simple C s (main_of S p) m.simple r m.is

  -- The row x of the flag.
  module _ (f : ℕ) (q : f ≡ flag S) (x : K.Row) (e : x.0 ≡ 2 + f) where
    flag-row : x.0 ≡ 2 + flag S
    flag-row = omega arith

    in_flag : flag S < C
    in_flag = omega arith

    made_flag : Made C s (cell (flag S)) (Ok x) s
    made_flag = made-cell (flag S) x flag-row

    pub row-not : (r : Answer K.Row) (s' : LentTable) → Adds s (Not x) r s' → Makes NOT r s'
    unfolding effect place_of
    row-not r s' d = rw put-here (made_opposite (flag S) x flag-row in_flag d)

    -- The row y of the top of the stack.
    module _ (y : K.Row) (p : y.0 ≡ 2 + (f + 1)) where
      pub row_tand : (r : Answer K.Row) (s' : LentTable) → Adds s (Two true x y) r s' → Makes TAND r s'
      unfolding effect place_of
      row_tand r s' d = rw put-here
          (made_cells (flag S) x flag-row in_flag (flag S + 1) y (omega arith) (omega (arith, g.inside.deep)) true d)

      pub row_tor : (r : Answer K.Row) (s' : LentTable) → Adds s (Two false x y) r s' → Makes TOR r s'
      unfolding effect place_of
      row_tor r s' d = rw put-here
          (made_cells (flag S) x flag-row in_flag (flag S + 1) y (omega arith) (omega (arith, g.inside.deep)) false d)

    -- R18: the row y of the variable b.
    module _ (b : ℕ) (low : b < vars S) (y : K.Row) (p : y.0 ≡ 2 + b) where
      in_variable : b < C
      in_variable = omega arith

      pub row-store : Makes (STORE b) (Ok x) s
      unfolding effect place_of
      row-store = rw put-here made_flag

      pub row-set : (r : Answer K.Row) (s' : LentTable) → Adds s (Two false x y) r s' → Makes (SET b) r s'
      unfolding effect place_of
      row-set r s' d = rw put-here (made_cells (flag S) x flag-row in_flag b y p in_variable false d)

      -- NOT of the variable, for which no row is left, or after which there is AND.
      pub rise_full : (e : Refusal) (s' : LentTable) → Adds s (Not y) (Err e) s' → Makes (REDGE b) (Err e) s'
      unfolding effect place_of
      rise_full e s' m = rw put-here (full-second in_flag made_flag (kept_refl s) true (made_opposite b y p in_variable m))

      module _ {n : K.Row} {s₁ : LentTable} (m : Adds s (Not y) (Ok n) s₁) where
        pub rise_addable : (o : Bool) → Addable s₁ (bin o x.0 n.0)
        rise_addable o = two-addable in_flag made_flag in_variable (made_opposite b y p in_variable m) o g.opened

        pub row_rise : Kept s s₁ → (r : Answer K.Row) (s' : LentTable) → Adds s₁ (Two true x n) r s' → Makes (REDGE b) r s'
        unfolding effect place_of
        row_rise k r s' d = rw put-here
            (made-two in_flag made_flag in_variable (made_opposite b y p in_variable m) true k d)

      -- The same with NOT of the flag.
      module _ (code : VariableCode) (is : (code ≡ Res) ⊎ (code ≡ Fedge)) where
        fall-is : {r : Answer K.Row} {s' : LentTable} → Made C s (E.bin true (neg (cell (flag S))) (cell b)) r s'
            → Makes (on_variable code b) r s'
        unfolding effect place_of
        fall-is m = elim is [ inl z ↦ rw (z, put-here) m | inr z ↦ rw (z, put-here) m ]

        pub fall_full : (e : Refusal) (s' : LentTable) → Adds s (Not x) (Err e) s' → Makes (on_variable code b) (Err e) s'
        fall_full e s' m = fall-is (full-two (made_opposite (flag S) x flag-row in_flag m) true (cell b))

        module _ {n : K.Row} {s₁ : LentTable} (m : Adds s (Not x) (Ok n) s₁) where
          pub fall_addable : (o : Bool) → Addable s₁ (bin o n.0 y.0)
          fall_addable o = two-addable in_flag (made_opposite (flag S) x flag-row in_flag m) in_variable (made-cell b y p) o g.opened

          pub row_fall : Kept s s₁ → (r : Answer K.Row) (s' : LentTable) → Adds s₁ (Two true n y) r s' → Makes (on_variable code b) r s'
          row_fall k r s' d = fall-is
              (made-two in_flag (made_opposite (flag S) x flag-row in_flag m) in_variable (made-cell b y p) true k d)

    -- R17, R19: the expression that stands at a place.
    module _ (file : List ℕ) (stop at v : ℕ) (k : v ≡ vars S) (legible : Legible file (vars S) stop at) where
      -- No row is left for it.
      pub value_full : (code : ValueCode) {e : Refusal} {s' : LentTable} → Unspelt file v stop at s e s' → (y : Read Exp)
          → Reads file (vars S) stop at y → Makes (on_expr code y.got) (Err e) s'
      unfolding effect place_of
      value_full code {e} {s'} w y h = go code
        where
          full : Made C s y.got (Err e) s'
          full = (rw k at w).full C (omega arith) y h

          go : (code : ValueCode) → Makes (on_expr code y.got) (Err e) s'
          go Load = rw put-here full
          go And = rw put-here (full-second in_flag made_flag (kept_refl s) true full)
          go Or = rw put-here (full-second in_flag made_flag (kept_refl s) false full)
          go Epush = rw pushed-here full

      module _ {r : Grown} {s₁ : LentTable} (w : Spelt file v stop at s r s₁) where
        value_made : (y : Read Exp) → Reads file (vars S) stop at y → Made C s y.got (Ok r.row) s₁
        value_made y h = (rw k at w).made C (omega arith) y h

        pub value-addable : (o : Bool) → Addable s₁ (bin o x.0 r.row.0)
        value-addable o = two-addable in_flag made_flag
            (reads_over C (omega arith) legible.reads) (value_made legible.what legible.reads) o g.opened

        two_made : (o : Bool) → Kept s s₁ → {r' : Answer K.Row} {s' : LentTable} → Adds s₁ (Two o x r.row) r' s' → (y : Read Exp)
            → Reads file (vars S) stop at y → Made C s (E.bin o (cell (flag S)) y.got) r' s'
        two_made o l d y h = made-two in_flag made_flag (reads_over C (omega arith) h) (value_made y h) o l d

        pub row-and : Kept s s₁ → (r' : Answer K.Row) (s' : LentTable) → Adds s₁ (Two true x r.row) r' s' → (y : Read Exp)
            → Reads file (vars S) stop at y → Makes (AND y.got) r' s'
        unfolding effect place_of
        row-and l r' s' d y h = rw put-here (two_made true l d y h)

        pub row-or : Kept s s₁ → (r' : Answer K.Row) (s' : LentTable) → Adds s₁ (Two false x r.row) r' s' → (y : Read Exp)
            → Reads file (vars S) stop at y → Makes (OR y.got) r' s'
        unfolding effect place_of
        row-or l r' s' d y h = rw put-here (two_made false l d y h)

        pub row-load : (code : ValueCode) → (code ≡ Load) ⊎ (code ≡ Epush) → (y : Read Exp) → Reads file (vars S) stop at y
            → Makes (on_expr code y.got) (Ok r.row) s₁
        unfolding effect place_of
        row-load code (inl z) y h = rw (z, put-here) (value_made y h)
        row-load code (inr z) y h = rw (z, pushed-here) (value_made y h)
