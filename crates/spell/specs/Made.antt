-- The row of an expression made in a lent slice: a constant or a cell, NOT of one that is made, AND or OR of two.
use Rattle.std.specs.Prelude.{ℕ, ◌≤◌, ◌≡◌, Bool, List, length, Ok, Err}
use Rattle.std.proofs.Math.Path.{ap, ap₂}
use Rattle.std.proofs.Common.{arith}
use Rattle.rules.specs.Expr.{Exp, neg}
use Rattle.rules.specs.Expr as E
use Rattle.rules.specs.Rows.{Row, inv, bin}
use Rattle.rules.specs.Build.{add_exp}
use Rattle.laws.specs.Canonical.{Over, Canonical}
use Rattle.laws.specs.Rule.{Ready}
use Rattle.laws.specs.Grow.{ext_length, grown_ext, add_extends}
use Rattle.laws.specs.Build.{add_exp-grown, add_exp_sound}
use Rattle.laws.specs.Own.{Simple, simple_row, simple_added}
use Rattle.base.specs.Answers.{Answer}
use Rattle.base.specs.declared.kinds.Row as K
use Rattle.table.specs.declared.LentTable.{LentTable}
use Rattle.base.specs.declared.refusal.Refusal.{Refusal}
use Rattle.table.specs.Append.{Kept}
use Rattle.rows.specs.Table.{Stored, Addable, Adds}
use Rattle.rows.specs.Stored.{exceeds-more, ends-before, kept_refl}
use Rattle.rows.specs.Adding.{holds-add}
use Rattle.rows.specs.Making.{Open, Makes, addable}
use Rattle.rows.specs.declared.node.Node.TheVariants.{Not, Two}

-- R37: what is left, and the row that is answered, are what adding the expression x makes of any table that is stored.
pub record Made (C : ℕ) (s : LentTable) (x : Exp) (r : Answer K.Row) (s' : LentTable) : Type 0 where
  pub gives : Makes C s (λ t. add_exp t x) r s'

-- R26: a constant or a cell is a row that stands.
pub made-simple : (C : ℕ) (s : LentTable) (x : Exp) → Simple x → (r : K.Row) → r.0 ≡ simple_row x → Made C s x (Ok r) s
made-simple C s x h r e = record { gives = λ t w g. rw (simple_added t x h) (g, e) }

-- Two operands make a table no shorter than the first.
two-longer : (o : Bool) (t : List Row) (x y : Exp) → length (add_exp t x).tab ≤ length (add_exp t (E.bin o x y)).tab
unfolding add_exp
two-longer o t x y =
    let u = (add_exp t x).tab in
    omega (
      arith,
      ext_length (grown_ext (add_exp-grown u y)),
      ext_length (add_extends (add_exp u y).tab (bin o (add_exp t x).row (add_exp u y).row)),
    )

-- No row is left for an expression: there is none for one that has it as its first operand.
module _ {C : ℕ} {s s' : LentTable} {x : Exp} {e : Refusal} (m : Made C s x (Err e) s') where
  pub full-not : Made C s (neg x) (Err e) s'
  unfolding add_exp
  full-not = record {
    gives = λ t w g. exceeds-more (kept_refl s) (m.gives t w g) (ext_length (add_extends (add_exp t x).tab (inv (add_exp t x).row)));
  }

  pub full-two : (o : Bool) (y : Exp) → Made C s (E.bin o x y) (Err e) s'
  unfolding add_exp
  full-two o y = record { gives = λ t w g. exceeds-more (kept_refl s) (m.gives t w g) (two-longer o t x y) }

-- One expression that was made.
module _ {C : ℕ} {s s₁ : LentTable} {x : Exp} {a : K.Row} (ox : Over C x) (m : Made C s x (Ok a) s₁) where
  pub open_after : Open C s → Open C s₁
  open_after o = record {
    table = (add_exp o.table x).tab;
    canonical = (add_exp_sound o.canonical x ox).canonical;
    stored = (m.gives o.table o.canonical o.stored).0;
  }

  pub not-addable : Open C s → Addable s₁ (inv a.0)
  not-addable o =
      let g = m.gives o.table o.canonical o.stored in
      addable g.0 (inv a.0) (omega (arith, g.1, (add_exp_sound o.canonical x ox).low))

  module _ (k : Kept s s₁) where
    pub made-not : {r : Answer K.Row} {s' : LentTable} → Adds s₁ (Not a) r s' → Made C s (neg x) r s'
    unfolding add_exp
    made-not {r} d = record {
      gives = λ t w g.
          let p = m.gives t w g in
          let z = add_exp_sound w x ox in
          ends-before _ _ k r (holds-add z.canonical p.0 d (inv (add_exp t x).row) z.low (ap inv p.1));
    }

    -- No row is left for another after it.
    pub full-second : (o : Bool) {y : Exp} {e : Refusal} {s' : LentTable} → Made C s₁ y (Err e) s' → Made C s (E.bin o x y) (Err e) s'
    unfolding add_exp
    full-second o {y} n = record {
      gives = λ t w g.
          let p = m.gives t w g in
          let u = (add_exp t x).tab in
          exceeds-more k (n.gives u (add_exp_sound w x ox).canonical p.0)
          (ext_length (add_extends (add_exp u y).tab (bin o (add_exp t x).row (add_exp u y).row)));
    }

  -- And another after it.
  module _ {y : Exp} {b : K.Row} {s₂ : LentTable} (oy : Over C y) (n : Made C s₁ y (Ok b) s₂) (o : Bool) where
    -- The two rows.
    record Both (t : List Row) : Type 0 where
      canonical : Canonical C (add_exp (add_exp t x).tab y).tab
      stored : Stored s₂ (add_exp (add_exp t x).tab y).tab
      ready : Ready (length (add_exp (add_exp t x).tab y).tab) (bin o (add_exp t x).row (add_exp (add_exp t x).tab y).row)
      same : bin o a.0 b.0 ≡ bin o (add_exp t x).row (add_exp (add_exp t x).tab y).row

    both : (t : List Row) → Canonical C t → Stored s t → Both t
    both t w g =
        let u = (add_exp t x).tab in
        let p = m.gives t w g in
        let z = add_exp_sound w x ox in
        let q = n.gives u z.canonical p.0 in
        let v = add_exp_sound z.canonical y oy in
        record {
          canonical = v.canonical;
          stored = q.0;
          ready = (omega (arith, z.low, ext_length (grown_ext (add_exp-grown u y))), v.low);
          same = ap₂ {C = Row} (bin o) p.1 q.1;
        }

    pub two-addable : Open C s → Addable s₂ (bin o a.0 b.0)
    two-addable w =
        let q = both w.table w.canonical w.stored in
        rw q.same (addable q.stored _ q.ready)

    pub made-two : Kept s s₂ → {r : Answer K.Row} {s' : LentTable} → Adds s₂ (Two o a b) r s' → Made C s (E.bin o x y) r s'
    unfolding add_exp
    made-two k {r} d = record {
      gives = λ t w g.
          let q = both t w g in
          ends-before _ _ k r (holds-add q.canonical q.stored d _ q.ready q.same);
    }
