-- The rows of an expression follow from those of its operands.
use Rattle.std.specs.Prelude.{ℕ, suc, ◌+◌, ◌-◌, ◌≤◌, ◌<◌, ◌≡◌, Bool, cond, List, get_or, eqb, Ok, Err}
use Rattle.std.proofs.Common.{sym, ap, ◌∙◌, arith, add-one, lt-ltb, le-ltb}
use Rattle.std.proofs.Math.Decide.{dec_lt}
use Rattle.rules.specs.Expr.{Exp, con, cell, Read, two}
use Rattle.rules.specs.Rows.{inv, bin}
use Rattle.laws.specs.Verdict.{grants_of}
use Rattle.laws.specs.Canonical.{Over}
use Rattle.laws.specs.ProgramFile.{expr_over}
use Rattle.laws.specs.Build.{over-more}
use Rattle.base.specs.declared.kinds.Row as K
use Rattle.program.specs.Reading.{Reads, Parts, variable_parts, constant_parts, not-parts, two-parts, read-operand, read-second}
use Rattle.table.specs.declared.LentTable.{LentTable}
use Rattle.base.specs.declared.refusal.Refusal.{Refusal}
use Rattle.table.specs.Append.{Kept}
use Rattle.rows.specs.Table.{Addable, Adds}
use Rattle.rows.specs.declared.node.Node.TheVariants.{Not, Two}
use Rattle.spell.specs.declared.expression.Grown.{Grown}
use Rattle.spell.specs.Made.{made-simple, full-not, full-two, open_after, not-addable, made-not, full-second, two-addable, made-two}
use Rattle.spell.specs.Spelling.{leaf_row, Spelling, Spelt, Unspelt}

-- R11: an expression that was read names only cells that there are.
pub reads_over : {file : List ℕ} {v stop p : ℕ} {x : Read Exp} (C : ℕ) → v ≤ C → Reads file v stop p x → Over C x.got
reads_over {file} {v} {stop} {p} {x} C h q =
    over-more v C x.got h (grants_of (expr_over q.fuel file v stop p) q.is)

constant_row : (d : ℕ) → d < 2 → d ≡ cond (eqb 1 d) 1 0
constant_row d h = elim (dec_lt d 1) [
  | yes l ↦
      let e : d ≡ 0 = omega arith in
      rw e
  | no l ↦
      let e : d ≡ 1 = omega arith in
      rw e
]

module _ (file : List ℕ) (v stop p : ℕ) (s : LentTable) (g : Spelling file v stop p s) where
  abbrev b : ℕ
  b = get_or file p 0

  -- R11: a variable or a constant.
  pub spell_leaf : b < 252 → (r : K.Row) → r.0 ≡ leaf_row b → Spelt file v stop p s (record { row = r; next = p + 1 }) s
  spell_leaf h r e = elim (dec_lt b 250) [
    | yes l ↦
        let is : (x : Read Exp) → Reads file v stop p x → x ≡ record { got = cell b; next = suc p }
        = λ x q. variable_parts file v stop p g.legible x q l in
        let row : r.0 ≡ suc (suc b) = (rw (lt-ltb b 250 l) at e) ∙ omega arith in
        record {
          place = λ x q. add-one p ∙ ap (λ (y : Read Exp). y.next) (sym (is x q));
          made = λ C n x q. rw (is x q) (made-simple C s (cell b) tt r row);
        }
    | no l ↦
        let is : (x : Read Exp) → Reads file v stop p x → x ≡ record { got = con (eqb 1 (b - 250)); next = suc p }
        = λ x q. constant_parts file v stop p g.legible x q (omega arith) h in
        let row : r.0 ≡ cond (eqb 1 (b - 250)) 1 0 = (rw (le-ltb b 250 (omega arith)) at e) ∙ constant_row (b - 250) (omega arith) in
        record {
          place = λ x q. add-one p ∙ ap (λ (y : Read Exp). y.next) (sym (is x q));
          made = λ C n x q. rw (is x q) (made-simple C s (con (eqb 1 (b - 250))) tt r row);
        }
  ]

  -- The operands can be added too.
  pub operand_spelling : 252 ≤ b → Spelling file v stop (p + 1) s
  operand_spelling h = record {
    legible = read-operand file v stop p g.legible h;
    count = g.count;
    enough = g.enough;
    opened = g.opened;
  }

  -- No row is left for the first operand.
  pub spell_full : 252 ≤ b → {e : Refusal} {s' : LentTable} → Unspelt file v stop (p + 1) s e s' → Unspelt file v stop p s e s'
  spell_full h w = record {
    full = λ C n x q. elim (dec_lt 252 b) [
      | yes l ↦
          let t = two-parts file v stop p g.legible x q l in
          rw t.4 (full-two ((rw add-one at w).full C n t.0 t.2) _ _)
      | no l ↦
          let t = not-parts file v stop p g.legible x q (omega arith) in
          rw t.2 (full-not ((rw add-one at w).full C n t.0 t.1))
    ];
  }

  -- The first operand was added.
  module _ (y : Grown) (s₁ : LentTable) (w : Spelt file v stop (p + 1) s y s₁) where
    abbrev w' : Spelt file v stop (suc p) s y s₁
    w' = rw add-one at w

    pub second_spelling : 252 < b → Spelling file v stop y.next s₁
    second_spelling h =
        let t = two-parts file v stop p g.legible g.legible.what g.legible.reads h in
        record {
          legible = read-second file v stop p g.legible h y.next w.place;
          count = g.count;
          enough = g.enough;
          opened = open_after (reads_over g.count g.enough t.2) (w'.made g.count g.enough t.0 t.2) g.opened;
        }

    pub spell_addable : b ≡ 252 → Addable s₁ (inv y.row.0)
    spell_addable h =
        let t = not-parts file v stop p g.legible g.legible.what g.legible.reads h in
        not-addable (reads_over g.count g.enough t.1) (w'.made g.count g.enough t.0 t.1) g.opened

    module _ (k : Kept s s₁) where
      pub spell_not : b ≡ 252 → (a : K.Row) {s' : LentTable} → Adds s₁ (Not y.row) (Ok a) s'
          → Spelt file v stop p s (record { row = a; next = y.next }) s'
      spell_not h a d = record {
        place = λ x q.
            let t = not-parts file v stop p g.legible x q h in
            cc (w'.place t.0 t.1, t.2);
        made = λ C n x q.
            let t = not-parts file v stop p g.legible x q h in
            rw t.2 (made-not (reads_over C n t.1) (w'.made C n t.0 t.1) k d);
      }

      pub spell_not_full : b ≡ 252 → {e : Refusal} {s' : LentTable} → Adds s₁ (Not y.row) (Err e) s' → Unspelt file v stop p s e s'
      spell_not_full h d = record {
        full = λ C n x q.
            let t = not-parts file v stop p g.legible x q h in
            rw t.2 (made-not (reads_over C n t.1) (w'.made C n t.0 t.1) k d);
      }

      -- No row is left for the second.
      pub spell_second_full : 252 < b → {e : Refusal} {s' : LentTable} → Unspelt file v stop y.next s₁ e s' → Unspelt file v stop p s e s'
      spell_second_full h u = record {
        full = λ C n x q.
            let t = two-parts file v stop p g.legible x q h in
            rw t.4 (full-second (reads_over C n t.2) (w'.made C n t.0 t.2) k _ ((rw (w'.place t.0 t.2) at u).full C n t.1 t.3));
      }

    -- So was the second.
    module _ (h : 252 < b) (z : Grown) (s₂ : LentTable) (u : Spelt file v stop y.next s₁ z s₂) where
      first : {x : Read Exp} {o : Bool} (t : Parts file v stop p x (two o)) → y.next ≡ t.0.next
      first t = w'.place t.0 t.2

      pub both-addable : (o : Bool) → Addable s₂ (bin o y.row.0 z.row.0)
      both-addable o =
          let t = two-parts file v stop p g.legible g.legible.what g.legible.reads h in
          two-addable (reads_over g.count g.enough t.2) (w'.made g.count g.enough t.0 t.2)
          (reads_over g.count g.enough t.3) ((rw (first t) at u).made g.count g.enough t.1 t.3) o
          g.opened

      module _ (k : Kept s s₂) where
        pub spell_two : (a : K.Row) {s' : LentTable} → Adds s₂ (Two (eqb b 253) y.row z.row) (Ok a) s'
            → Spelt file v stop p s (record { row = a; next = z.next }) s'
        spell_two a d = record {
          place = λ x q.
              let t = two-parts file v stop p g.legible x q h in
              (rw (first t) at u).place t.1 t.3 ∙ ap (λ (k : Read Exp). k.next) (sym t.4);
          made = λ C n x q.
              let t = two-parts file v stop p g.legible x q h in
              rw t.4
              (made-two (reads_over C n t.2) (w'.made C n t.0 t.2) (reads_over C n t.3)
              ((rw (first t) at u).made C n t.1 t.3) (eqb b 253) k d);
        }

        pub spell_two_full : {e : Refusal} {s' : LentTable} → Adds s₂ (Two (eqb b 253) y.row z.row) (Err e) s' → Unspelt file v stop p s e s'
        spell_two_full d = record {
          full = λ C n x q.
              let t = two-parts file v stop p g.legible x q h in
              rw t.4
              (made-two (reads_over C n t.2) (w'.made C n t.0 t.2) (reads_over C n t.3)
              ((rw (first t) at u).made C n t.1 t.3) (eqb b 253) k d);
        }
