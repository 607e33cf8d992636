-- The value of an expression that follows from the values of its operands.
use Prim.Native.Nat.{ℕ, suc, ◌+◌, ◌-◌, ◌≤◌, ◌<◌, min, max}
use Rattle.std.specs.Prelude.{◌≡◌, Bool, true, false, cond, List, get_or, eqb}
use Rattle.std.proofs.Math.Path.{sym, ap, ap₂}
use Rattle.std.proofs.Common.{◌∙◌, arith}
use Rattle.std.proofs.Math.Numerals.{add-one}
use Rattle.rules.specs.Expr.{Exp, con, cell, op, eval, Read, two}
use Rattle.rules.specs.Operations.{bit}
use Rattle.program.specs.Reading.{Reads, Parts, variable_parts, constant_parts, not-parts, two-parts, read-operand, read-second}
use Rattle.storage.specs.Cells.{bits_of}
use Rattle.storage.specs.Stores.{bit_eqb, bit_not, bit_and, bit_or, cell-byte}
use Rattle.instruction.specs.declared.eval.Valued.{Valued}
use Rattle.instruction.specs.Value.{Readable, Values, joined}

bit_join : (b : ℕ) (x y : Bool) → joined b (bit x) (bit y) ≡ bit (op (eqb b 253) x y)
bit_join b x y = go (eqb b 253)
  where
    go : (o : Bool) → cond o (min (bit x) (bit y)) (max (bit x) (bit y)) ≡ bit (op o x y)
    go true = sym (bit_and x y)
    go false = sym (bit_or x y)

-- The value of what was read, as a byte.
abbrev worth : List ℕ → Read Exp → ℕ
worth s x = bit (eval (bits_of s) x.got)

module _ (file s : List ℕ) (v stop p : ℕ) (r : Readable file s v stop p) where
  abbrev b : ℕ
  b = get_or file p 0

  pub value_variable : b < 250 → Values file s v stop p (record { bit = get_or s b 0; next = p + 1 })
  unfolding eval
  value_variable h =
      let is : (x : Read Exp) → Reads file v stop p x → x ≡ record { got = cell b; next = suc p }
      = λ x q. variable_parts file v stop p r.legible x q h in
      record {
        value = λ x q. sym (cell-byte s r.holds b) ∙ ap (worth s) (sym (is x q));
        place = λ x q. add-one p ∙ ap (λ (y : Read Exp). y.next) (sym (is x q));
        small = r.holds b;
      }

  pub value_constant : 250 ≤ b → b < 252 → Values file s v stop p (record { bit = b - 250; next = p + 1 })
  unfolding eval
  value_constant h g =
      let is : (x : Read Exp) → Reads file v stop p x → x ≡ record { got = con (eqb 1 (b - 250)); next = suc p }
      = λ x q. constant_parts file v stop p r.legible x q h g in
      record {
        value = λ x q. sym (bit_eqb (b - 250) (omega arith)) ∙ ap (worth s) (sym (is x q));
        place = λ x q. add-one p ∙ ap (λ (y : Read Exp). y.next) (sym (is x q));
        small = omega arith;
      }

  -- The operands are readable too.
  pub operand-readable : 252 ≤ b → Readable file s v stop (p + 1)
  operand-readable h = record { legible = read-operand file v stop p r.legible h; enough = r.enough; holds = r.holds }

  pub second-readable : 252 < b → (y : Valued) → Values file s v stop (p + 1) y → Readable file s v stop y.next
  second-readable h y w = record {
    legible = read-second file v stop p r.legible h y.next w.place;
    enough = r.enough;
    holds = r.holds;
  }

  pub value_not : b ≡ 252 → (y : Valued) → Values file s v stop (p + 1) y
      → Values file s v stop p (record { bit = 1 - y.bit; next = y.next })
  unfolding eval
  value_not h y w = record {
    value = λ x q.
        let t = not-parts file v stop p r.legible x q h in
        ap (λ n. 1 - n) ((rw add-one at w).value t.0 t.1) ∙ sym (bit_not (eval (bits_of s) t.0.got))
        ∙ ap (worth s) (sym t.2);
    place = λ x q.
        let t = not-parts file v stop p r.legible x q h in
        cc ((rw add-one at w).place t.0 t.1, t.2);
    small = omega arith;
  }

  pub value-two : 252 < b → (y z : Valued) → Values file s v stop (p + 1) y → Values file s v stop y.next z
      → Values file s v stop p (record { bit = joined b y.bit z.bit; next = z.next })
  unfolding eval
  value-two h y z w u =
      record {
        value = λ x q.
            let t = two-parts file v stop p r.legible x q h in
            ap₂ (joined b) ((rw add-one at w).value t.0 t.2) ((rw (first t) at u).value t.1 t.3)
            ∙ bit_join b (eval (bits_of s) t.0.got) (eval (bits_of s) t.1.got) ∙ ap (worth s) (sym t.4);
        place = λ x q.
            let t = two-parts file v stop p r.legible x q h in
            (rw (first t) at u).place t.1 t.3 ∙ ap (λ (k : Read Exp). k.next) (sym t.4);
        small = joined_small y.bit z.bit w.small u.small;
      }
    where
      first : {x : Read Exp} {o : Bool} (t : Parts file v stop p x (two o)) → y.next ≡ t.0.next
      first t = (rw add-one at w).place t.0 t.2

      joined_small : (x y : ℕ) → x ≤ 1 → y ≤ 1 → joined b x y ≤ 1
      joined_small x y hx hy = go (eqb b 253)
        where
          go : (o : Bool) → cond o (min x y) (max x y) ≤ 1
          go true = omega arith
          go false = omega arith
