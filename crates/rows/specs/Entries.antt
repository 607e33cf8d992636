-- A row of the rules as the code has it: by value, and as one number of a lent slice.
use Rattle.std.specs.Prelude.{ℕ, ◌+◌, ◌*◌, ◌/◌, ◌%◌, ◌<◌, ◌≡◌, refl, Bool, true, false, cond, List, map, take, eqb}
use Rattle.std.proofs.Common.{ap, sym, ◌∙◌, arith, eq-eqb, ne_eqb}
use Rattle.rules.specs.Rows.{Row, leaf, inv, bin, kind, left, right, same, Plan, have, make}
use Rattle.laws.specs.Rows.{same_true, same_refl}
use Rattle.rows.specs.declared.node.Node.{Node}
use Rattle.rows.specs.declared.node.Node.TheVariants.{Leaf, Not, Two}
use Rattle.rows.specs.declared.rule.Plan as P
use Rattle.rows.specs.declared.rule.Plan.TheVariants.{Have, Make}

-- R26: the row that a node is.
abbrev pub node_row : Node → Row
node_row (Leaf i) = leaf i.0
node_row (Not a) = inv a.0
node_row (Two o a b) = bin o a.0 b.0

-- R28, R29: the plan that a plan of the code is.
abbrev pub plan_row : P.Plan → Plan
plan_row (Have i) = have i.0
plan_row (Make n) = make (node_row n)

-- R42: a row in one number: its kind, its left and its right operand, 16 bits for each operand.
unfoldable pub entry_with : ℕ → ℕ → ℕ → ℕ
entry_with k a b = k * 4294967296 + a * 65536 + b

abbrev pub entry : Row → ℕ
entry r = entry_with (kind r) (left r) (right r)

-- The row with a kind (above 3 is taken for 3) and two operands.
abbrev pub row_with : ℕ → ℕ → ℕ → Row
row_with k a b = cond (eqb k 0) (leaf a) (cond (eqb k 1) (inv a) (bin (eqb k 2) a b))

-- The row that a number holds.
unfoldable pub row_of_entry : ℕ → Row
row_of_entry n = row_with (n / 4294967296) (n / 65536 % 65536) (n % 65536)

-- R26: the table that the first `used` numbers of a slice are.
abbrev pub table_in : List ℕ → ℕ → List Row
table_in rows used = map row_of_entry (take used rows)

-- Operands that fit 16 bits.
pub record Narrow (r : Row) : Type 0 where
  pub one : left r < 65536
  pub two : right r < 65536

-- The row that holds its own number again.
with_back : (r : Row) → row_with (kind r) (left r) (right r) ≡ r
with_back (leaf i) = refl
with_back (inv a) = refl
with_back (bin true a b) = refl
with_back (bin false a b) = refl

pub entry-back : (r : Row) → Narrow r → row_of_entry (entry r) ≡ r
unfolding entry_with row_of_entry
entry-back r n =
    let k : entry r / 4294967296 ≡ kind r = omega (arith, n.one, n.two) in
    let a : entry r / 65536 % 65536 ≡ left r = omega (arith, n.one, n.two) in
    let b : entry r % 65536 ≡ right r = omega (arith, n.one, n.two) in
    rw (k, a, b) (with_back r)

-- Numbers hold the same row exactly if they are equal.
pub entry-same : (q r : Row) → Narrow q → Narrow r → eqb (entry q) (entry r) ≡ same q r
entry-same q r m n = go (same q r) refl
  where
    go : (t : Bool) → same q r ≡ t → eqb (entry q) (entry r) ≡ t
    go true e = eq-eqb (entry q) (entry r) (ap entry (same_true q r e))
    go false e = ne_eqb (entry q) (entry r) λ z.
        let p : q ≡ r = sym (entry-back q m) ∙ ap row_of_entry z ∙ entry-back r n in
        let y : ◌≡◌ {A = ℕ} 0 1 = cc (same_refl r) in
        omega arith

-- The number of a row with these parts, which fit.
pub entry-made : (r : Row) (e k a b : ℕ) → (e ≡ entry_with k a b) × (a < 65536) × (b < 65536)
    → kind r ≡ k → left r ≡ a → right r ≡ b
    → (e ≡ entry r) × Narrow r
entry-made r e k a b h p q s = rw (p, q, s) (h.0, record { one = rw q h.1; two = rw s h.2 })

-- The row that a number of that kind holds.
pub entry-kind : (n k : ℕ) → n / 4294967296 ≡ k → row_with k (n / 65536 % 65536) (n % 65536) ≡ row_of_entry n
unfolding row_of_entry
entry-kind n k h = rw h refl

pub entry-rest : (n k : ℕ) → n / 4294967296 ≡ k → (k ≡ 0 → ⊥) → (k ≡ 1 → ⊥) → (k ≡ 2 → ⊥)
    → bin false (n / 65536 % 65536) (n % 65536) ≡ row_of_entry n
unfolding row_of_entry
entry-rest n k h p q r = rw (h, ne_eqb k 0 p, ne_eqb k 1 q, ne_eqb k 2 r) refl
