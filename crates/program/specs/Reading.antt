-- An expression in the bytes of an accepted program: what its first byte tells, and where its operands stand.
use Rattle.std.specs.Prelude.{ℕ, zero, suc, ◌+◌, ◌-◌, ◌≤◌, ◌<◌, ◌≡◌, List, ◌⊎◌, length, get_or, eqb, leb}
use Rattle.std.proofs.Common.{ap, ◌∙◌, inl, inr, arith, add-one, leb-false, lt-ltb, le-ltb, ne_eqb}
use Rattle.std.proofs.Math.Decide.{dec_lt}
use Rattle.rules.specs.Verdict.{granted}
use Rattle.rules.specs.Expr.{Exp, con, cell, neg, bin, Read, Announced, leaf, one, two, bad, announced, read_operands, read_expr}
use Rattle.laws.specs.Verdict.{bind_granted, check_granted, Grants, grants, refuses, grants_of, grants_bind, grants_check}

-- The expression x stands at p and ends by `stop`.
pub record Reads (file : List ℕ) (v stop p : ℕ) (x : Read Exp) : Type 0 where
  pub fuel : ℕ
  pub is : read_expr fuel file v stop p ≡ granted x

-- An expression stands at p, over at most 200 variables.
pub record Legible (file : List ℕ) (v stop p : ℕ) : Type 0 where
  pub what : Read Exp
  pub reads : Reads file v stop p what
  pub most : v ≤ 200

-- What stands at p, by what its first byte announces.
abbrev pub Parts : List ℕ → ℕ → ℕ → ℕ → Read Exp → Announced → Type 0
Parts file v stop p x (leaf y) = x ≡ record { got = y; next = suc p }
Parts file v stop p x one = (y : Read Exp) × Reads file v stop (suc p) y × (x ≡ record { got = neg y.got; next = y.next })
Parts file v stop p x (two o) = (y z : Read Exp) × Reads file v stop (suc p) y × Reads file v stop y.next z
    × (x ≡ record { got = bin o y.got z.got; next = z.next })
Parts file v stop p x bad = ⊥

record Opened (file : List ℕ) (v stop p : ℕ) (x : Read Exp) : Type 0 where
  before : p < stop
  inside : p < length file
  parts : Parts file v stop p x (announced v (get_or file p 0))

operands : (k : ℕ) (file : List ℕ) (v stop p : ℕ) (a : Announced) (x : Read Exp)
    → read_operands a p (read_expr k file v stop) ≡ granted x → Parts file v stop p x a
operands k file v stop p (leaf y) x q = cc
operands k file v stop p one x q =
    let (y, r, s) = bind_granted (read_expr k file v stop (suc p)) _ q in
    (y, record { fuel = k; is = r }, cc)
operands k file v stop p (two o) x q =
    let (y, r, s) = bind_granted (read_expr k file v stop (suc p)) _ q in
    let (z, t, u) = bind_granted (read_expr k file v stop y.next) _ s in
    (y, z, record { fuel = k; is = r }, record { fuel = k; is = t }, cc)
operands k file v stop p bad x q =
    let z : ◌≡◌ {A = ℕ} 0 1 = cc in
    absurd (omega arith)

opened : (k : ℕ) (file : List ℕ) (v stop p : ℕ) (x : Read Exp) → read_expr k file v stop p ≡ granted x → Opened file v stop p x
unfolding read_expr
opened zero file v stop p x q =
    let z : ◌≡◌ {A = ℕ} 0 1 = cc in
    absurd (omega arith)
opened (suc k) file v stop p x q =
    let a = check_granted (leb stop p) 6 stop _ q in
    let b = check_granted (leb (length file) p) 1 (length file) _ a.1 in
    record {
      before = leb-false stop p a.0;
      inside = leb-false (length file) p b.0;
      parts = operands k file v stop p (announced v (get_or file p 0)) x b.1;
    }

-- An expression that was read ends past its first byte.
past : (k : ℕ) (file : List ℕ) (v stop p : ℕ) → Grants (λ x. p < x.next) (read_expr k file v stop p)
unfolding read_expr
past zero file v stop p = refuses
past (suc k) file v stop p =
    grants_check (leb stop p) _ _ _ λ _.
    grants_check (leb (length file) p) _ _ _ λ _.
    go (announced v (get_or file p 0)) (past k file v stop)
  where
    go : (a : Announced) → ((q : ℕ) → Grants (λ x. q < x.next) (read_expr k file v stop q))
        → Grants (λ x. p < x.next) (read_operands a p (read_expr k file v stop))
    go (leaf y) rec =
        let h : p < suc p = omega arith in
        grants h
    go one rec =
        grants_bind (rec (suc p)) λ x h.
        let g : p < x.next = omega arith in
        grants g
    go (two o) rec =
        grants_bind (rec (suc p)) λ x h.
        grants_bind (rec x.next) λ y g.
        let f : p < y.next = omega arith in
        grants f
    go bad rec = refuses

-- What a byte announces, where there are at most 200 variables.
announces_bad : (v b : ℕ) → v ≤ b → (b < 250) ⊎ (254 < b) → announced v b ≡ bad
unfolding announced
announces_bad v b h (inl g) =
    rw (
      le-ltb b v h,
      ne_eqb b 250 (omega arith),
      ne_eqb b 251 (omega arith),
      ne_eqb b 252 (omega arith),
      ne_eqb b 253 (omega arith),
      ne_eqb b 254 (omega arith),
    )
announces_bad v b h (inr g) =
    rw (
      le-ltb b v h,
      ne_eqb b 250 (omega arith),
      ne_eqb b 251 (omega arith),
      ne_eqb b 252 (omega arith),
      ne_eqb b 253 (omega arith),
      ne_eqb b 254 (omega arith),
    )

announces_variable : (v b : ℕ) → b < v → announced v b ≡ leaf (cell b)
unfolding announced
announces_variable v b h = rw (lt-ltb b v h)

-- What the bytes from 250 to 254 announce.
announces_constant : (v b : ℕ) → v ≤ 200 → 250 ≤ b → b < 252 → announced v b ≡ leaf (con (eqb 1 (b - 250)))
unfolding announced
announces_constant v b m h g = elim (dec_lt b 251) [
  | yes l ↦
      let e : b ≡ 250 = omega arith in
      rw (e, le-ltb 250 v (omega arith))
  | no l ↦
      let e : b ≡ 251 = omega arith in
      rw (e, le-ltb 251 v (omega arith))
]

announces_not : (v : ℕ) → v ≤ 200 → announced v 252 ≡ one
unfolding announced
announces_not v m = rw (le-ltb 252 v (omega arith))

announces_two : (v b : ℕ) → v ≤ 200 → 252 < b → b ≤ 254 → announced v b ≡ two (eqb b 253)
unfolding announced
announces_two v b m h g = elim (dec_lt b 254) [
  | yes l ↦
      let e : b ≡ 253 = omega arith in
      rw (e, le-ltb 253 v (omega arith))
  | no l ↦
      let e : b ≡ 254 = omega arith in
      rw (e, le-ltb 254 v (omega arith))
]

module _ (file : List ℕ) (v stop p : ℕ) (r : Legible file v stop p) where
  abbrev b : ℕ
  b = get_or file p 0

  open' : (x : Read Exp) → Reads file v stop p x → Opened file v stop p x
  open' x q = opened q.fuel file v stop p x q.is

  pub read-before : p < stop
  read-before = (open' r.what r.reads).before

  pub read-inside : p < length file
  read-inside = (open' r.what r.reads).inside

  never : announced v b ≡ bad → ⊥
  never e = rw e at (open' r.what r.reads).parts

  -- A byte below 250 is a variable that there is.
  pub read_variable : b < 250 → b < v
  read_variable h = elim (dec_lt b v) [ yes g ↦ g | no g ↦ absurd (never (announces_bad v b (omega arith) (inl h))) ]

  read-most : b ≤ 254
  read-most = elim (dec_lt 254 b)
      [ yes g ↦ absurd (never (announces_bad v b (omega (arith, r.most)) (inr g))) | no g ↦ omega arith ]

  -- What stands at p, for each kind of first byte.
  module _ (x : Read Exp) (q : Reads file v stop p x) where
    pub variable_parts : b < 250 → x ≡ record { got = cell b; next = suc p }
    variable_parts h = rw (announces_variable v b (read_variable h)) at (open' x q).parts

    pub constant_parts : 250 ≤ b → b < 252 → x ≡ record { got = con (eqb 1 (b - 250)); next = suc p }
    constant_parts h g = rw (announces_constant v b r.most h g) at (open' x q).parts

    pub not-parts : b ≡ 252 → Parts file v stop p x one
    not-parts h = rw (ap (announced v) h ∙ announces_not v r.most) at (open' x q).parts

    pub two-parts : 252 < b → Parts file v stop p x (two (eqb b 253))
    two-parts h = rw (announces_two v b r.most h read-most) at (open' x q).parts

  legible : (q : ℕ) (x : Read Exp) → Reads file v stop q x → Legible file v stop q
  legible q x e = record { what = x; reads = e; most = r.most }

  -- An operator has its first operand at the next byte.
  pub read-operand : 252 ≤ b → Legible file v stop (p + 1)
  read-operand h = elim (dec_lt 252 b) [
    | yes g ↦
        let q = two-parts r.what r.reads g in
        rw add-one (legible (suc p) q.0 q.2)
    | no g ↦
        let q = not-parts r.what r.reads (omega arith) in
        rw add-one (legible (suc p) q.0 q.1)
  ]

  -- An operator of two operands has the second at n, where the first ends.
  module _ (h : 252 < b) (n : ℕ) (place : (x : Read Exp) → Reads file v stop (p + 1) x → n ≡ x.next) where
    pub read-second : Legible file v stop n
    read-second =
        let q = two-parts r.what r.reads h in
        rw ((rw add-one at place) q.0 q.2) (legible q.0.next q.1 q.3)

    pub second-later : p < n
    second-later =
        let q = two-parts r.what r.reads h in
        rw ((rw add-one at place) q.0 q.2) (omega (arith, grants_of (past q.2.fuel file v stop (suc p)) q.2.is))
