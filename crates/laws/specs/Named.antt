-- Where every operation row is named, every one is reached, and squeezing leaves the set as it is; a squeezed set is such a set.
use Prim.Native.Nat.{ℕ, zero, suc, ◌+◌, ◌-◌, ◌≤◌, ◌<◌, max}
use Rattle.std.specs.Prelude.{◌≡◌, Bool, false, ◌||◌, ◌⊎◌, get_or, take, drop, eqb}
use Rattle.std.proofs.Math.Path.{refl}
use Rattle.std.proofs.Common.{sym, ap, ap₂, ◌∙◌, inl, inr, arith, get_or-drop, take-suc, length-take-le, eqb-true, eq-eqb}
use Rattle.std.proofs.Math.Bool.{true, or-true}
use mathlib.Core.List.{List, [], ◌∷◌, ◌++◌, map, flat_map}
use Rattle.std.proofs.Math.Decide.{dec_lt}
use Rattle.std.proofs.Math.ListN.{length, length-drop}
use Rattle.std.proofs.Math.Seq.{take-length}
use Rattle.rules.specs.Lists.{elem}
use Rattle.rules.specs.Rows.{Row, leaf, inv, bin, base, row_at}
use Rattle.rules.specs.Sets.{unchanging, operands, reaches, Carried, carry_row, carry, append, squeeze}
use Rattle.rules.specs.SetFile.{named}
use Rattle.laws.specs.Lists.{elem-append, elem_at, map_ext, map_id}
use Rattle.laws.specs.Canonical.{Operands, Below, Canonical}
use Rattle.laws.specs.Rows.{base-take}
use Rattle.laws.specs.Reach.{operands-low, needs_keeps, needs-closed, needs_origin, NamedBy, reaches-operands}
use Rattle.laws.specs.After.{Stands, over, snoc_length, snoc_each}
use Rattle.laws.specs.Rule.{canonical-below, canonical-ready, Ready}
use Rattle.laws.specs.Squeeze.{ren, Source, carry-op, unchanging-at, Packed, packed}

-- A row of the list names a.
pub record Namer (a : ℕ) (l : List Row) : Type 0 where
  pub at : ℕ
  pub low : at < length l
  pub names : elem a (operands (row_at l at)) ≡ true

or_cases : (p q : Bool) → p || q ≡ true → (p ≡ true) ⊎ (q ≡ true)
or_cases true q e = inl refl
or_cases false q e = inr e

namer_elem : (a : ℕ) (l : List Row) (j : ℕ) → j < length l → elem a (operands (row_at l j)) ≡ true
    → elem a (flat_map operands l) ≡ true
unfolding flat_map
namer_elem a [] j h e = absurd (omega arith)
namer_elem a (r ∷ l) zero h e = elem-append a (operands r) (flat_map operands l) ∙ rw e
namer_elem a (r ∷ l) (suc j) h e = elem-append a (operands r) (flat_map operands l)
    ∙ rw (namer_elem a l j (omega arith) e) (or-true (elem a (operands r)))

elem_namer : (a : ℕ) (l : List Row) → elem a (flat_map operands l) ≡ true → Namer a l
unfolding flat_map elem
elem_namer a [] e =
    let z : ◌≡◌ {A = ℕ} 0 1 = cc in
    absurd (omega arith)
elem_namer a (r ∷ l) e = go
    (or_cases (elem a (operands r)) (elem a (flat_map operands l)) (sym (elem-append a (operands r) (flat_map operands l)) ∙ e))
    (elem_namer a l)
  where
    go : (elem a (operands r) ≡ true) ⊎ (elem a (flat_map operands l) ≡ true) → (elem a (flat_map operands l) ≡ true → Namer a l)
        → Namer a (r ∷ l)
    go (inl p) rest = record { at = 0; low = omega arith; names = p }
    go (inr p) rest =
        let n = rest p in
        record { at = suc n.at; low = omega (arith, n.low); names = n.names }

-- A row is named where it is a head, or an operand of a later row.
pub named-head : (t : List Row) (x : List ℕ) (k : ℕ) → elem k x ≡ true → named t x k ≡ true
unfolding named
named-head t x k e = elem-append k x (flat_map operands (drop (suc k) t)) ∙ rw e

pub named-row : (t : List Row) (x : List ℕ) (k j : ℕ) → k < j → j < length t → elem k (operands (row_at t j)) ≡ true
    → named t x k ≡ true
unfolding named
named-row t x k j h g e =
    let p : suc k + (j - suc k) ≡ j = omega arith in
    let q : row_at (drop (suc k) t) (j - suc k) ≡ row_at t j = get_or-drop (suc k) t (j - suc k) (leaf 0) ∙ ap (row_at t) p in
    let n = namer_elem k (drop (suc k) t) (j - suc k) (omega (arith, length-drop (suc k) t)) (rw q e) in
    elem-append k x (flat_map operands (drop (suc k) t)) ∙ rw n (or-true (elem k x))

module _ {C : ℕ} (t : List Row) (x : List ℕ) (w : Canonical C t) where
  -- Where every operation row is named, every one is reached, from the last row down.
  pub all_reached : ((k : ℕ) → 2 + C ≤ k → k < length t → named t x k ≡ true) → (d k : ℕ) → length t ≤ k + d → 2 + C ≤ k
      → k < length t → reaches t x k ≡ true
  unfolding named
  all_reached n zero k e h g = absurd (omega arith)
  all_reached n (suc d) k e h g =
      go (or_cases (elem k x) (elem k (flat_map operands (drop (suc k) t)))
      (sym (elem-append k x (flat_map operands (drop (suc k) t))) ∙ n k h g)) (all_reached n d)
    where
      go : (elem k x ≡ true) ⊎ (elem k (flat_map operands (drop (suc k) t)) ≡ true)
          → ((j : ℕ) → length t ≤ j + d → 2 + C ≤ j → j < length t → reaches t x j ≡ true) → reaches t x k ≡ true
      go (inl p) rest = needs_keeps t (length t) k x p
      go (inr p) rest =
          let m = elem_namer k (drop (suc k) t) p in
          let j = suc k + m.at in
          let l : j < length t = omega (arith, m.low, length-drop (suc k) t) in
          needs-closed t (canonical-below w) (length t) j k x (omega arith) l (rest j (omega arith) (omega arith) l)
          (rw (← (get_or-drop (suc k) t m.at (leaf 0))) m.names)

elem-map : (g : ℕ → ℕ) (a : ℕ) (l : List ℕ) → elem a l ≡ true → elem (g a) (map g l) ≡ true
unfolding elem
elem-map g a [] e = e
elem-map g a (b ∷ l) e = go (eqb a b) refl e (elem-map g a l)
  where
    go : (t : Bool) → eqb a b ≡ t → t || elem a l ≡ true → (elem a l ≡ true → elem (g a) (map g l) ≡ true)
        → eqb (g a) (g b) || elem (g a) (map g l) ≡ true
    go true p q rest = rw (eq-eqb (g a) (g b) (ap g (eqb-true a b p)))
    go false p q rest = rw (rest q) (or-true (eqb (g a) (g b)))

operands-ren : (new : List ℕ) (k : ℕ) (r : Row) → Ready k r → operands (ren new r) ≡ map (λ a. get_or new a 0) (operands r)
operands-ren new k (leaf i) h = absurd h
operands-ren new k (inv a) h = refl
operands-ren new k (bin o a b) h = refl

operand_below : (k a : ℕ) (r : Row) → Below k r → elem a (operands r) ≡ true → a < k
operand_below k a r b e = elim (dec_lt a k) [
  | yes h ↦ h
  | no h
      ↦ (let n : elem a (operands r) ≡ false = operands-low k a r b (omega arith) in let z : ◌≡◌ {A = ℕ} 0 1 = cc in absurd (omega arith))
]

-- Every operation row of a squeezed set is named.
pub squeeze-named : {C : ℕ} {t : List Row} {x : List ℕ} → Stands C (over t x) → (p : ℕ) → 2 + C ≤ p
    → p < length (squeeze C t x).tab
    → named (squeeze C t x).tab (squeeze C t x).heads p ≡ true
unfolding squeeze
squeeze-named {C} {t} {x} X p h l = go (needs_origin t (length t) o.at x o.reached)
  where
    w : Canonical C t
    w = X.canonical

    m : Carried
    m = carry append (base C) (unchanging C) t x (length t)

    g : Packed t x w (length t) m
    g = packed t x w (length t) (omega arith)

    N : ℕ → ℕ
    N a = get_or m.new a 0

    o : Source t x w (length t) p m.new
    o = g.onto p h l

    go : (elem o.at x ≡ true) ⊎ NamedBy t (length t) o.at x → named m.tab (map N x) p ≡ true
    go (inl e) = named-head m.tab (map N x) p (rw o.is at (elem-map N o.at x e))
    go (inr n) =
        let j = n.by in
        let i<j : o.at < j = operand_below j o.at (row_at t j) (canonical-below w j n.low) n.names in
        let at = g.placed j n.low n.needed in
        let ready = canonical-ready w j (omega (arith, o.high)) n.low in
        let q : operands (row_at m.tab (N j)) ≡ map N (operands (row_at t j)) = ap operands (at.row (omega (arith, o.high)))
        ∙ operands-ren m.new j (row_at t j) ready in
        let up : N o.at < N j = g.rising o.at j i<j n.low o.reached n.needed in
        named-row m.tab (map N x) p (N j) (omega (arith, o.is)) at.low
        (rw q (rw o.is at (elem-map N o.at (operands (row_at t j)) n.names)))

ren-same : (new : List ℕ) (k : ℕ) (r : Row) → Ready k r → Operands (λ a. get_or new a 0 ≡ a) r → ren new r ≡ r
ren-same new k (leaf i) h e = absurd h
ren-same new k (inv a) h e = ap inv e
ren-same new k (bin o a b) h e = ap₂ {C = Row} (bin o) e.0 e.1

-- Where every operation row is reached, carrying k rows to the bare table gives the table's own beginning.
record Fixed (C : ℕ) (t : List Row) (x : List ℕ) (k : ℕ) (m : Carried) : Type 0 where
  size : length m.new ≡ k
  tab : m.tab ≡ take (max k (2 + C)) t
  same : (i : ℕ) → i < k → reaches t x i ≡ true → get_or m.new i 0 ≡ i

module _ {C : ℕ} {t : List Row} {x : List ℕ} (X : Stands C (over t x)) (all : (k : ℕ) → 2 + C ≤ k → k < length t
    → reaches t x k ≡ true) where
  w : Canonical C t
  w = X.canonical

  taken : (a b : ℕ) → a ≡ b → take a t ≡ take b t
  taken a b e = ap (λ n. take n t) e

  fixed_snoc : (k : ℕ) (m : Carried) (u : List Row) (a : ℕ) → Fixed C t x k m → u ≡ take (max (suc k) (2 + C)) t
      → (reaches t x k ≡ true → a ≡ k)
      → Fixed C t x (suc k) (record { tab = u; new = m.new ++ (a ∷ []) })
  fixed_snoc k m u a g e p = record {
    size = snoc_length m.new a k g.size;
    tab = e;
    same = snoc_each (λ i n. reaches t x i ≡ true → n ≡ i) m.new a k g.size g.same p;
  }

  fixed-row : (k : ℕ) (m : Carried) → Fixed C t x k m → k < length t → (b : Bool) → reaches t x k ≡ b
      → Fixed C t x (suc k) (carry_row append (unchanging C) m (row_at t k) b)
  fixed-row k m g h false q =
      fixed_snoc k m m.tab 0 g
      (elim (dec_lt k (2 + C)) [
        | yes p ↦ g.tab ∙ taken (max k (2 + C)) (max (suc k) (2 + C))
            (omega arith)
        | no p
            ↦ (let r = all k (omega arith) h in let z : ◌≡◌ {A = ℕ} 0 1 = cc in absurd (omega arith))
      ])
      (λ r. cc)
  fixed-row k m g h true q = elim (dec_lt k (2 + C)) [
    | yes p ↦ rw (w.leaf-at k p, unchanging-at C k p)
        (fixed_snoc k m m.tab k g (g.tab ∙ taken (max k (2 + C)) (max (suc k) (2 + C)) (omega arith)) (λ r. refl))
    | no p ↦ op (omega arith)
  ]
    where
      op : 2 + C ≤ k → Fixed C t x (suc k) (carry_row append (unchanging C) m (row_at t k) true)
      op p =
          let ready = canonical-ready w k p h in
          let here : m.tab ≡ take k t = g.tab ∙ taken (max k (2 + C)) k (omega arith) in
          let tall : length m.tab ≡ k = ap length here ∙ length-take-le k t (omega arith) in
          let copy : ren m.new (row_at t k) ≡ row_at t k = ren-same m.new k (row_at t k) ready
          (own (row_at t k) ready (reaches-operands t w x k (row_at t k) h refl q)) in
          rw (carry-op append (unchanging C) m k (row_at t k) ready)
          (fixed_snoc k m (m.tab ++ (ren m.new (row_at t k) ∷ [])) (length m.tab) g
          (ap₂ {C = List Row} (λ a r. a ++ (r ∷ [])) here copy ∙ sym (take-suc t k (leaf 0) h)
          ∙ taken (suc k) (max (suc k) (2 + C)) (omega arith)) (λ r. tall))
        where
          own : (r : Row) → Ready k r → Operands (λ a. reaches t x a ≡ true) r → Operands (λ a. get_or m.new a 0 ≡ a) r
          own (leaf i) d e = tt
          own (inv a) d e = g.same a d e
          own (bin o a b) d e = (g.same a d.0 e.0, g.same b d.1 e.1)

  fixed : (k : ℕ) → k ≤ length t → Fixed C t x k (carry append (base C) (unchanging C) t x k)
  unfolding carry
  fixed zero h = record
      { size = refl; tab = base-take w ∙ taken (2 + C) (max 0 (2 + C)) (omega arith); same = λ i p. absurd (omega arith) }
  fixed (suc k) h = fixed-row k (carry append (base C) (unchanging C) t x k) (fixed k (omega arith)) (omega arith)
      (reaches t x k) refl

-- A set whose operation rows are all named is its own squeezing.
pub squeeze-fixed : {C : ℕ} {t : List Row} {x : List ℕ} → Stands C (over t x)
    → ((k : ℕ) → 2 + C ≤ k → k < length t → named t x k ≡ true) → squeeze C t x ≡ over t x
unfolding squeeze
squeeze-fixed {C} {t} {x} X n =
    let all : (k : ℕ) → 2 + C ≤ k → k < length t → reaches t x k ≡ true = λ k h l. all_reached t x X.canonical n
    (length t) k (omega arith) h l in
    let m = carry append (base C) (unchanging C) t x (length t) in
    let g = fixed X all (length t) (omega arith) in
    let whole : m.tab ≡ t = g.tab ∙ taken X all (max (length t) (2 + C)) (length t) (omega (arith, X.canonical.long))
    ∙ take-length t in
    let own : map (λ h. get_or m.new h 0) x ≡ x = map_ext (λ h. get_or m.new h 0) (λ h. h) 0 x
    (λ c h. g.same (get_or x c 0) (X.low c) (needs_keeps t (length t) (get_or x c 0) x (elem_at x c 0 h))) ∙ map_id x in
    λ i. record { tab = whole i; heads = own i }
