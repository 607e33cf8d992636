-- The set in its own numbering: squeezing keeps values, gives a canonical table in which every operation row is named, and leaves such a set as it is.
-- The one idea: over a canonical table, putting reached rows at the end is the same as adding them by the rule, so the laws of *after* apply.
use Prim.Native.Nat.{ℕ, zero, suc, ◌+◌, ◌-◌, ◌≤◌, ◌<◌}
use Rattle.std.specs.Prelude.{◌≡◌, Bool, true, false, List, [], ◌∷◌, ◌++◌, map, length, get_or}
use Rattle.std.proofs.Math.Path.{refl, ap}
use Rattle.std.proofs.Common.{sym, ap₂, ◌∙◌, arith, length-append, ext_get_or}
use Rattle.std.proofs.Math.Decide.{dec_lt}
use Rattle.std.proofs.lemmas.List.{length-map}
use Rattle.std.proofs.Math.ListN.{get_or-map, get_or-eq_default}
use Rattle.std.proofs.Math.Seq.{get_or-append_seam}
use Rattle.rules.specs.Lists.{from}
use Rattle.rules.specs.Rows.{Row, leaf, inv, bin, base, row_of_cell, row_at, value, make, plan, find, Added, settle, add}
use Rattle.rules.specs.Sets.{act, unchanging, reaches, Carried, carry_one, carry_row, carry, moved, after, append, squeeze}
use Rattle.laws.specs.Lists.{length_from, get_or-from}
use Rattle.laws.specs.Canonical.{Operands, Below, Canonical}
use Rattle.laws.specs.Rule.{Ready, base-canonical, below_more, canonical-below, canonical-ready, plan_bin-made, plan_bin-normal, plan_not-made, plan_not-normal, zero_is}
use Rattle.laws.specs.Rows.{cell-value, Inserts, stood, fresh, inserts, base-at, length-base}
use Rattle.laws.specs.Grow.{Ext, ext_refl, ext_trans, ext_length, ext_row}
use Rattle.laws.specs.Reach.{reaches-operands}
use Rattle.laws.specs.After.{Stands, over, snoc_last, snoc_old, snoc_length, snoc_each, after_acts}

-- ---- renumbering

-- A row with its operands renumbered.
abbrev pub ren : List ℕ → Row → Row
ren new (leaf i) = leaf i
ren new (inv a) = inv (get_or new a 0)
ren new (bin o a b) = bin o (get_or new a 0) (get_or new b 0)

pub carry-op : (put : List Row → Row → Added) (x : List ℕ) (m : Carried) (k : ℕ) (r : Row) → Ready k r
    → carry_one put x m r ≡ put m.tab (ren m.new r)
carry-op put x m k (leaf i) h = absurd h
carry-op put x m k (inv a) h = refl
carry-op put x m k (bin o a b) h = refl

ren-kept : (new : List ℕ) (a k : ℕ) (r : Row) → length new ≡ k → Below k r → ren (new ++ (a ∷ [])) r ≡ ren new r
ren-kept new a k (leaf i) e h = refl
ren-kept new a k (inv b) e h = ap inv (snoc_old new a k e b h)
ren-kept new a k (bin o b c) e h = ap₂ {C = Row} (bin o) (snoc_old new a k e b h.0) (snoc_old new a k e c h.1)

append_extends : (t : List Row) (r : Row) → Ext t (append t r).tab
append_extends t r = record { more = r ∷ []; is = refl }

pub unchanging-at : (C i : ℕ) → i < 2 + C → get_or (0 ∷ 1 ∷ unchanging C) i 0 ≡ i
unfolding unchanging
unchanging-at C zero h = refl
unchanging-at C (suc zero) h = refl
unchanging-at C (suc (suc i)) h = get_or-from 2 C i 0 (omega arith) ∙ omega arith

module _ {C : ℕ} (t : List Row) (x : List ℕ) (w : Canonical C t) where
  abbrev pub R : ℕ → Bool
  R i = reaches t x i

  -- Row i got the number a in the table u: a leaf its own, an operation one past the leaves, where it stands renumbered.
  pub record Placed (i a : ℕ) (u : List Row) (new : List ℕ) : Type 0 where
    pub leaves : i < 2 + C → a ≡ i
    pub high : 2 + C ≤ i → 2 + C ≤ a
    pub low : a < length u
    pub row : 2 + C ≤ i → row_at u a ≡ ren new (row_at t i)

  -- The operation row, among the first k, that got the number p.
  pub record Source (k p : ℕ) (new : List ℕ) : Type 0 where
    pub at : ℕ
    pub low : at < k
    pub high : 2 + C ≤ at
    pub reached : R at ≡ true
    pub is : get_or new at 0 ≡ p

  -- After k rows: those that are reached are placed, in rising order, and they fill the table.
  pub record Packed (k : ℕ) (m : Carried) : Type 0 where
    pub size : length m.new ≡ k
    pub grown : Ext (base C) m.tab
    pub placed : (i : ℕ) → i < k → R i ≡ true → Placed i (get_or m.new i 0) m.tab m.new
    pub rising : (i j : ℕ) → i < j → j < k → R i ≡ true → R j ≡ true → get_or m.new i 0 < get_or m.new j 0
    pub onto : (p : ℕ) → 2 + C ≤ p → p < length m.tab → Source k p m.new
    pub few : length m.tab ≤ 2 + C + (k - (2 + C))

  -- One row more, which got the number a in the table u.
  packed_step : (k : ℕ) (m : Carried) → Packed k m → k < length t → (a : ℕ) (u : List Row) → Ext m.tab u
      → (R k ≡ true → Placed k a u m.new) → (R k ≡ true → (i : ℕ) → i < k → R i ≡ true → get_or m.new i 0 < a)
      → ((p : ℕ) → length m.tab ≤ p → p < length u → (2 + C ≤ k) × (R k ≡ true) × (a ≡ p))
      → length u ≤ 2 + C + (suc k - (2 + C))
      → Packed (suc k) (record { tab = u; new = m.new ++ (a ∷ []) })
  packed_step k m g h a u more place above fills small = record {
    size = snoc_length m.new a k g.size;
    grown = ext_trans g.grown more;
    placed = snoc_each (λ i n. R i ≡ true → Placed i n u (m.new ++ (a ∷ []))) m.new a k g.size
        (λ i l q. kept i (get_or m.new i 0) m.tab (omega arith) more (g.placed i l q))
        (λ q. kept k a u (omega arith) (ext_refl u) (place q));
    rising = λ i j p l q r. elim (dec_lt j k) [
      | yes f ↦ rw (old i (omega arith), old j f) (g.rising i j p f q r)
      | no f ↦ (let z : j ≡ k = omega arith in rw (z, last, old i (omega arith)) (above (rw z at r) i (omega arith) q))
    ];
    onto = λ p l f. elim (dec_lt p (length m.tab)) [
      | yes c ↦
          let o = g.onto p l c in
          record { at = o.at; low = omega (arith, o.low); high = o.high; reached = o.reached; is = old o.at o.low ∙ o.is }
      | no c ↦
          let o = fills p (omega arith) f in
          record { at = k; low = omega arith; high = o.0; reached = o.1; is = last ∙ o.2 }
    ];
    few = small;
  }
    where
      old : (i : ℕ) → i < k → get_or (m.new ++ (a ∷ [])) i 0 ≡ get_or m.new i 0
      old = snoc_old m.new a k g.size

      last : get_or (m.new ++ (a ∷ [])) k 0 ≡ a
      last = snoc_last m.new a k g.size

      kept : (i b : ℕ) (v : List Row) → i ≤ k → Ext v u → Placed i b v m.new → Placed i b u (m.new ++ (a ∷ []))
      kept i b v l e p = record {
        leaves = p.leaves;
        high = p.high;
        low = omega (arith, p.low, ext_length e);
        row = λ c. ext_row e b p.low ∙ p.row c
            ∙ sym (ren-kept m.new a k (row_at t i) g.size (below_more i k (row_at t i) l (canonical-below w i (omega arith))));
      }

  -- Every row keeps the packing.
  packed-row : (k : ℕ) (m : Carried) → Packed k m → k < length t → (b : Bool) → R k ≡ b
      → Packed (suc k) (carry_row append (unchanging C) m (row_at t k) b)
  packed-row k m g h false q =
      packed_step k m g h 0 m.tab (ext_refl m.tab) (λ r. absurd (never r)) (λ r. absurd (never r))
      (λ p a b. absurd (omega arith)) (omega (arith, g.few))
    where
      never : R k ≡ true → ⊥
      never r =
          let z : ◌≡◌ {A = ℕ} 0 1 = cc in
          omega arith
  packed-row k m g h true q = elim (dec_lt k (2 + C)) [
    | yes p ↦ rw (w.leaf-at k p, unchanging-at C k p)
        (as_leaf p)
    | no p ↦ rw (carry-op append (unchanging C) m k (row_at t k) (canonical-ready w k (omega arith) h))
        (as_op (omega arith))
  ]
    where
      tall : 2 + C ≤ length m.tab
      tall = omega (arith, ext_length g.grown, length-base C)

      as_leaf : k < 2 + C → Packed (suc k) (record { tab = m.tab; new = m.new ++ (k ∷ []) })
      as_leaf p = packed_step k m g h k m.tab (ext_refl m.tab)
          (λ r. record { leaves = λ c. refl; high = λ c. c; low = omega (arith, tall); row = λ c. absurd (omega arith) })
          (λ r i l f. omega (arith, (g.placed i l f).leaves (omega arith))) (λ p a b. absurd (omega arith))
          (omega (arith, g.few))

      as_op : 2 + C ≤ k → Packed (suc k)
          (record { tab = m.tab ++ (ren m.new (row_at t k) ∷ []); new = m.new ++ (length m.tab ∷ []) })
      as_op p =
          let r = ren m.new (row_at t k) in
          let more : length (m.tab ++ (r ∷ [])) ≡ length m.tab + 1 = length-append m.tab (r ∷ []) in
          packed_step k m g h (length m.tab) (m.tab ++ (r ∷ [])) (append_extends m.tab r)
          (λ r. record {
            leaves = λ c. absurd (omega arith);
            high = λ c. tall;
            low = omega arith;
            row = λ c. get_or-append_seam m.tab _ [] (leaf 0);
          })
          (λ r i l f. (g.placed i l f).low) (λ j a b. (p, q, omega arith)) (omega (arith, g.few))

  pub packed : (k : ℕ) → k ≤ length t → Packed k (carry append (base C) (unchanging C) t x k)
  unfolding carry
  packed zero h = record {
    size = refl;
    grown = ext_refl (base C);
    placed = λ i p. absurd (omega arith);
    rising = λ i j p l. absurd (omega arith);
    onto = λ p l f. absurd (omega (arith, length-base C));
    few = omega (arith, length-base C);
  }
  packed (suc k) h = packed-row k (carry append (base C) (unchanging C) t x k) (packed k (omega arith)) (omega arith) (R k) refl

  module _ (k : ℕ) (m : Carried) (g : Packed k m) (h : 2 + C ≤ k) (l : k < length t) (q : R k ≡ true) where
    abbrev N : ℕ → ℕ
    N a = get_or m.new a 0

    closed : (i : ℕ) (r : Row) → i < length t → row_at t i ≡ r → R i ≡ true → Operands (λ a. R a ≡ true) r
    closed i r = reaches-operands t w x i r

    n_tall : (a : ℕ) → a < k → R a ≡ true → 2 ≤ a → 2 ≤ N a
    n_tall a p c two = elim (dec_lt a (2 + C)) [
      | yes f ↦ omega (arith, (g.placed a p c).leaves f)
      | no f ↦ omega
          (arith, (g.placed a p c).high (omega arith))
    ]

    n_one : (a b : ℕ) → a < k → b < k → R a ≡ true → R b ≡ true → N a ≡ N b → a ≡ b
    n_one a b p f c d e = elim (dec_lt a b) [
      | yes z ↦ absurd (omega (arith, g.rising a b z f c d))
      | no z ↦ elim (dec_lt b a) [ yes y ↦ absurd (omega (arith, g.rising b a y p d c)) | no y ↦ omega arith ]
    ]

    base-row : (i : ℕ) → i < 2 + C → row_at m.tab i ≡ leaf i
    base-row i p = ext_row g.grown i (omega (arith, length-base C)) ∙ base-at C i p

    -- Where row a is no NOT row, neither is its copy.
    no_inv : (a b : ℕ) → a < k → R a ≡ true → ((c : ℕ) → row_at t a ≡ inv c → ⊥) → row_at m.tab (N a) ≡ inv b → ⊥
    no_inv a b p c n e = elim (dec_lt a (2 + C)) [
      | yes f ↦ (let z : leaf a ≡ inv b = sym (base-row a f) ∙ ap (row_at m.tab) (sym ((g.placed a p c).leaves f))
          ∙ e in let y : ◌≡◌ {A = ℕ} 0 1 = cc in omega arith)
      | no f ↦ copy (row_at t a) refl (sym ((g.placed a p c).row (omega arith)) ∙ e)
    ]
      where
        copy : (r : Row) → row_at t a ≡ r → ren m.new r ≡ inv b → ⊥
        copy (leaf i) d z =
            let y : ◌≡◌ {A = ℕ} 0 1 = cc in
            omega arith
        copy (inv i) d z = n i d
        copy (bin o i j) d z =
            let y : ◌≡◌ {A = ℕ} 0 1 = cc in
            omega arith

    -- The rule would make the copy of a row that it could append.
    made : (r : Row) → row_at t k ≡ r → Ready k r → plan t r ≡ make r → plan m.tab (ren m.new r) ≡ make (ren m.new r)
    made (leaf i) e d p = absurd d
    made (inv a) e d p =
        let c = closed k (inv a) l e q in
        let z = plan_not-made a (row_at t a) p in
        plan_not-normal (N a) (row_at m.tab (N a)) (n_tall a d c z.0) (λ b. no_inv a b d c z.1)
    made (bin o a b) e d p =
        let c = closed k (bin o a b) l e q in
        let z = plan_bin-made o a b (row_at t a) (row_at t b) p in
        plan_bin-normal o (N a) (N b) (row_at m.tab (N a)) (row_at m.tab (N b)) (n_tall a d.0 c.0 z.0)
        (g.rising a b z.1 d.1 c.0 c.1)

    -- Copies of two rows are equal only if the rows are.
    copy-one : (i : ℕ) → i < k → R i ≡ true → (p r : Row) → row_at t i ≡ p → row_at t k ≡ r → Ready i p → Ready k r
        → ren m.new p ≡ ren m.new r → p ≡ r
    copy-one i c d (leaf a) r e f y z n = absurd y
    copy-one i c d (inv a) (leaf b) e f y z n = absurd z
    copy-one i c d (inv a) (inv b) e f y z n =
        let o : N a ≡ N b = cc in
        ap inv (n_one a b (omega arith) z (closed i (inv a) (omega arith) e d) (closed k (inv b) l f q) o)
    copy-one i c d (inv a) (bin o b b') e f y z n = cc
    copy-one i c d (bin o a a') (leaf b) e f y z n = absurd z
    copy-one i c d (bin o a a') (inv b) e f y z n = cc
    copy-one i c d (bin o a a') (bin o' b b') e f y z n =
        let u : N a ≡ N b = cc in
        let u' : N a' ≡ N b' = cc in
        let ra = closed i (bin o a a') (omega arith) e d in
        let rb = closed k (bin o' b b') l f q in
        cc (n_one a b (omega arith) z.0 ra.0 rb.0 u, n_one a' b' (omega arith) z.1 ra.1 rb.1 u')

    -- So at a reached operation row adding by the rule and putting at the end are the same.
    add-is-append : add m.tab (ren m.new (row_at t k)) ≡ append m.tab (ren m.new (row_at t k))
    add-is-append =
        let r = ren m.new (row_at t k) in
        ap (settle m.tab) (made (row_at t k) refl (canonical-ready w k h l) (w.normal k h l)) ∙ put (inserts m.tab r)
      where
        ready : Ready k (row_at t k)
        ready = canonical-ready w k h l

        copied : (r : Row) → Ready k r → (i : ℕ) → leaf i ≡ ren m.new r → ⊥
        copied (leaf j) d i e = d
        copied (inv a) d i e =
            let y : ◌≡◌ {A = ℕ} 0 1 = cc in
            omega arith
        copied (bin o a b) d i e =
            let y : ◌≡◌ {A = ℕ} 0 1 = cc in
            omega arith

        none : (p : ℕ) → p < length m.tab → row_at m.tab p ≡ ren m.new (row_at t k) → ⊥
        none p f e = elim (dec_lt p (2 + C)) [
          | yes c ↦ copied (row_at t k) ready p (sym (base-row p c) ∙ e)
          | no c ↦ (let o = g.onto p (omega arith) f in
              let at = (g.placed o.at o.low o.reached).row o.high in
              w.distinct o.at k o.low l
              (copy-one o.at o.low o.reached (row_at t o.at) (row_at t k) refl refl
              (canonical-ready w o.at o.high (omega (arith, o.low))) ready
              (sym at ∙ ap (row_at m.tab) o.is ∙ e)))
        ]

        put : Inserts m.tab (ren m.new (row_at t k))
            → settle m.tab (make (ren m.new (row_at t k))) ≡ append m.tab (ren m.new (row_at t k))
        put (stood a b c) = absurd (none (find m.tab (ren m.new (row_at t k))) b c)
        put (fresh a b c) = λ i. record { tab = a i; row = b i }

  -- Carrying a canonical table to the bare one by the rule puts each reached row at the end.
  pub carry_same : (k : ℕ) → k ≤ length t → carry add (base C) (unchanging C) t x k ≡ carry append (base C) (unchanging C) t x k
  unfolding carry
  carry_same zero h = refl
  carry_same (suc k) h =
      ap (λ m. carry_row add (unchanging C) m (row_at t k) (R k)) (carry_same k (omega arith)) ∙ go (R k) refl
    where
      m : Carried
      m = carry append (base C) (unchanging C) t x k

      one : R k ≡ true → carry_one add (unchanging C) m (row_at t k) ≡ carry_one append (unchanging C) m (row_at t k)
      one q = elim (dec_lt k (2 + C)) [
        | yes p ↦ rw (w.leaf-at k p)
        | no p ↦ (let r = canonical-ready w k (omega arith) (omega arith) in
            carry-op add (unchanging C) m k (row_at t k) r
            ∙ add-is-append k m (packed k (omega arith)) (omega arith) (omega arith) q
            ∙ sym (carry-op append (unchanging C) m k (row_at t k) r))
      ]

      go : (b : Bool) → R k ≡ b → carry_row add (unchanging C) m (row_at t k) b ≡ carry_row append (unchanging C) m (row_at t k) b
      go false q = refl
      go true q = ap (λ (a : Added). record { tab = a.tab; new = m.new ++ (a.row ∷ []) }) (one q)

-- ---- the unchanging set

pub unchanging-stands : (C : ℕ) → Stands C (over (base C) (unchanging C))
unfolding unchanging
unchanging-stands C = record {
  canonical = base-canonical C;
  count = length_from 2 C;
  low = λ c. elim (dec_lt c C) [
    | yes h ↦ omega (arith, get_or-from 2 C c 0 h, length-base C)
    | no h ↦ (let p : length (from 2 C) ≤ c = omega (arith, length_from 2 C) in omega
        (arith, get_or-eq_default (from 2 C) 0 p, length-base C))
  ];
}

-- The unchanging set changes nothing.
pub unchanging_acts : (C : ℕ) (s : List Bool) → length s ≡ C → act (base C) (unchanging C) s ≡ s
unfolding act unchanging
unchanging_acts C s e = ext_get_or false (map (value (base C) s) (from 2 C)) s
    (length-map (from 2 C) (value (base C) s) ∙ length_from 2 C ∙ sym e) at
  where
    w : Canonical C (base C)
    w = base-canonical C

    at : (c : ℕ) → c < length (map (value (base C) s) (from 2 C))
        → get_or (map (value (base C) s) (from 2 C)) c false ≡ get_or s c false
    at c h =
        let p : c < C = omega (arith, length-map (from 2 C) (value (base C) s), length_from 2 C) in
        let z : value (base C) s 0 ≡ false = zero_is w s in
        let m : get_or (map (value (base C) s) (from 2 C)) c (value (base C) s 0) ≡ value (base C) s (get_or (from 2 C) c 0) = get_or-map (value (base C) s) (from 2 C) c 0 in
        let n : get_or (from 2 C) c 0 ≡ row_of_cell c = get_or-from 2 C c 0 p ∙ omega arith in
        cc (z, m, n, cell-value w s c p)

-- ---- what squeezing keeps

module _ {C : ℕ} {t : List Row} {x : List ℕ} (X : Stands C (over t x)) where
  -- Squeezing a set is writing it after the unchanging one.
  pub squeeze-after : squeeze C t x ≡ after (base C) (unchanging C) t x
  unfolding squeeze after
  squeeze-after = ap (λ m. moved m x) (sym (carry_same t x X.canonical (length t) (omega arith)))

  pub squeeze-stands : Stands C (squeeze C t x)
  squeeze-stands = rw squeeze-after (after_acts (base C) (unchanging C) t x (unchanging-stands C) X).stands

  -- A squeezed set has the same values on every storage of C cells.
  pub squeeze_acts : (s : List Bool) → length s ≡ C → act (squeeze C t x).tab (squeeze C t x).heads s ≡ act t x s
  squeeze_acts s e = rw squeeze-after
      ((after_acts (base C) (unchanging C) t x (unchanging-stands C) X).val s ∙ ap (act t x) (unchanging_acts C s e))

  -- A squeezed set has no more rows.
  pub squeeze-few : length (squeeze C t x).tab ≤ length t
  unfolding squeeze
  squeeze-few = omega (arith, (packed t x X.canonical (length t) (omega arith)).few, X.canonical.long)
