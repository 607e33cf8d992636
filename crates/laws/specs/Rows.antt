-- Laws of the row table: equal rows, finding and inserting, values, the table before any operation.
use Rattle.std.specs.Prelude.{ℕ, zero, suc, ◌+◌, ◌<◌, ◌≡◌, refl, Bool, true, false, not, cond, List, [], ◌∷◌, ◌++◌, length, get_or, take, drop, eqb}
use Rattle.std.proofs.Common.{sym, ap, ◌∙◌, arith, length-append, get_or-take, length-take-le, ext_get_or, eqb-true, eq-eqb}
use Rattle.std.proofs.Math.Decide.{dec_lt}
use Rattle.std.proofs.lemmas.List.{length-map}
use Rattle.std.proofs.Math.ListN.{get_or-append, get_or-map}
use Rattle.std.proofs.Math.Seq.{get_or-append_seam, split_at}
use Rattle.rules.specs.Lists.{from}
use Rattle.rules.specs.Rows.{Row, leaf, inv, bin, base, row_of_cell, row_at, kind, left, right, same, row_value, values, value, find, insert}
use Rattle.laws.specs.Verdict.{both_true}
use Rattle.laws.specs.Lists.{length_from, get_or-from}
use Rattle.laws.specs.Canonical.{Below, Canonical}

-- ---- equal rows

of_parts : ℕ → ℕ → ℕ → Row
of_parts zero a b = leaf a
of_parts (suc zero) a b = inv a
of_parts (suc (suc zero)) a b = bin true a b
of_parts (suc (suc (suc k))) a b = bin false a b

parts-back : (r : Row) → of_parts (kind r) (left r) (right r) ≡ r
unfolding of_parts
parts-back (leaf i) = refl
parts-back (inv a) = refl
parts-back (bin true a b) = refl
parts-back (bin false a b) = refl

-- Rows that the test calls the same are equal, and a row is the same as itself.
pub same_true : (q r : Row) → same q r ≡ true → q ≡ r
same_true q r e =
    let (k, s) = both_true (eqb (kind q) (kind r)) _ e in
    let (a, b) = both_true (eqb (left q) (left r)) _ s in
    cc (parts-back q, parts-back r, eqb-true (kind q) (kind r) k, eqb-true (left q) (left r) a, eqb-true (right q) (right r) b)

pub same_refl : (r : Row) → same r r ≡ true
same_refl r = rw (eq-eqb (kind r) (kind r) refl, eq-eqb (left r) (left r) refl, eq-eqb (right r) (right r) refl)

-- ---- find and insert

-- Inserting a row either finds it standing, or puts it at the end of a table that does not have it.
pub data Inserts (t : List Row) (r : Row) : Type 0 where
  stood : insert t r ≡ t → find t r < length t → row_at t (find t r) ≡ r → Inserts t r
  fresh : insert t r ≡ t ++ (r ∷ []) → find t r ≡ length t → ((i : ℕ) → i < length t → row_at t i ≡ r → ⊥) → Inserts t r

pub inserts : (t : List Row) (r : Row) → Inserts t r
unfolding find insert
inserts [] r = fresh refl refl (λ i h e. omega arith)
inserts (q ∷ t) r = go (same q r) refl (inserts t r)
  where
    here : same q r ≡ true → Inserts (q ∷ t) r
    here e = stood (rw e) (rw e (omega arith)) (rw e (same_true q r e))

    past : same q r ≡ false → Inserts t r → Inserts (q ∷ t) r
    past e (stood a b c) = stood (rw (e, a)) (rw e (omega arith)) (rw e c)
    past e (fresh a b c) = fresh (rw (e, a)) (rw (e, b)) none
      where
        none : (i : ℕ) → i < suc (length t) → row_at (q ∷ t) i ≡ r → ⊥
        none zero h d =
            let z : true ≡ false = sym (same_refl r) ∙ ap (λ x. same x r) (sym d) ∙ e in
            let y : ◌≡◌ {A = ℕ} 0 1 = cc in
            omega arith
        none (suc i) h d = c i (omega arith) d

    go : (b : Bool) → same q r ≡ b → Inserts t r → Inserts (q ∷ t) r
    go true e k = here e
    go false e k = past e k

-- No row before the one that is found is the same.
pub find_first : (t : List Row) (r : Row) (i : ℕ) → i < find t r → same (row_at t i) r ≡ false
unfolding find
find_first [] r i h = absurd (omega arith)
find_first (q ∷ t) r i h = go (same q r) refl i h (find_first t r)
  where
    go : (b : Bool) → same q r ≡ b → (i : ℕ) → i < cond b 0 (suc (find t r))
        → ((k : ℕ) → k < find t r → same (row_at t k) r ≡ false)
        → same (row_at (q ∷ t) i) r ≡ false
    go true e i h rest = absurd (omega arith)
    go false e zero h rest = e
    go false e (suc i) h rest = rest i (omega arith)

-- A row that is equal to no row before it is found where it stands.
pub find_at : (t : List Row) (k : ℕ) → k < length t → ((i : ℕ) → i < k → row_at t i ≡ row_at t k → ⊥) → find t (row_at t k) ≡ k
unfolding find
find_at [] k h d = absurd (omega arith)
find_at (q ∷ t) zero h d = rw (same_refl q)
find_at (q ∷ t) (suc k) h d = go (same q (row_at t k)) refl (find_at t k (omega arith) (λ i l. d (suc i) (omega arith)))
  where
    go : (b : Bool) → same q (row_at t k) ≡ b → find t (row_at t k) ≡ k → cond b 0 (suc (find t (row_at t k))) ≡ suc k
    go true e rest = absurd (d 0 (omega arith) (same_true q (row_at t k) e))
    go false e rest = ap suc rest

-- ---- values

-- The value of a row over the values of a table's rows.
abbrev pub meaning : List Row → List Bool → Row → Bool
meaning t s r = row_value s (values s [] t) r

values-append : (s vs : List Bool) (t u : List Row) → values s vs (t ++ u) ≡ values s (values s vs t) u
unfolding values
values-append s vs [] u = refl
values-append s vs (r ∷ t) u = values-append s (vs ++ (row_value s vs r ∷ [])) t u

length-values : (s vs : List Bool) (t : List Row) → length (values s vs t) ≡ length vs + length t
unfolding values
length-values s vs [] = omega arith
length-values s vs (r ∷ t) = omega
    (arith, length-values s (vs ++ (row_value s vs r ∷ [])) t, length-append vs (row_value s vs r ∷ []))

values-keep : (s vs : List Bool) (t : List Row) (i : ℕ) → i < length vs → get_or (values s vs t) i false ≡ get_or vs i false
unfolding values
values-keep s vs [] i h = refl
values-keep s vs (r ∷ t) i h =
    values-keep s (vs ++ (row_value s vs r ∷ [])) t i (omega (arith, length-append vs (row_value s vs r ∷ [])))
    ∙ get_or-append vs _ false i h

-- Rows that stand keep their values when a table grows.
pub value-append : (t u : List Row) (s : List Bool) (i : ℕ) → i < length t → value (t ++ u) s i ≡ value t s i
unfolding value
value-append t u s i h = rw values-append (values-keep s (values s [] t) u i (omega (arith, length-values s [] t)))

pub row_value-keep : (s vs ws : List Bool) (k : ℕ) (r : Row) → Below k r → ((i : ℕ) → i < k → get_or vs i false ≡ get_or ws i false)
    → row_value s vs r ≡ row_value s ws r
row_value-keep s vs ws k (leaf i) h e = refl
row_value-keep s vs ws k (inv a) h e = ap not (e a h)
row_value-keep s vs ws k (bin o a b) h e = cc (e a h.0, e b h.1)

pub value-here : (t u : List Row) (r : Row) (s : List Bool) → Below (length t) r
    → value (t ++ (r ∷ u)) s (length t) ≡ meaning (t ++ (r ∷ u)) s r
unfolding value values
value-here t u r s h =
    let v = values s [] t in
    let w = v ++ (row_value s v r ∷ []) in
    let split : values s [] (t ++ (r ∷ u)) ≡ values s w u = values-append s [] t (r ∷ u) in
    let n : length v ≡ length t = length-values s [] t ∙ omega arith in
    let m : length w ≡ suc (length t) = length-append v (row_value s v r ∷ []) ∙ omega arith in
    let old : (i : ℕ) → i < length t → get_or (values s w u) i false ≡ get_or v i false = λ i p. values-keep s w u i (omega arith)
    ∙ get_or-append v _ false i (omega arith) in
    rw (split, ← n) (values-keep s w u (length v) (omega arith) ∙ get_or-append_seam v (row_value s v r) [] false
    ∙ row_value-keep s v (values s w u) (length t) r h (λ i p. sym (old i p)))

-- A row whose operands are earlier has the value of its operation.
pub value-at : (t : List Row) (s : List Bool) (i : ℕ) → i < length t → Below i (row_at t i)
    → value t s i ≡ meaning t s (row_at t i)
value-at t s i h b =
    let n : length (take i t) ≡ i = length-take-le i t (omega arith) in
    let e : t ≡ take i t ++ (row_at t i ∷ drop (suc i) t) = split_at t i (leaf 0) h in
    let b' : Below (length (take i t)) (row_at t i) = rw n b in
    let v : value (take i t ++ (row_at t i ∷ drop (suc i) t)) s (length (take i t)) ≡ meaning (take i t ++ (row_at t i ∷ drop (suc i) t)) s (row_at t i)
    = value-here (take i t) (drop (suc i) t) (row_at t i) s b' in
    cc (e, n, v)

-- The same for every row of a canonical table.
pub canonical-value : {C : ℕ} {t : List Row} → Canonical C t → (s : List Bool) (i : ℕ) → i < length t
    → value t s i ≡ meaning t s (row_at t i)
canonical-value {C} {t} w s i h = elim (dec_lt i (2 + C)) [
  | yes p ↦ value-at t s i h (rw (w.leaf-at i p) tt)
  | no p ↦ value-at t s i h
      (w.earlier i (omega arith) h)
]

-- The row of a cell has the cell's value.
pub cell-value : {C : ℕ} {t : List Row} → Canonical C t → (s : List Bool) (c : ℕ) → c < C
    → value t s (row_of_cell c) ≡ get_or s c false
cell-value {t = t} w s c h = canonical-value w s (row_of_cell c) (omega (arith, w.long))
    ∙ ap (meaning t s) (w.leaf-at (row_of_cell c) (omega arith))

-- ---- the table before any operation

pub length-base : (C : ℕ) → length (base C) ≡ 2 + C
unfolding base
length-base C = length-map (from 0 (2 + C)) leaf ∙ length_from 0 (2 + C)

pub base-at : (C i : ℕ) → i < 2 + C → row_at (base C) i ≡ leaf i
unfolding base
base-at C i h = get_or-map leaf (from 0 (2 + C)) i 0 ∙ ap leaf (get_or-from 0 (2 + C) i 0 h ∙ omega arith)

-- A canonical table begins with it.
pub base-take : {C : ℕ} {t : List Row} → Canonical C t → base C ≡ take (2 + C) t
base-take {C} {t} w = ext_get_or (leaf 0) (base C) (take (2 + C) t) (length-base C ∙ sym (length-take-le (2 + C) t w.long))
    (λ i h. (let p : i < 2 + C = omega (arith, length-base C) in base-at C i p
    ∙ sym (get_or-take (2 + C) t i (leaf 0) p ∙ w.leaf-at i p)))
