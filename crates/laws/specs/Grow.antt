-- Tables that grow: rows that stand keep their numbers and values, and every addition continues its table.
use Rattle.std.specs.Prelude.{ℕ, ◌≤◌, ◌<◌, ◌≡◌, Bool, List, [], ◌∷◌, ◌++◌, length}
use Rattle.std.proofs.Common.{sym, ap, ◌∙◌, append_assoc, append-nil, arith, length-append}
use Rattle.std.proofs.Math.ListN.{get_or-append}
use Rattle.rules.specs.Rows.{Row, leaf, row_at, values, value, Plan, have, make, plan, insert, settle, add}
use Rattle.laws.specs.Canonical.{Below}
use Rattle.laws.specs.Rows.{Inserts, inserts, meaning, value-append, stood, fresh, row_value-keep}

-- u is t with more rows at its end.
pub record Ext (t u : List Row) : Type 0 where
  pub more : List Row
  pub is : u ≡ t ++ more

pub ext_refl : (t : List Row) → Ext t t
ext_refl t = record { more = []; is = sym (append-nil t) }

pub ext_trans : {t u w : List Row} → Ext t u → Ext u w → Ext t w
ext_trans {t} p q = record {
  more = p.more ++ q.more;
  is = q.is ∙ ap (λ x. x ++ q.more) p.is
      ∙ append_assoc t p.more q.more;
}

pub ext_length : {t u : List Row} → Ext t u → length t ≤ length u
ext_length {t} {u} p = omega (arith, ap length p.is, length-append t p.more)

pub ext_row : {t u : List Row} → Ext t u → (i : ℕ) → i < length t → row_at u i ≡ row_at t i
ext_row {t} p i h = rw p.is (get_or-append t p.more (leaf 0) i h)

pub ext_value : {t u : List Row} → Ext t u → (s : List Bool) (i : ℕ) → i < length t → value u s i ≡ value t s i
ext_value {t} p s i h = rw p.is (value-append t p.more s i h)

-- An operation over rows that stand keeps its value when a table grows.
pub ext_meaning : {t u : List Row} → Ext t u → (s : List Bool) (r : Row) → Below (length t) r → meaning u s r ≡ meaning t s r
unfolding value
ext_meaning {t} {u} p s r h = row_value-keep s (values s [] u) (values s [] t) (length t) r h (λ i g. ext_value p s i g)

insert_extends : (t : List Row) (r : Row) → Ext t (insert t r)
insert_extends t r = go (inserts t r)
  where
    go : Inserts t r → Ext t (insert t r)
    go (stood a b c) = rw a (ext_refl t)
    go (fresh a b c) = record { more = r ∷ []; is = a }

pub add_extends : (t : List Row) (r : Row) → Ext t (add t r).tab
add_extends t r = go (plan t r)
  where
    go : (p : Plan) → Ext t (settle t p).tab
    go (have i) = ext_refl t
    go (make q) = insert_extends t q

-- u is t after some additions, one after another.
pub data Grown : List Row → List Row → Type 0 where
  bare : (t : List Row) → Grown t t
  plus : {t u : List Row} → Grown t u → (r : Row) → Grown t (add u r).tab

pub grown-one : (t : List Row) (r : Row) → Grown t (add t r).tab
grown-one t r = plus (bare t) r

pub grown_trans : {t u w : List Row} → Grown t u → Grown u w → Grown t w
grown_trans p (bare u) = p
grown_trans p (plus q r) = plus (grown_trans p q) r

-- Additions only ever grow a table.
pub grown_ext : {t u : List Row} → Grown t u → Ext t u
grown_ext (bare t) = ext_refl t
grown_ext (plus {u = u} g r) = ext_trans (grown_ext g) (add_extends u r)
