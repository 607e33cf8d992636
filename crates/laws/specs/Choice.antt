-- Heads made one after another in one table; choice by a row evaluates as the one set or the other.
use Prim.Native.Nat.{ℕ, zero, suc, ◌<◌}
use Rattle.std.specs.Prelude.{◌≡◌, Bool, true, false, not, cond, length, eqb}
use Rattle.std.proofs.Math.Path.{refl, ap, ap₂}
use Rattle.std.proofs.Common.{sym, ◌∙◌, arith, eqb-true}
use Rattle.std.proofs.Math.Bool.{or-false}
use mathlib.Core.List.{List, [], ◌∷◌, ◌++◌, map, zip_with, zip}
use Rattle.std.proofs.Math.ListN.{get_or}
use Rattle.rules.specs.Expr.{op}
use Rattle.rules.specs.Rows.{Row, inv, bin, value, Added, add}
use Rattle.rules.specs.Sets.{Heads, act, each, four_rows, choose, choice}
use Rattle.laws.specs.Canonical.{Canonical}
use Rattle.laws.specs.Grow.{Ext, ext_refl, ext_trans, ext_length, ext_value, add_extends, Grown, bare, plus, grown_trans, grown_ext}
use Rattle.laws.specs.Rule.{Sound, add_sound}
use Rattle.laws.specs.After.{Stands, Acts, over}

-- Every element of a list has the property.
abbrev pub All : {A : Type 0} → (A → Type 0) → List A → Type 0
All P [] = Unit {0}
All P (x ∷ xs) = P x × All P xs

-- What is owed of heads made one after another: a canonical table, heads in it, and their values.
pub record Owed (C : ℕ) (h : Heads) (f : List Bool → List Bool) : Type 0 where
  pub canonical : Canonical C h.tab
  pub low : (c : ℕ) → get_or h.heads c 0 < length h.tab
  pub val : (s : List Bool) → act h.tab h.heads s ≡ f s

pub owed_acts : {C : ℕ} {h : Heads} {f : List Bool → List Bool} → Owed C h f → length h.heads ≡ C → Acts C h f
owed_acts o e = record { stands = record { canonical = o.canonical; count = e; low = o.low }; val = o.val }

-- Adding x is sound in every table that continues t.
abbrev pub Good : {A : Type 0} → ℕ → (List Row → A → Added) → List Row → (List Bool → A → Bool) → A → Type 0
Good C put t v x = (u : List Row) → Ext t u → Canonical C u → Sound C (put u x) (λ s. v s x)

-- ---- one after another

module _ {A : Type 0} (put : List Row → A → Added) (grown : (t : List Row) (x : A) → Grown t (put t x).tab) where
  pub each-grown : (t : List Row) (xs : List A) → Grown t (each put t xs).tab
  unfolding each
  each-grown t [] = bare t
  each-grown t (x ∷ xs) = grown_trans (grown t x) (each-grown (put t x).tab xs)

  pub each-count : (t : List Row) (xs : List A) → length (each put t xs).heads ≡ length xs
  unfolding each
  each-count t [] = refl
  each-count t (x ∷ xs) = ap suc (each-count (put t x).tab xs)

  -- One element more at the end.
  pub each_more : (t : List Row) (xs : List A) (x : A)
      → each put t (xs ++ (x ∷ [])) ≡ (let a = put (each put t xs).tab x in over a.tab ((each put t xs).heads ++ (a.row ∷ [])))
  unfolding each
  each_more t [] x = refl
  each_more t (z ∷ xs) x =
      ap (λ (h : Heads). over h.tab ((put t z).row ∷ h.heads)) (each_more (put t z).tab xs x)

  -- Where each addition is sound in every table that continues t, so are the heads made of all of them.
  pub each_owed : {C : ℕ} (t : List Row) (v : List Bool → A → Bool) (xs : List A) → All (Good C put t v) xs → (u : List Row)
      → Ext t u → Canonical C u
      → Owed C (each put u xs) (λ s. map (v s) xs)
  unfolding each act
  each_owed t v [] g u p w = record { canonical = w; low = λ c. omega (arith, w.long); val = λ s. refl }
  each_owed t v (x ∷ xs) g u p w =
      let a = put u x in
      let z = g.0 u p w in
      let rest = each_owed t v xs g.1 a.tab (ext_trans p (grown_ext (grown u x))) z.canonical in
      let more = grown_ext (each-grown a.tab xs) in
      record {
        canonical = rest.canonical;
        low = each-low a.row (each put a.tab xs).heads (omega (arith, z.low, ext_length more)) rest.low;
        val = λ s. ap₂ {C = List Bool} ◌∷◌ (ext_value more s a.row z.low ∙ z.val s) (rest.val s);
      }
    where
      each-low : {n : ℕ} (a : ℕ) (l : List ℕ) → a < n → ((c : ℕ) → get_or l c 0 < n) → (c : ℕ) → get_or (a ∷ l) c 0 < n
      each-low a l h g zero = h
      each-low a l h g (suc c) = g c

-- ---- choice

four_rows-grown : (t : List Row) (f x y : ℕ) → Grown t (four_rows t f x y).tab
unfolding four_rows
four_rows-grown t f x y =
    let n = add t (inv f) in
    let a = add n.tab (bin true f x) in
    let b = add a.tab (bin true n.row y) in
    plus (plus (plus (plus (bare t) (inv f)) (bin true f x)) (bin true n.row y)) (bin false a.row b.row)

pub choose-grown : (t : List Row) (f x y : ℕ) → Grown t (choose t f x y).tab
unfolding choose
choose-grown t f x y = go (eqb x y)
  where
    go : (q : Bool) → Grown t (cond q (record { tab = t; row = x }) (four_rows t f x y)).tab
    go true = bare t
    go false = four_rows-grown t f x y

either : (f x y : Bool) → op false (op true f x) (op true (not f) y) ≡ cond f x y
either true x y = or-false x
either false x y = refl

four_rows_sound : {C : ℕ} {t : List Row} → Canonical C t → (f x y : ℕ) → f < length t → x < length t → y < length t
    → Sound C (four_rows t f x y) (λ s. cond (value t s f) (value t s x) (value t s y))
unfolding four_rows value
four_rows_sound {C} {t} w f x y hf hx hy =
    let n = add t (inv f) in
    let en = add_extends t (inv f) in
    let sn = add_sound w (inv f) hf in
    let a = add n.tab (bin true f x) in
    let ea = add_extends n.tab (bin true f x) in
    let sa = add_sound sn.canonical (bin true f x) (omega (arith, ext_length en), omega (arith, ext_length en)) in
    let b = add a.tab (bin true n.row y) in
    let eb = add_extends a.tab (bin true n.row y) in
    let sb = add_sound sa.canonical (bin true n.row y)
    (omega (arith, sn.low, ext_length ea), omega (arith, ext_length en, ext_length ea)) in
    let sc = add_sound sb.canonical (bin false a.row b.row) (omega (arith, sa.low, ext_length eb), sb.low) in
    record {
      canonical = sc.canonical;
      low = sc.low;
      val = λ s. cc (
        sc.val s,
        sb.val s,
        sa.val s,
        sn.val s,
        ext_value eb s a.row sa.low,
        ext_value ea s n.row sn.low,
        ext_value en s f hf,
        ext_value en s x hx,
        ext_value (ext_trans en ea) s y hy,
        either (value t s f) (value t s x) (value t s y),
      );
    }

cond_same : (b p q : Bool) → p ≡ q → p ≡ cond b p q
cond_same true p q e = refl
cond_same false p q e = e

-- One cell's choice has the value of x where f is 1, else of y.
pub choose_sound : {C : ℕ} {t : List Row} → Canonical C t → (f x y : ℕ) → f < length t → x < length t → y < length t
    → Sound C (choose t f x y) (λ s. cond (value t s f) (value t s x) (value t s y))
unfolding choose
choose_sound {C} {t} w f x y hf hx hy = go (eqb x y) refl
  where
    go : (q : Bool) → eqb x y ≡ q
        → Sound C (cond q (record { tab = t; row = x }) (four_rows t f x y))
        (λ s. cond (value t s f) (value t s x) (value t s y))
    go true e = record {
      canonical = w;
      low = hx;
      val = λ s. cond_same (value t s f) (value t s x) (value t s y)
          (ap (value t s) (eqb-true x y e));
    }
    go false e = four_rows_sound w f x y hf hx hy

pub choice-grown : (t : List Row) (f : ℕ) (x y : List ℕ) → Grown t (choice t f x y).tab
unfolding choice
choice-grown t f x y = each-grown (λ u p. choose u f p.0 p.1) (λ u p. choose-grown u f p.0 p.1) t (zip x y)

pub length-zip : (x y : List ℕ) → length x ≡ length y → length (zip x y) ≡ length x
unfolding zip zip_with
length-zip [] y e = refl
length-zip (a ∷ x) [] e = absurd (omega arith)
length-zip (a ∷ x) (b ∷ y) e = ap suc (length-zip x y (omega arith))

-- The pair at a place.
pub zip-at : (x y : List ℕ) → length x ≡ length y → (c : ℕ) → get_or (zip x y) c (0, 0) ≡ (get_or x c 0, get_or y c 0)
unfolding zip zip_with
zip-at [] [] e c = refl
zip-at [] (b ∷ y) e c = absurd (omega arith)
zip-at (a ∷ x) [] e c = absurd (omega arith)
zip-at (a ∷ x) (b ∷ y) e zero = refl
zip-at (a ∷ x) (b ∷ y) e (suc c) = zip-at x y (omega arith) c

map-zip : (g : ℕ → Bool) (f : Bool) (x y : List ℕ) → length x ≡ length y
    → map (λ (p : ℕ × ℕ). cond f (g p.0) (g p.1)) (zip x y) ≡ cond f (map g x) (map g y)
unfolding zip zip_with
map-zip g true [] y e = refl
map-zip g true (a ∷ x) [] e = absurd (omega arith)
map-zip g true (a ∷ x) (b ∷ y) e = ap (λ l. g a ∷ l) (map-zip g true x y (omega arith))
map-zip g false [] [] e = refl
map-zip g false [] (b ∷ y) e = absurd (omega arith)
map-zip g false (a ∷ x) [] e = absurd (omega arith)
map-zip g false (a ∷ x) (b ∷ y) e = ap (λ l. g b ∷ l) (map-zip g false x y (omega arith))

all_zip : (P : ℕ × ℕ → Type 0) (n : ℕ) (x y : List ℕ) → ((a b : ℕ) → a < n → b < n → P (a, b)) → ((c : ℕ) → get_or x c 0 < n)
    → ((c : ℕ) → get_or y c 0 < n) → All P (zip x y)
unfolding zip zip_with
all_zip P n [] y g hx hy = tt
all_zip P n (a ∷ x) [] g hx hy = tt
all_zip P n (a ∷ x) (b ∷ y) g hx hy = (g a b (hx 0) (hy 0), all_zip P n x y g (λ c. hx (suc c)) (λ c. hy (suc c)))

-- The law of choice: it stands, and evaluates as x where row f is 1, else as y.
pub choice_acts : {C : ℕ} (t : List Row) (f : ℕ) (x y : List ℕ) → f < length t → Stands C (over t x) → Stands C (over t y)
    → Acts C (choice t f x y) (λ s. cond (value t s f) (act t x s) (act t y s))
unfolding choice act
choice_acts {C} t f x y h X Y =
    let put : List Row → ℕ × ℕ → Added = λ u p. choose u f p.0 p.1 in
    let grown : (u : List Row) (p : ℕ × ℕ) → Grown u (put u p).tab = λ u p. choose-grown u f p.0 p.1 in
    let v : List Bool → ℕ × ℕ → Bool = λ s p. cond (value t s f) (value t s p.0) (value t s p.1) in
    let same : length x ≡ length y = X.count ∙ sym Y.count in
    let o = each_owed put grown t v (zip x y) (all_zip (Good C put t v) (length t) x y good X.low Y.low) t (ext_refl t)
    X.canonical in
    owed_acts (record { canonical = o.canonical; low = o.low; val = λ s. o.val s ∙ by s })
    (each-count put grown t (zip x y) ∙ length-zip x y same ∙ X.count)
  where
    good : (a b : ℕ) → a < length t → b < length t
        → Good C (λ u (p : ℕ × ℕ). choose u f p.0 p.1) t
        (λ s p. cond (value t s f) (value t s p.0) (value t s p.1)) (a, b)
    good a b ha hb u p w =
        let n = ext_length p in
        let z = choose_sound w f a b (omega arith) (omega arith) (omega arith) in
        record {
          canonical = z.canonical;
          low = z.low;
          val = λ s. cc (z.val s, ext_value p s f h, ext_value p s a ha, ext_value p s b hb);
        }

    by : (s : List Bool)
        → map (λ (p : ℕ × ℕ). cond (value t s f) (value t s p.0) (value t s p.1)) (zip x y) ≡ cond (value t s f)
        (act t x s) (act t y s)
    by s = map-zip (value t s) (value t s f) x y (X.count ∙ sym Y.count)
