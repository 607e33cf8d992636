-- Laws of the rule: its plan is right, and adding answers a row with the operation's value in a table that stays canonical.
use Prim.Native.Nat.{ℕ, zero, suc, ◌+◌, ◌≤◌, ◌<◌, min, max}
use Rattle.std.specs.Prelude.{◌≡◌, Bool, false, cond, length, get_or}
use Rattle.std.proofs.Math.Path.{refl, sym, ap}
use Rattle.std.proofs.Common.{◌∙◌, length-append, eqb-true, ne_eqb}
use Rattle.std.proofs.Math.Bool.{true, not, and_comm, or_comm, and_self, or_self, not-not}
use mathlib.Core.List.{List, [], ◌∷◌, ◌++◌}
use native.Mathlib.Omega.{arith}
use Rattle.std.proofs.Math.Decide.{dec_lt}
use Rattle.std.proofs.Math.ListN.{get_or-append}
use Rattle.std.proofs.Math.Seq.{get_or-append_seam}
use Rattle.std.proofs.Math.Dec.{eqb}
use Rattle.std.proofs.lemmas.Bool.{eqb-false}
use Rattle.rules.specs.Expr.{op}
use Rattle.rules.specs.Rows.{Row, leaf, inv, bin, base, row_at, values, value, Plan, have, make, plan_not, absorbing, neutral, plan_bin, plan, find, Added, settle, add}
use Rattle.laws.specs.Canonical.{Below, Canonical}
use Rattle.laws.specs.Rows.{Inserts, base-at, canonical-value, inserts, length-base, meaning, stood, fresh, value-here}
use Rattle.laws.specs.Grow.{Ext, ext_meaning}

-- ---- the plan

-- An operation whose operands are below k.
abbrev pub Ready : ℕ → Row → Type 0
Ready k (leaf i) = ⊥
Ready k (inv a) = a < k
Ready k (bin o a b) = (a < k) × (b < k)

pub ready-below : (k : ℕ) (r : Row) → Ready k r → Below k r
ready-below k (leaf i) h = tt
ready-below k (inv a) h = h
ready-below k (bin o a b) h = h

pub below_more : (j k : ℕ) (r : Row) → j ≤ k → Below j r → Below k r
below_more j k (leaf i) h b = tt
below_more j k (inv a) h b = omega arith
below_more j k (bin o a c) h b = (omega arith, omega arith)

-- A plan looks at no row but the operands, so it stays the same while a table grows.
pub plan-kept : (t u : List Row) → ((i : ℕ) → i < length t → row_at u i ≡ row_at t i) → (r : Row) → Below (length t) r
    → plan u r ≡ plan t r
plan-kept t u e (leaf i) h = refl
plan-kept t u e (inv a) h = ap (plan_not a) (e a h)
plan-kept t u e (bin o a b) h = cc (e a h.0, e b h.1)

-- A plan is right: the row that it names stands and has the operation's value; the row that it makes has it, and is itself one to make.
abbrev pub Right : List Row → Row → Plan → Type 0
Right t r (have i) = (i < length t) × ((s : List Bool) → value t s i ≡ meaning t s r)
Right t r (make q) = Ready (length t) q × ((s : List Bool) → meaning t s q ≡ meaning t s r) × (plan t q ≡ make q)

op_absorb : (o x : Bool) → op o (not o) x ≡ not o
op_absorb true x = refl
op_absorb false x = refl

op-neutral : (o x : Bool) → op o o x ≡ x
op-neutral true x = refl
op-neutral false x = refl

op_self : (o x : Bool) → op o x x ≡ x
op_self true x = and_self x
op_self false x = or_self x

op_comm : (o x y : Bool) → op o x y ≡ op o y x
op_comm true x y = and_comm x y
op_comm false x y = or_comm x y

pub no_constant : (o : Bool) (a : ℕ) → (a ≡ absorbing o → ⊥) → (a ≡ neutral o → ⊥) → 2 ≤ a
no_constant true a p q = omega arith
no_constant false a p q = omega arith

-- Two operands in rising order that are no constants are made a row as they stand.
pub plan_bin-normal : (o : Bool) (a b : ℕ) (p q : Row) → 2 ≤ a → a < b → plan_bin o a p b q ≡ make (bin o a b)
unfolding plan_bin
plan_bin-normal o a b p q h g =
    let x : (k : ℕ) → k < 2 → eqb a k ≡ false = λ k m. ne_eqb a k (omega arith) in
    let y : (k : ℕ) → k < 2 → eqb b k ≡ false = λ k m. ne_eqb b k (omega arith) in
    let z : eqb a b ≡ false = ne_eqb a b (omega arith) in
    let m : min a b ≡ a = omega arith in
    let n : max a b ≡ b = omega arith in
    cc (x (absorbing o) (small o), y (absorbing o) (small o), x (neutral o) (small' o), y (neutral o) (small' o), z, m, n)
  where
    small : (o : Bool) → absorbing o < 2
    small true = omega arith
    small false = omega arith

    small' : (o : Bool) → neutral o < 2
    small' true = omega arith
    small' false = omega arith

module _ {C : ℕ} {t : List Row} (w : Canonical C t) where
  pub zero_is : (s : List Bool) → value t s 0 ≡ false
  zero_is s = canonical-value w s 0 (omega (arith, w.long)) ∙ ap (meaning t s) (w.leaf-at 0 (omega arith))

  pub one-is : (s : List Bool) → value t s 1 ≡ true
  one-is s = canonical-value w s 1 (omega (arith, w.long)) ∙ ap (meaning t s) (w.leaf-at 1 (omega arith))

  -- Every row of a canonical table has its operands earlier.
  pub canonical-below : (i : ℕ) → i < length t → Below i (row_at t i)
  canonical-below i h = elim (dec_lt i (2 + C)) [ yes p ↦ rw (w.leaf-at i p) tt | no p ↦ w.earlier i (omega arith) h ]

  pub op-earlier : (a : ℕ) (r : Row) → a < length t → row_at t a ≡ r → Below a r
  op-earlier a r h e = rw e at (canonical-below a h)

  plan_not-right : (a : ℕ) (r : Row) → a < length t → row_at t a ≡ r → Right t (inv a) (plan_not a r)
  unfolding value
  plan_not-right zero r h e = (omega (arith, w.long), λ s. one-is s ∙ ap not (sym (zero_is s)))
  plan_not-right (suc zero) r h e = (omega (arith, w.long), λ s. zero_is s ∙ ap not (sym (one-is s)))
  plan_not-right (suc (suc a)) (leaf i) h e = (h, λ s. refl, rw e refl)
  plan_not-right (suc (suc a)) (inv b) h e =
      let p : b < suc (suc a) = op-earlier (suc (suc a)) (inv b) h e in
      (omega arith, λ s. sym (ap not (canonical-value w s (suc (suc a)) h ∙ ap (meaning t s) e) ∙ not-not (value t s b)))
  plan_not-right (suc (suc a)) (bin o b c) h e = (h, λ s. refl, rw e refl)

  absorbing-is : (o : Bool) (s : List Bool) → value t s (absorbing o) ≡ not o
  absorbing-is true s = zero_is s
  absorbing-is false s = one-is s

  neutral-is : (o : Bool) (s : List Bool) → value t s (neutral o) ≡ o
  neutral-is true s = one-is s
  neutral-is false s = zero_is s

  plan_bin-right : (o : Bool) (a b : ℕ) → a < length t → b < length t → Right t (bin o a b) (plan t (bin o a b))
  unfolding plan_bin value
  plan_bin-right o a b ha hb =
      go (eqb a (absorbing o)) refl (eqb b (absorbing o)) refl (eqb a (neutral o)) refl (eqb b (neutral o)) refl (eqb a b) refl
    where
      at : (s : List Bool) (a c : ℕ) → eqb a c ≡ true → value t s a ≡ value t s c
      at s a c e = ap (value t s) (eqb-true a c e)

      go : (p : Bool) → eqb a (absorbing o) ≡ p → (q : Bool) → eqb b (absorbing o) ≡ q → (m : Bool) → eqb a (neutral o) ≡ m
          → (n : Bool) → eqb b (neutral o) ≡ n
          → (k : Bool) → eqb a b ≡ k
          → Right t (bin o a b)
          (cond p (have a) (cond q (have b)
          (cond m (have b) (cond n (have a) (cond k (have a) (make (bin o (min a b) (max a b))))))))
      go true e q _ m _ n _ k _ = (ha, λ s. cc (at s a _ e, absorbing-is o s, op_absorb o (value t s b)))
      go false _ true e m _ n _ k
          _ = (hb, λ s. cc (at s b _ e, absorbing-is o s, op_absorb o (value t s a), op_comm o (value t s a) (value t s b)))
      go false _ false _ true e n _ k _ = (hb, λ s. cc (at s a _ e, neutral-is o s, op-neutral o (value t s b)))
      go false _ false _ false _ true e k
          _ = (ha, λ s. cc (at s b _ e, neutral-is o s, op-neutral o (value t s a), op_comm o (value t s a) (value t s b)))
      go false _ false _ false _ false _ true e = (ha, λ s. cc (at s a b e, op_self o (value t s b)))
      go false p false q false m false n false k =
          let ga : 2 ≤ a = no_constant o a (eqb-false a _ p) (eqb-false a _ m) in
          let gb : 2 ≤ b = no_constant o b (eqb-false b _ q) (eqb-false b _ n) in
          let ne : a ≡ b → ⊥ = eqb-false a b k in
          elim (dec_lt a b) [ yes h ↦ rising a b ha hb ga h | no h ↦ falling a b ha hb gb (omega arith) ]
        where
          rising : (a b : ℕ) → a < length t → b < length t → 2 ≤ a → a < b
              → Right t (bin o a b) (make (bin o (min a b) (max a b)))
          rising a b ha hb g h =
              let x : min a b ≡ a = omega arith in
              let y : max a b ≡ b = omega arith in
              rw (x, y) ((ha, hb), λ s. refl, plan_bin-normal o a b (row_at t a) (row_at t b) g h)

          falling : (a b : ℕ) → a < length t → b < length t → 2 ≤ b → b < a
              → Right t (bin o a b) (make (bin o (min a b) (max a b)))
          falling a b ha hb g h =
              let x : min a b ≡ b = omega arith in
              let y : max a b ≡ a = omega arith in
              rw (x, y) (
                (hb, ha),
                λ s. op_comm o (get_or (values s [] t) b false) (get_or (values s [] t) a false),
                plan_bin-normal o b a (row_at t b) (row_at t a) g h,
              )

  -- The rule's plan for any operation over rows that stand is right.
  pub plan-right : (r : Row) → Ready (length t) r → Right t r (plan t r)
  plan-right (leaf i) h = absurd h
  plan-right (inv a) h = plan_not-right a (row_at t a) h refl
  plan-right (bin o a b) h = plan_bin-right o a b h.0 h.1

-- ---- adding

-- What an addition owes: a canonical table, and a row of it that has the value.
pub record Sound (C : ℕ) (a : Added) (v : List Bool → Bool) : Type 0 where
  pub canonical : Canonical C a.tab
  pub low : a.row < length a.tab
  pub val : (s : List Bool) → value a.tab s a.row ≡ v s

-- A canonical table stays so with one row more that the rule makes and that it does not have.
pub canonical-append : {C : ℕ} {t : List Row} → Canonical C t → (r : Row) → Ready (length t) r → plan t r ≡ make r
    → ((i : ℕ) → i < length t → row_at t i ≡ r → ⊥) → Canonical C (t ++ (r ∷ []))
canonical-append {C} {t} w r h e none =
    record {
      long = omega (arith, w.long, size);
      leaf-at = λ i p. old i (omega (arith, w.long)) ∙ w.leaf-at i p;
      earlier = λ i p q. elim (dec_lt i (length t)) [
        | yes g ↦ rw (old i g) (w.earlier i p g)
        | no g ↦ let z : i ≡ length t = omega (arith, size) in rw (z, last)
            (ready-below (length t) r h)
      ];
      normal = λ i p q. elim (dec_lt i (length t)) [
        | yes g ↦ rw (old i g)
            (plan-kept t (t ++ (r ∷ [])) old (row_at t i) (below_more i (length t) (row_at t i) (omega arith) (w.earlier i p g))
            ∙ w.normal i p g)
        | no g ↦ let z : i ≡ length t = omega (arith, size) in rw (z, last)
            (plan-kept t (t ++ (r ∷ [])) old r (ready-below (length t) r h) ∙ e)
      ];
      distinct = λ i j p q d. elim (dec_lt j (length t)) [
        | yes g ↦ w.distinct i j p g (sym (old i (omega arith)) ∙ d ∙ old j g)
        | no g ↦ let z : j ≡ length t = omega (arith, size) in none i (omega arith)
            (sym (old i (omega arith)) ∙ d ∙ ap (row_at (t ++ (r ∷ []))) z ∙ last)
      ];
    }
  where
    size : length (t ++ (r ∷ [])) ≡ length t + 1
    size = length-append t (r ∷ [])

    old : (i : ℕ) → i < length t → row_at (t ++ (r ∷ [])) i ≡ row_at t i
    old i p = get_or-append t (r ∷ []) (leaf 0) i p

    last : row_at (t ++ (r ∷ [])) (length t) ≡ r
    last = get_or-append_seam t r [] (leaf 0)

-- Adding an operation over rows that stand is sound.
pub add_sound : {C : ℕ} {t : List Row} → Canonical C t → (r : Row) → Ready (length t) r → Sound C (add t r) (λ s. meaning t s r)
add_sound {C} {t} w r h = go (plan t r) (plan-right w r h)
  where
    put : (q : Row) → Right t r (make q) → Inserts t q → Sound C (settle t (make q)) (λ s. meaning t s r)
    put q g (stood a b c) = record {
      canonical = rw a w;
      low = rw a b;
      val = λ s. rw a (canonical-value w s (find t q) b ∙ ap (meaning t s) c ∙ g.1 s);
    }
    put q g (fresh a b c) =
        let w' : Canonical C (t ++ (q ∷ [])) = canonical-append w q g.0 g.2 c in
        let more : Ext t (t ++ (q ∷ [])) = record { more = q ∷ []; is = refl } in
        let below : Below (length t) q = ready-below (length t) q g.0 in
        record {
          canonical = rw a w';
          low = rw (a, b) (omega (arith, length-append t (q ∷ [])));
          val = λ s. rw (a, b) (value-here t [] q s below ∙ ext_meaning more s q below ∙ g.1 s);
        }

    go : (p : Plan) → Right t r p → Sound C (settle t p) (λ s. meaning t s r)
    go (have i) g = record { canonical = w; low = g.0; val = g.1 }
    go (make q) g = put q g (inserts t q)

-- The table before any operation is canonical.
pub base-canonical : (C : ℕ) → Canonical C (base C)
base-canonical C = record {
  long = omega (arith, size);
  leaf-at = at;
  earlier = λ i p q. absurd (omega (arith, size));
  normal = λ i p q. absurd (omega (arith, size));
  distinct = λ i j p q d.
      let a : row_at (base C) i ≡ leaf i = at i (omega (arith, size)) in
      let b : row_at (base C) j ≡ leaf j = at j (omega (arith, size)) in
      let z : i ≡ j = cc in
      omega arith;
}
  where
    size : length (base C) ≡ 2 + C
    size = length-base C

    at : (i : ℕ) → i < 2 + C → row_at (base C) i ≡ leaf i
    at i h = base-at C i h

-- ---- what a plan to make the very row tells

pub plan_not-made : (a : ℕ) (r : Row) → plan_not a r ≡ make (inv a) → (2 ≤ a) × ((b : ℕ) → r ≡ inv b → ⊥)
plan_not-made zero r e =
    let z : ◌≡◌ {A = ℕ} 0 1 = cc in
    absurd (omega arith)
plan_not-made (suc zero) r e =
    let z : ◌≡◌ {A = ℕ} 0 1 = cc in
    absurd (omega arith)
plan_not-made (suc (suc a)) r e = (omega arith, λ b p. (let z : ◌≡◌ {A = ℕ} 0 1 = cc in omega arith))

pub plan_not-normal : (a : ℕ) (r : Row) → 2 ≤ a → ((b : ℕ) → r ≡ inv b → ⊥) → plan_not a r ≡ make (inv a)
plan_not-normal zero r h n = absurd (omega arith)
plan_not-normal (suc zero) r h n = absurd (omega arith)
plan_not-normal (suc (suc a)) (leaf i) h n = refl
plan_not-normal (suc (suc a)) (inv b) h n = absurd (n b refl)
plan_not-normal (suc (suc a)) (bin o b c) h n = refl

pub plan_bin-made : (o : Bool) (a b : ℕ) (p q : Row) → plan_bin o a p b q ≡ make (bin o a b) → (2 ≤ a) × (a < b)
unfolding plan_bin
plan_bin-made o a b p q = go (eqb a (absorbing o)) refl (eqb b (absorbing o)) refl (eqb a (neutral o)) refl
    (eqb b (neutral o)) refl (eqb a b) refl
  where
    never : (i : ℕ) → have i ≡ make (bin o a b) → (2 ≤ a) × (a < b)
    never i e =
        let z : ◌≡◌ {A = ℕ} 0 1 = cc in
        absurd (omega arith)

    go : (k : Bool) → eqb a (absorbing o) ≡ k → (l : Bool) → eqb b (absorbing o) ≡ l → (m : Bool) → eqb a (neutral o) ≡ m
        → (n : Bool) → eqb b (neutral o) ≡ n → (c : Bool) → eqb a b ≡ c
        → cond k (have a) (cond l (have b)
        (cond m (have b) (cond n (have a) (cond c (have a) (make (bin o (min a b) (max a b))))))) ≡ make (bin o a b)
        → (2 ≤ a) × (a < b)
    go true _ l _ m _ n _ c _ e = never a e
    go false _ true _ m _ n _ c _ e = never b e
    go false _ false _ true _ n _ c _ e = never b e
    go false _ false _ false _ true _ c _ e = never a e
    go false _ false _ false _ false _ true _ e = never a e
    go false k false l false m false n false c e =
        let z : min a b ≡ a = cc in
        let ne : a ≡ b → ⊥ = eqb-false a b c in
        (no_constant o a (eqb-false a _ k) (eqb-false a _ m), omega arith)

-- A row that the rule makes, with its operands below k, is an operation over rows below k.
pub made-ready : (t : List Row) (k : ℕ) (r : Row) → Below k r → plan t r ≡ make r → Ready k r
made-ready t k (leaf i) b e =
    let z : ◌≡◌ {A = ℕ} 0 1 = cc in
    absurd (omega arith)
made-ready t k (inv a) b e = b
made-ready t k (bin o a c) b e = b

-- So is an operation row of a canonical table over earlier ones.
pub canonical-ready : {C : ℕ} {t : List Row} → Canonical C t → (k : ℕ) → 2 + C ≤ k → k < length t → Ready k (row_at t k)
canonical-ready {t = t} w k h g = made-ready t k (row_at t k) (w.earlier k h g) (w.normal k h g)
