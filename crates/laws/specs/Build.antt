-- An instruction's own set evaluates to the instruction's effect, and building only grows the table.
use Rattle.std.specs.Prelude.{ℕ, zero, suc, ◌+◌, ◌-◌, ◌≤◌, ◌<◌, ◌≡◌, refl, Bool, true, false, not, cond, List, map, eqb, ltb}
use Rattle.std.proofs.Common.{ap, ◌∙◌, arith, ltb-true}
use Rattle.std.proofs.lemmas.List.{length-map}
use Rattle.std.proofs.lemmas.Bool.{eqb-false}
use Rattle.rules.specs.Lists.{from}
use Rattle.rules.specs.Shape.{Shape, vars, flag, cells}
use Rattle.rules.specs.Expr.{Exp, con, cell, neg, bin, eval}
use Rattle.rules.specs.Instr.{Plain, INIT, NOT, TAND, TOR, PUSH, POP, DROP, DUP, FSWP, ESWP, LOAD, AND, OR, EPUSH, STORE, SET, RES, REDGE, FEDGE}
use Rattle.rules.specs.Instr.{Instr, plain, JP, JPC, JS, JSC, END, put, keep, stack, e, pushed, popped, effect, effects}
use Rattle.rules.specs.Machine.{perform}
use Rattle.rules.specs.Rows.{Row, inv, row_of_cell, value}
use Rattle.rules.specs.Sets.{after}
use Rattle.rules.specs.Build.{add_exp, own, turn_heads}
use Rattle.laws.specs.Lists.{length_from}
use Rattle.laws.specs.Canonical.{Canonical, Over, Names}
use Rattle.laws.specs.Rows.{cell-value}
use Rattle.laws.specs.Grow.{ext_refl, ext_length, ext_value, Grown, bare, plus, grown_trans, grown_ext}
use Rattle.laws.specs.Rule.{zero_is, one-is, Sound, add_sound}
use Rattle.laws.specs.After.{Acts, after-grown}
use Rattle.laws.specs.Choice.{All, Good, each-grown, each-count, each_owed, owed_acts, choice-grown}

-- ---- expressions

pub add_exp-grown : (t : List Row) (x : Exp) → Grown t (add_exp t x).tab
unfolding add_exp
add_exp-grown t (con b) = bare t
add_exp-grown t (cell c) = bare t
add_exp-grown t (neg x) = plus (add_exp-grown t x) (inv (add_exp t x).row)
add_exp-grown t (bin o x y) =
    let a = add_exp t x in
    let b = add_exp a.tab y in
    plus (grown_trans (add_exp-grown t x) (add_exp-grown a.tab y)) (Rattle.rules.specs.Rows.bin o a.row b.row)

-- The rows of an expression have its value.
pub add_exp_sound : {C : ℕ} {t : List Row} → Canonical C t → (x : Exp) → Over C x → Sound C (add_exp t x) (λ s. eval s x)
unfolding add_exp eval value
add_exp_sound w (con true) h = record { canonical = w; low = omega (arith, w.long); val = one-is w }
add_exp_sound w (con false) h = record { canonical = w; low = omega (arith, w.long); val = zero_is w }
add_exp_sound w (cell c) h = record { canonical = w; low = omega (arith, w.long); val = λ s. cell-value w s c h }
add_exp_sound {t = t} w (neg x) h =
    let a = add_exp_sound {t = t} w x h in
    let n = add_sound a.canonical (inv (add_exp t x).row) a.low in
    record { canonical = n.canonical; low = n.low; val = λ s. n.val s ∙ ap not (a.val s) }
add_exp_sound {t = t} w (bin o x y) h =
    let p = add_exp t x in
    let a = add_exp_sound {t = t} w x h.0 in
    let q = add_exp p.tab y in
    let b = add_exp_sound {t = p.tab} a.canonical y h.1 in
    let more = grown_ext (add_exp-grown p.tab y) in
    let n = add_sound b.canonical (Rattle.rules.specs.Rows.bin o p.row q.row)
    (omega (arith, a.low, ext_length more), b.low) in
    record {
      canonical = n.canonical;
      low = n.low;
      val = λ s. cc (n.val s, a.val s, b.val s, ext_value more s p.row a.low);
    }

-- ---- the table of effects names only cells

pub over-more : (v k : ℕ) (x : Exp) → v ≤ k → Over v x → Over k x
over-more v k (con b) h o = tt
over-more v k (cell c) h o = omega arith
over-more v k (neg x) h o = over-more v k x h o
over-more v k (bin p x y) h o = (over-more v k x h o.0, over-more v k y h o.1)

put-over : (k b : ℕ) (x : Exp) (g : ℕ → Exp) (c : ℕ) → Over k x → Over k (g c) → Over k (put b x g c)
unfolding put
put-over k b x g c h p = go (eqb c b)
  where
    go : (q : Bool) → Over k (cond q x (g c))
    go true = h
    go false = p

stack-over : (sh : Shape) (g : ℕ → Exp) (c : ℕ) → c < cells sh → ((k : ℕ) → k ≤ sh.depth → Over (cells sh) (g k))
    → Over (cells sh) (stack sh g c)
unfolding stack
stack-over sh g c h p = go (ltb (flag sh) c) refl
  where
    go : (q : Bool) → ltb (flag sh) c ≡ q → Over (cells sh) (cond q (g (c - flag sh)) (cell c))
    go true e = p (c - flag sh) (omega (arith, ltb-true (flag sh) c e))
    go false e = h

cond_over : (k : ℕ) (b : Bool) (x y : Exp) → Over k x → (b ≡ false → Over k y) → Over k (cond b x y)
cond_over k true x y h p = h
cond_over k false x y h p = p refl

pushed-over : (sh : Shape) (x : Exp) (c : ℕ) → c < cells sh → Over (cells sh) x → Over (cells sh) (pushed sh x c)
unfolding pushed
pushed-over sh x c h o = stack-over sh _ c h (λ k p. cond_over (cells sh) (eqb k 1) x (e sh (k - 1)) o (λ n. omega arith))

popped-over : (sh : Shape) (c : ℕ) → c < cells sh → Over (cells sh) (popped sh c)
unfolding popped
popped-over sh c h = stack-over sh _ c h
    (λ k p. cond_over (cells sh) (eqb k sh.depth) (con false) (e sh (suc k)) tt (λ q. let n : k ≡ sh.depth
    → ⊥ = eqb-false k sh.depth q in omega arith))

-- Every cell's expression names only cells.
effect-over : (sh : Shape) → 2 ≤ sh.depth → (p : Plain) → Names (vars sh) p → (c : ℕ) → c < cells sh
    → Over (cells sh) (effect sh p c)
unfolding effect
effect-over sh d INIT n c h = put-over (cells sh) (flag sh) (con true) _ c tt (stack-over sh _ c h (λ k p. tt))
effect-over sh d NOT n c h = put-over (cells sh) (flag sh) _ keep c (omega arith) h
effect-over sh d TAND n c h = put-over (cells sh) (flag sh) _ keep c (omega arith, omega arith) h
effect-over sh d TOR n c h = put-over (cells sh) (flag sh) _ keep c (omega arith, omega arith) h
effect-over sh d PUSH n c h = pushed-over sh _ c h (omega arith)
effect-over sh d POP n c h = put-over (cells sh) (flag sh) _ (popped sh) c (omega arith) (popped-over sh c h)
effect-over sh d DROP n c h = popped-over sh c h
effect-over sh d DUP n c h = pushed-over sh _ c h (omega arith)
effect-over sh d FSWP n c h = put-over (cells sh) (flag sh) _ _ c (omega arith)
    (put-over (cells sh) (flag sh + 1) _ keep c (omega arith) h)
effect-over sh d ESWP n c h = put-over (cells sh) (flag sh + 1) _ _ c (omega arith)
    (put-over (cells sh) (flag sh + 2) _ keep c (omega arith) h)
effect-over sh d (LOAD x) n c h = put-over (cells sh) (flag sh) x keep c (over-more (vars sh) (cells sh) x (omega arith) n) h
effect-over sh d (AND x) n c h = put-over (cells sh) (flag sh) _ keep c
    (omega arith, over-more (vars sh) (cells sh) x (omega arith) n) h
effect-over sh d (OR x) n c h = put-over (cells sh) (flag sh) _ keep c
    (omega arith, over-more (vars sh) (cells sh) x (omega arith) n) h
effect-over sh d (EPUSH x) n c h = pushed-over sh x c h (over-more (vars sh) (cells sh) x (omega arith) n)
effect-over sh d (STORE b) n c h = put-over (cells sh) b _ keep c (omega arith) h
effect-over sh d (SET b) n c h = put-over (cells sh) b _ keep c (omega arith, omega arith) h
effect-over sh d (RES b) n c h = put-over (cells sh) b _ keep c (omega arith, omega arith) h
effect-over sh d (REDGE b) n c h = put-over (cells sh) (flag sh) _ _ c (omega arith, omega arith)
    (put-over (cells sh) b _ keep c (omega arith) h)
effect-over sh d (FEDGE b) n c h = put-over (cells sh) (flag sh) _ _ c (omega arith, omega arith)
    (put-over (cells sh) b _ keep c (omega arith) h)

all_map-from : {A : Type 0} (P : A → Type 0) (g : ℕ → A) (i n : ℕ) → ((c : ℕ) → c < i + n → P (g c)) → All P (map g (from i n))
unfolding from
all_map-from P g i zero h = tt
all_map-from P g i (suc n) h = (h i (omega arith), all_map-from P g (suc i) n (λ c p. h c (omega arith)))

-- ---- an instruction's own set

pub own-grown : (t : List Row) (sh : Shape) (p : Plain) → Grown t (own t sh p).tab
unfolding own
own-grown t sh p = each-grown add_exp add_exp-grown t (effects sh p)

-- An instruction's own set evaluates to what the instruction does.
pub own_acts : (t : List Row) (sh : Shape) → 2 ≤ sh.depth → Canonical (cells sh) t → (p : Plain) → Names (vars sh) p
    → Acts (cells sh) (own t sh p) (perform sh p)
unfolding own effects perform
own_acts t sh d w p n =
    let xs = map (effect sh p) (from 0 (cells sh)) in
    owed_acts (each_owed add_exp add_exp-grown t eval xs good t (ext_refl t) w)
    (each-count add_exp add_exp-grown t xs ∙ length-map (from 0 (cells sh)) (effect sh p) ∙ length_from 0 (cells sh))
  where
    good : All (Good (cells sh) add_exp t eval) (map (effect sh p) (from 0 (cells sh)))
    good = all_map-from (Good (cells sh) add_exp t eval) (effect sh p) 0 (cells sh)
        (λ c h u q v. add_exp_sound v (effect sh p c) (effect-over sh d p n c (omega arith)))

-- ---- tables only grow

pub turn_heads-grown : (sh : Shape) (i : ℕ) (x : Instr) (t : List Row) (T : ℕ → List ℕ) → Grown t (turn_heads sh i x t T).tab
turn_heads-grown sh i (plain p) t T =
    let o = own t sh p in
    grown_trans (own-grown t sh p) (after-grown o.tab o.heads o.tab (T (suc i)))
turn_heads-grown sh i (JP l) t T = bare t
turn_heads-grown sh i (JPC l) t T = choice-grown t (row_of_cell (flag sh)) (T l) (T (suc i))
turn_heads-grown sh i (JS l) t T = after-grown t (T l) t (T (suc i))
turn_heads-grown sh i (JSC l) t T =
    let a = after t (T l) t (T (suc i)) in
    grown_trans (after-grown t (T l) t (T (suc i))) (choice-grown a.tab (row_of_cell (flag sh)) a.heads (T (suc i)))
turn_heads-grown sh i END t T = own-grown t sh INIT
