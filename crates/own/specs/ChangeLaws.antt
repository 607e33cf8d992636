-- The changes that the code has for each code are what the instructions do, and its heads are the rows of those changes.
use Prim.Native.Nat.{ℕ, suc, ◌+◌, ◌-◌, ◌≤◌, ◌<◌}
use Rattle.std.specs.Prelude.{◌≡◌, Bool, true, false, cond, ◌⊎◌, eqb, ltb}
use Rattle.std.proofs.Math.Path.{refl, sym, ap}
use Rattle.std.proofs.Common.{◌∙◌, inl, inr}
use native.Mathlib.Omega.{arith}
use Rattle.std.proofs.Math.Decide.{dec_lt}
use borrow.Author.Tests.{lt-ltb, le-ltb, eq-eqb, ne_eqb}
use Rattle.rules.specs.Shape.{Shape, vars, flag, cells}
use Rattle.rules.specs.Expr.{Exp, con, cell}
use Rattle.rules.specs.Instr.{Plain, INIT, NOT, TAND, TOR, PUSH, POP, DROP, DUP, FSWP, ESWP, LOAD, AND, OR, EPUSH, STORE, SET, RES, REDGE, FEDGE}
use Rattle.rules.specs.Instr.{put, keep, stack, e, pushed, popped, effect}
use Rattle.laws.specs.Own.{Simple, simple_row}
use Rattle.base.specs.declared.kinds.Cell.{Cell}
use Rattle.reader.specs.declared.code.AloneCode.{AloneCode}
use Rattle.reader.specs.declared.code.AloneCode.TheVariants.{Init, Not, Tand, Tor, Push, Pop, Drop, Dup, End}
use Rattle.reader.specs.declared.code.ValueCode.{ValueCode}
use Rattle.reader.specs.declared.code.ValueCode.TheVariants.{Load, And, Or}
use Rattle.reader.specs.declared.code.VariableCode.{VariableCode}
use Rattle.reader.specs.declared.code.VariableCode.TheVariants.{Store, Set, Res, Redge, Fedge}
use Rattle.reader.specs.Codes.{alone_of, on_expr, on_variable}
use Rattle.own.specs.declared.heads.Move.{Move}
use Rattle.own.specs.declared.heads.Move.TheVariants.{Kept, Pushed, Popped, Reset}
use Rattle.own.specs.declared.heads.Change.{Change}
use Rattle.own.specs.Changes.{place_of, moved_by, rest_by, One, Changes}

-- ---- the parts of an effect at a cell

pub put-here : (b : ℕ) (x : Exp) (g : ℕ → Exp) → put b x g b ≡ x
unfolding put
put-here b x g = rw (eq-eqb b b refl)

pub put_other : (b : ℕ) (x : Exp) (g : ℕ → Exp) (c : ℕ) → (c ≡ b → ⊥) → put b x g c ≡ g c
unfolding put
put_other b x g c h = rw (ne_eqb c b h)

pub stack_at : (sh : Shape) (g : ℕ → Exp) (c : ℕ) → flag sh < c → stack sh g c ≡ g (c - flag sh)
unfolding stack
stack_at sh g c h = rw (lt-ltb (flag sh) c h)

pub stack-below : (sh : Shape) (g : ℕ → Exp) (c : ℕ) → c ≤ flag sh → stack sh g c ≡ cell c
unfolding stack
stack-below sh g c h = rw (le-ltb (flag sh) c h)

pub pushed-here : (sh : Shape) (x : Exp) → pushed sh x (flag sh + 1) ≡ x
unfolding pushed
pushed-here sh x =
    let z : flag sh + 1 - flag sh ≡ 1 = omega arith in
    stack_at sh _ (flag sh + 1) (omega arith) ∙ rw z

pushed_other : (sh : Shape) (x : Exp) (c : ℕ) → (c ≡ flag sh + 1 → ⊥) → pushed sh x c ≡ moved_by sh Pushed c
unfolding pushed
pushed_other sh x c h = elim (dec_lt (flag sh) c) [
  | yes l ↦
      let n : c - flag sh ≡ 1 → ⊥ = λ q. h (omega arith) in
      stack_at sh _ c l ∙ rw (ne_eqb (c - flag sh) 1 n) (sym (stack_at sh _ c l))
  | no l ↦ stack-below sh _ c (omega arith) ∙ sym (stack-below sh _ c (omega arith))
]

-- Every cell gets a constant or a cell by a move.
stack-simple : (sh : Shape) (g : ℕ → Exp) (c : ℕ) → ((k : ℕ) → Simple (g k)) → Simple (stack sh g c)
unfolding stack
stack-simple sh g c h = go (ltb (flag sh) c)
  where
    go : (q : Bool) → Simple (cond q (g (c - flag sh)) (cell c))
    go true = h (c - flag sh)
    go false = tt

cond-simple : (b : Bool) (x y : Exp) → Simple x → Simple y → Simple (cond b x y)
cond-simple true x y h g = h
cond-simple false x y h g = g

moved-simple : (sh : Shape) (m : Move) (c : ℕ) → Simple (moved_by sh m c)
unfolding popped
moved-simple sh Kept c = tt
moved-simple sh Pushed c = stack-simple sh _ c (λ k. tt)
moved-simple sh Popped c = stack-simple sh _ c (λ k. cond-simple (eqb k sh.depth) (con false) (e sh (suc k)) tt tt)
moved-simple sh Reset c = stack-simple sh _ c (λ k. tt)

pub rest-simple : (sh : Shape) (x : Change) (c : ℕ) → Simple (rest_by sh x c)
unfolding put
rest-simple sh x c = cond-simple (eqb c x.target.0) _ _ tt (moved-simple sh x.stack c)

-- ---- changes by their code

module _ (sh : Shape) (d : 2 ≤ sh.depth) where
  -- A move and the main cell.
  one_changes : (p : Plain) (x : Change) (m : Move) (k : Cell) → One x m k → k.0 ≡ place_of sh p → k.0 < cells sh
      → ((c : ℕ) → (c ≡ place_of sh p → ⊥) → effect sh p c ≡ moved_by sh m c) → Changes sh p x
  one_changes p x m k o at low rest = rw (o.0, o.1, o.2, o.3) (record {
    source = low;
    target = low;
    main = low;
    place = at;
    rest = λ c n. rest c (λ q. n (q ∙ sym at)) ∙ sym (put_other k.0 (cell k.0) (moved_by sh m) c n);
  })

  pub change_reset : (code : AloneCode) (x : Change) (f : Cell) → f.0 ≡ flag sh → One x Reset f → (code ≡ Init) ⊎ (code ≡ End)
      → Changes sh (alone_of code) x
  unfolding effect place_of
  change_reset code x f q o (inl z) = rw z (one_changes INIT x Reset f o q (omega arith) (λ c n. put_other (flag sh) _ _ c n))
  change_reset code x f q o (inr z) = rw z (one_changes INIT x Reset f o q (omega arith) (λ c n. put_other (flag sh) _ _ c n))

  pub change_flag : (code : AloneCode) (x : Change) (f : Cell) → f.0 ≡ flag sh → One x Kept f
      → (code ≡ Not) ⊎ ((code ≡ Tand) ⊎ (code ≡ Tor)) → Changes sh (alone_of code) x
  unfolding effect place_of
  change_flag code x f q o (inl z) = rw z (one_changes NOT x Kept f o q (omega arith) (λ c n. put_other (flag sh) _ keep c n))
  change_flag code x f q o (inr (inl z)) = rw z (one_changes TAND x Kept f o q (omega arith) (λ c n. put_other (flag sh) _ keep c n))
  change_flag code x f q o (inr (inr z)) = rw z (one_changes TOR x Kept f o q (omega arith) (λ c n. put_other (flag sh) _ keep c n))

  pub change_push : (code : AloneCode) (x : Change) (f : Cell) → f.0 ≡ flag sh + 1 → One x Pushed f → (code ≡ Push) ⊎ (code ≡ Dup)
      → Changes sh (alone_of code) x
  unfolding effect place_of
  change_push code x f q o (inl z) = rw z (one_changes PUSH x Pushed f o q (omega arith) (λ c n. pushed_other sh _ c n))
  change_push code x f q o (inr z) = rw z (one_changes DUP x Pushed f o q (omega arith) (λ c n. pushed_other sh _ c n))

  pub change_pop : (code : AloneCode) (x : Change) (f : Cell) → f.0 ≡ flag sh → One x Popped f → (code ≡ Pop) ⊎ (code ≡ Drop)
      → Changes sh (alone_of code) x
  unfolding effect place_of
  change_pop code x f q o (inl z) = rw z (one_changes POP x Popped f o q (omega arith) (λ c n. put_other (flag sh) _ _ c n))
  change_pop code x f q o (inr z) = rw z (one_changes DROP x Popped f o q (omega arith) (λ c n. refl))

  pub change_fswp : (f : Cell) → f.0 ≡ flag sh
      → Changes sh FSWP (record { stack = Kept; source = f; target = record { 0 = f.0 + 1 }; main = f })
  unfolding effect place_of
  change_fswp f q = record {
    source = omega arith;
    target = omega arith;
    main = omega arith;
    place = q;
    rest = λ c n. rw q (put_other (flag sh) _ _ c (λ r. n (r ∙ sym q)));
  }

  pub change_eswp : (f : Cell) → f.0 ≡ flag sh → Changes sh ESWP (record {
    stack = Kept;
    source = record { 0 = f.0 + 1 };
    target = record { 0 = f.0 + 2 };
    main = record { 0 = f.0 + 1 };
  })
  unfolding effect place_of
  change_eswp f q = record {
    source = omega arith;
    target = omega arith;
    main = omega arith;
    place = omega arith;
    rest = λ c n. rw q (put_other (flag sh + 1) _ _ c (λ r. n (omega arith)));
  }

  pub change_load : (code : ValueCode) (x : Change) (f : Cell) → f.0 ≡ flag sh → One x Kept f
      → (code ≡ Load) ⊎ ((code ≡ And) ⊎ (code ≡ Or)) → (y : Exp) → Changes sh (on_expr code y) x
  unfolding effect place_of
  change_load code x f q o (inl z) y = rw z (one_changes (LOAD y) x Kept f o q (omega arith) (λ c n. put_other (flag sh) _ keep c n))
  change_load code x f q o (inr (inl z)) y = rw z (one_changes (AND y) x Kept f o q (omega arith) (λ c n. put_other (flag sh) _ keep c n))
  change_load code x f q o (inr (inr z)) y = rw z (one_changes (OR y) x Kept f o q (omega arith) (λ c n. put_other (flag sh) _ keep c n))

  pub change_epush : (x : Change) (f : Cell) → f.0 ≡ flag sh + 1 → One x Pushed f → (y : Exp) → Changes sh (EPUSH y) x
  unfolding effect place_of
  change_epush x f q o y = one_changes (EPUSH y) x Pushed f o q (omega arith) (λ c n. pushed_other sh _ c n)

  -- The instructions that take a variable.
  module _ (code : VariableCode) (f b : Cell) (q : f.0 ≡ flag sh) (low : b.0 < vars sh) where
    pub change_store : (code ≡ Store) ⊎ ((code ≡ Set) ⊎ (code ≡ Res))
        → Changes sh (on_variable code b.0) (record { stack = Kept; source = f; target = b; main = b })
    unfolding effect place_of
    change_store h = go h
      where
        with_rest : (p : Plain) → b.0 ≡ place_of sh p → ((c : ℕ) → (c ≡ b.0 → ⊥) → effect sh p c ≡ cell c)
            → Changes sh p (record { stack = Kept; source = f; target = b; main = b })
        with_rest p at rest = record {
          source = omega arith;
          target = omega arith;
          main = omega arith;
          place = at;
          rest = λ c n. rest c n ∙ sym (put_other b.0 (cell f.0) keep c n);
        }

        go : (code ≡ Store) ⊎ ((code ≡ Set) ⊎ (code ≡ Res))
            → Changes sh (on_variable code b.0) (record { stack = Kept; source = f; target = b; main = b })
        go (inl z) = rw z (with_rest (STORE b.0) refl (λ c n. put_other b.0 _ keep c n))
        go (inr (inl z)) = rw z (with_rest (SET b.0) refl (λ c n. put_other b.0 _ keep c n))
        go (inr (inr z)) = rw z (with_rest (RES b.0) refl (λ c n. put_other b.0 _ keep c n))

    pub change_edge : (code ≡ Redge) ⊎ (code ≡ Fedge)
        → Changes sh (on_variable code b.0) (record { stack = Kept; source = f; target = b; main = f })
    unfolding effect place_of
    change_edge h = go h
      where
        with_rest : (p : Plain) → f.0 ≡ place_of sh p → ((c : ℕ) → (c ≡ f.0 → ⊥) → effect sh p c ≡ put b.0 (cell f.0) keep c)
            → Changes sh p (record { stack = Kept; source = f; target = b; main = f })
        with_rest p at rest = record { source = omega arith; target = omega arith; main = omega arith; place = at; rest = rest }

        go : (code ≡ Redge) ⊎ (code ≡ Fedge)
            → Changes sh (on_variable code b.0) (record { stack = Kept; source = f; target = b; main = f })
        go (inl z) = rw z (with_rest (REDGE b.0) q (λ c n. rw q (put_other (flag sh) _ _ c (λ r. n (r ∙ sym q)))))
        go (inr z) = rw z (with_rest (FEDGE b.0) q (λ c n. rw q (put_other (flag sh) _ _ c (λ r. n (r ∙ sym q)))))

-- ---- heads by their move

module _ (sh : Shape) (c : ℕ) where
  pub head-kept : 2 + c ≡ simple_row (moved_by sh Kept c)
  head-kept = omega arith

  pub head-low : (m : Move) → c ≤ flag sh → 2 + c ≡ simple_row (moved_by sh m c)
  unfolding popped
  head-low Kept h = head-kept
  head-low Pushed h = head-kept ∙ ap simple_row (sym (stack-below sh _ c h))
  head-low Popped h = head-kept ∙ ap simple_row (sym (stack-below sh _ c h))
  head-low Reset h = head-kept ∙ ap simple_row (sym (stack-below sh _ c h))

  module _ (l : flag sh < c) where
    pub head-pushed : 2 + (c - 1) ≡ simple_row (moved_by sh Pushed c)
    head-pushed = rw (stack_at sh _ c l) (omega arith)

    pub head_reset : 0 ≡ simple_row (moved_by sh Reset c)
    head_reset = rw (stack_at sh _ c l) refl

    pub head-popped : c + 1 < cells sh → 2 + (c + 1) ≡ simple_row (moved_by sh Popped c)
    unfolding popped
    head-popped h =
        let n : c - flag sh ≡ sh.depth → ⊥ = λ q. omega arith in
        rw (stack_at sh _ c l, ne_eqb (c - flag sh) sh.depth n) (omega arith)

    pub head-last : c < cells sh → cells sh ≤ c + 1 → 0 ≡ simple_row (moved_by sh Popped c)
    unfolding popped
    head-last h k =
        let q : c - flag sh ≡ sh.depth = omega arith in
        rw (stack_at sh _ c l, eq-eqb (c - flag sh) sh.depth q) refl
