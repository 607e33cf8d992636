-- `announce` meets its contract: a byte is one of those that `announced` tests for, or none of them.
use native.Mathlib.Omega.{arith}
use native.Mathlib.Decide.{dec_lt}
use borrow.Author.Tests.{lt-ltb, le-ltb, eq-eqb, ne_eqb}
use Rattle.std.proofs.Common.{◌≡◌, ℕ, ◌<◌, ◌≤◌}
use Rattle.rules.specs.Expr.{announced, bad}
use Rattle.program.proofs.expr.announce.Goals as goal

pub returns-then-b-vars : goal.returns-then-b-vars
unfolding announced
returns-then-b-vars c = simp (lt-ltb _ _ c.if-b-vars.true)

pub returns-in-252 : goal.returns-in-252
unfolding announced
returns-in-252 c =
    let b = c.args.b in
    simp (
      le-ltb _ _ c.if-b-vars.false,
      ne_eqb b 250 (λ e. omega (arith, c.in-252.is)),
      ne_eqb b 251 (λ e. omega (arith, c.in-252.is)),
      eq-eqb b 252 c.in-252.is,
    )

pub returns-in-250 : goal.returns-in-250
unfolding announced
returns-in-250 c =
    let b = c.args.b in
    elim (dec_lt b 251) [
      | yes h ↦ simp (le-ltb _ _ c.if-b-vars.false, eq-eqb b 250 (omega arith))
      | no h ↦ simp (le-ltb _ _ c.if-b-vars.false, ne_eqb b 250 (λ e. omega arith), eq-eqb b 251 (omega arith))
    ]

pub returns-in-253 : goal.returns-in-253
unfolding announced
returns-in-253 c =
    let b = c.args.b in
    elim (dec_lt b 254) [
      | yes h ↦ simp (
        le-ltb _ _ c.if-b-vars.false,
        ne_eqb b 250 (λ e. omega arith),
        ne_eqb b 251 (λ e. omega arith),
        ne_eqb b 252 (λ e. omega arith),
        eq-eqb b 253 (omega arith),
      )
      | no h ↦ simp (
        le-ltb _ _ c.if-b-vars.false,
        ne_eqb b 250 (λ e. omega arith),
        ne_eqb b 251 (λ e. omega arith),
        ne_eqb b 252 (λ e. omega arith),
        ne_eqb b 253 (λ e. omega arith),
        eq-eqb b 254 (omega arith),
      )
    ]

-- No such byte.
none : (v b : ℕ) → v ≤ b → (250 ≤ b → b < 255 → ⊥) → bad ≡ announced v b
unfolding announced
none v b h out =
    simp (
      le-ltb b v h,
      ne_eqb b 250 (λ e. out (omega arith) (omega arith)),
      ne_eqb b 251 (λ e. out (omega arith) (omega arith)),
      ne_eqb b 252 (λ e. out (omega arith) (omega arith)),
      ne_eqb b 253 (λ e. out (omega arith) (omega arith)),
      ne_eqb b 254 (λ e. out (omega arith) (omega arith)),
    )

pub returns-in_default : goal.returns-in_default
returns-in_default c = rw (← none c.args.vars c.args.b c.if-b-vars.false (λ l h. omega arith))

pub returns-in_default-2 : goal.returns-in_default-2
returns-in_default-2 c = rw (← none c.args.vars c.args.b c.if-b-vars.false (λ l h. omega arith))
