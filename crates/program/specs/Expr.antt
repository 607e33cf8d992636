-- Reading an expression for the place after it: a law for each way in which `read_expr` answers.
use Prim.Native.Nat.{ℕ, zero, suc, ◌+◌, ◌≤◌, ◌<◌}
use Rattle.std.specs.Prelude.{◌≡◌, Ok, Err, List, length, get_or}
use Rattle.std.proofs.Math.Path.{refl}
use Rattle.std.proofs.Common.{sym, arith, add-one}
use borrow.Author.Tests.{le-leb, lt-leb}
use Rattle.rules.specs.Verdict.{Verdict, granted, refused, ◌>>=◌}
use Rattle.rules.specs.Expr.{Exp, Read, Announced, leaf, one, two, bad, announced, read_operands, read_expr}
use Rattle.base.specs.Answers.{Answer, verdict_of}
use Rattle.base.specs.declared.refusal.Refusal.{Refusal}
use Rattle.base.specs.declared.refusal.Refusal.TheVariants.{EndsEarly, BadExpression}
use Rattle.program.specs.declared.expr.Operands.{Operands}
use Rattle.program.specs.declared.expr.Operands.TheVariants.{Zero, One, Two, Bad}
use Rattle.program.specs.Stages.{ends, operands_of}
use Rattle.program.specs.Chains.{ends_then, ends-made}

-- R11, R48: what reading the expression at p answers, however deep nesting may go, and that it moves on.
pub record Skips (file : List ℕ) (v stop p : ℕ) (r : Answer ℕ) : Type 0 where
  pub is : (k : ℕ) → stop ≤ p + k → verdict_of r ≡ ends (read_expr k file v stop p)
  pub on : (q : ℕ) → r ≡ Ok q → p < q

-- R11: where an expression ends whose first byte stands at p; `rec` says where an operand ends.
abbrev after : Operands → ℕ → (ℕ → Verdict ℕ) → Verdict ℕ
after Zero p rec = granted (suc p)
after One p rec = rec (suc p)
after Two p rec = rec (suc p) >>= rec
after Bad p rec = refused 6 p

operands_end : (a : Announced) (p : ℕ) (rec : ℕ → Verdict (Read Exp))
    → ends (read_operands a p rec) ≡ after (operands_of a) p (λ q. ends (rec q))
operands_end (leaf x) p rec = refl
operands_end one p rec = ends-made (rec (suc p)) _
operands_end (two o) p rec = ends_then (rec (suc p)) _ _ (λ x. ends-made (rec x.next) _)
operands_end bad p rec = refl

-- No refusal is a place.
no_place : {x : Refusal} {q : ℕ} {A : Type 0} → Err x ≡ Ok q → A
no_place {x} {q} e =
    let z : ◌≡◌ {A = ℕ} 0 1 = cc in
    absurd (omega arith)

module _ (file : List ℕ) (v stop p : ℕ) where
  -- R48: `stop` is reached.
  pub skip_stop : stop ≤ p → Skips file v stop p (Err (BadExpression stop))
  unfolding read_expr
  skip_stop h = record { is = go; on = λ q e. no_place e }
    where
      go : (k : ℕ) → stop ≤ p + k → refused 6 stop ≡ ends (read_expr k file v stop p)
      go zero f = refl
      go (suc k) f = rw (le-leb stop p h)

  -- R48: the file has ended.
  pub skip_short : p < stop → length file ≤ p → Skips file v stop p (Err (EndsEarly (length file)))
  unfolding read_expr
  skip_short h l = record { is = go; on = λ q e. no_place e }
    where
      go : (k : ℕ) → stop ≤ p + k → refused 1 (length file) ≡ ends (read_expr k file v stop p)
      go zero f = absurd (omega arith)
      go (suc k) f = rw (lt-leb stop p h, le-leb (length file) p l)

  module _ (h : p < stop) (l : p < length file) where
    -- R11: the first byte is there. What is left is to read the operands that it announces.
    skip_first : (o : Operands) (r : Answer ℕ) → o ≡ operands_of (announced v (get_or file p 0))
        → ((k : ℕ) → stop ≤ suc p + k → verdict_of r ≡ after o p (λ q. ends (read_expr k file v stop q)))
        → ((q : ℕ) → r ≡ Ok q → p < q) → Skips file v stop p r
    unfolding read_expr
    skip_first o r e rest on = record { is = go; on = on }
      where
        go : (k : ℕ) → stop ≤ p + k → verdict_of r ≡ ends (read_expr k file v stop p)
        go zero f = absurd (omega arith)
        go (suc k) f =
            let a = announced v (get_or file p 0) in
            rw (lt-leb stop p h, lt-leb (length file) p l, operands_end a p (read_expr k file v stop), ← e) (rest k (omega arith))

    -- R11: where the first operand ends.
    operand : (x : Answer ℕ) → Skips file v stop (p + 1) x → (k : ℕ) → stop ≤ suc p + k
        → ends (read_expr k file v stop (suc p)) ≡ verdict_of x
    operand x s k f = sym (rw add-one at (s.is k (omega arith)))

    -- R11: it is a whole expression.
    pub skip-leaf : Zero ≡ operands_of (announced v (get_or file p 0)) → Skips file v stop p (Ok (p + 1))
    skip-leaf e = skip_first Zero _ e (λ k f. rw add-one) (λ q z. let w : p + 1 ≡ q = cc in omega arith)

    -- R11: one operand follows.
    pub skip-one : (r : Answer ℕ) → One ≡ operands_of (announced v (get_or file p 0)) → Skips file v stop (p + 1) r
        → Skips file v stop p r
    skip-one r e s =
        skip_first One r e (λ k f. sym (operand r s k f)) (λ q z. omega (arith, s.on q z))

    -- R11: two operands follow, and the first of them ends.
    pub skip-two : (x r : Answer ℕ) (a : ℕ) → Two ≡ operands_of (announced v (get_or file p 0)) → Skips file v stop (p + 1) x
        → x ≡ Ok a → Skips file v stop a r → Skips file v stop p r
    skip-two x r a e s z t =
        let m = s.on a z in
        skip_first Two r e
        (λ k f. rw (operand x s k f, z) (t.is k (omega arith)))
        (λ q w. omega (arith, t.on q w))

    -- R11: two operands follow, and the first of them is refused.
    pub skip-refused : (x : Answer ℕ) (n : Refusal) → Two ≡ operands_of (announced v (get_or file p 0)) → Skips file v stop (p + 1) x
        → x ≡ Err n → Skips file v stop p (Err n)
    skip-refused x n e s z = skip_first Two _ e (λ k f. rw (operand x s k f, z)) (λ q w. no_place w)

    -- R11: there is no such byte.
    pub skip-bad : Bad ≡ operands_of (announced v (get_or file p 0)) → Skips file v stop p (Err (BadExpression p))
    skip-bad e = skip_first Bad _ e (λ k f. refl) (λ q z. no_place z)
