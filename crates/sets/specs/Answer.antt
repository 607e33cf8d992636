-- The answer to a set file: the header's, or that of what follows; what it tells a caller; and that there is one only.
use Rattle.std.specs.Prelude.{ℕ, ◌+◌, ◌≤◌, ◌≡◌, Ok, Err, refl, Bool, true, false, List, length, ltb}
use Rattle.std.proofs.Math.Path.{sym}
use Rattle.std.proofs.Common.{ap, ◌∙◌, arith}
use Rattle.rules.specs.Verdict.{Verdict, granted, refused, refuse_if, ◌>>=◌}
use Rattle.rules.specs.Edition.{old, count_at, most_rows}
use Rattle.rules.specs.Shape as R
use Rattle.rules.specs.SetFile.{TransferSet, leaves, row_place, check_rows, read_set}
use Rattle.laws.specs.Verdict.{bind_granted}
use Rattle.laws.specs.Shape.{header-granted}
use Rattle.laws.specs.SetFile.{Accepted, read-accepted}
use Rattle.base.specs.Answers.{Answer, shape_of, refused_by, verdict_of}
use Rattle.base.specs.declared.shape.Shape.{Shape}
use Rattle.base.specs.declared.refusal.Refusal.{Refusal}
use Rattle.base.specs.Refusals.{answer_only}
use Rattle.program.specs.Stages.{header_verdict}
use Rattle.sets.specs.Judging.{set_verdict, rest_verdict}
use Rattle.sets.specs.Spelt.{rows_in, set_with}

-- ---- the header, and what follows it

-- A chain of checks that hands back nothing of what it read.
chain : (a b c : Bool) (i j k p q s : ℕ) (v : Verdict (Unit {0})) (z : TransferSet)
    → ((refuse_if a i p >>= λ _. refuse_if b j q >>= λ _. refuse_if c k s >>= λ _. v >>= λ _. granted z) >>= λ _. granted tt)
    ≡ (refuse_if a i p >>= λ _. refuse_if b j q >>= λ _. refuse_if c k s >>= λ _. v)
chain true b c i j k p q s v z = refl
chain false true c i j k p q s v z = refl
chain false false true i j k p q s v z = refl
chain false false false i j k p q s (granted u) z = refl
chain false false false i j k p q s (refused n m) z = refl

module _ (file : List ℕ) (r : Answer Shape) (h : header_verdict r ≡ R.read_header old 2 file) where
  -- R49: a header that is refused is the answer.
  pub set-header : (x : Refusal) → r ≡ Err x → refused_by x ≡ set_verdict file
  unfolding set_verdict read_set
  set-header x z = rw (← h, z)

  module _ (s : Shape) (z : r ≡ Ok s) where
    -- R7: a header that was read is whole.
    pub set_long : 7 ≤ length file
    set_long = (header-granted old 2 file (shape_of s) (sym (rw z at h))).long

    -- R49: after a header that was read, the rest gives the answer.
    pub set_rest : (k : Answer (Unit {0})) → verdict_of k ≡ rest_verdict file (shape_of s) → verdict_of k ≡ set_verdict file
    unfolding set_verdict read_set rest_verdict
    set_rest k c =
        let sh = shape_of s in
        let n = rows_in file in
        rw (← h, z)
        (c ∙ sym (chain (ltb most_rows (leaves sh + n)) (ltb (length file) (row_place old sh n)) (ltb (row_place old sh n) (length file))
        3 1 4 (count_at old) (length file) (row_place old sh n) (check_rows old (set_with file sh) n) (set_with file sh)))

-- ---- what an answer tells

-- R49: a file whose check is granted has been checked whole.
pub set-accepted : (file : List ℕ) (r : Answer (Unit {0})) → verdict_of r ≡ set_verdict file → r ≡ Ok tt
    → Accepted old file (R.shape_at old file) (rows_in file)
unfolding set_verdict
set-accepted file r c g =
    let read = bind_granted (read_set old file) (λ _. granted tt) (sym c ∙ ap verdict_of g) in
    let (sh, n, a, is) = read-accepted old file read.0 read.1 in
    let shape : R.shape_at old file ≡ sh = (header-granted old 2 file sh a.header).is in
    rw (shape, a.counted) a

-- R49: a file whose check is refused is refused so by the rules.
pub set-refused : (file : List ℕ) (n p : ℕ) → set_verdict file ≡ refused n p → read_set old file ≡ refused n p
unfolding set_verdict
set-refused file n p = go (read_set old file)
  where
    go : (v : Verdict TransferSet) → (v >>= λ _. granted (tt {0})) ≡ refused n p → v ≡ refused n p
    go (granted z) e =
        let y : ◌≡◌ {A = ℕ} 0 1 = cc in
        absurd (omega arith)
    go (refused m q) e =
        let x : m ≡ n = cc in
        let y : q ≡ p = cc in
        rw (x, y) refl

-- R46, R47: two answers that meet the contract for the same file are the same answer.
pub check_set_only : (file : List ℕ) (r r' : Answer (Unit {0})) → verdict_of r ≡ set_verdict file → verdict_of r' ≡ set_verdict file
    → r ≡ r'
check_set_only file = answer_only (set_verdict file)
