-- What the crate's answers mean in the words of the rules, and its two contracts.
use Rattle.std.specs.Prelude.{ℕ, ◌≡◌, Ok, Err, List, length, take, drop}
use Rattle.std.proofs.Common.{sym, ap, ◌∙◌, arith}
use Rattle.std.proofs.Math.Seq.{take-append_seam}
use Rattle.rules.specs.Verdict.{Verdict, granted, refused, ◌>>=◌}
use Rattle.rules.specs.Operations.{output_after}
use Rattle.base.specs.Answers.{Answer, refused_by, verdict_of}
use Rattle.base.specs.Refusals.{answer_only}
use Rattle.base.specs.declared.refusal.Refusal.{Refusal}

-- R59: of the bytes that the rules hand back, how many they are; the bytes are left in what was lent.
abbrev pub length_of : Verdict (List ℕ) → Verdict ℕ
length_of v = v >>= λ bytes. granted (length bytes)

-- R52, R59: the answer is that of the rules, and so is what the lent output holds after the call.
pub record Writes (v : Verdict (List ℕ)) (r : Answer ℕ) (before after : List ℕ) : Type 0 where
  pub answer : verdict_of r ≡ length_of v
  pub output : after ≡ output_after v before

-- R52: a refusal leaves the output as it came.
pub refused_writes : {v : Verdict (List ℕ)} {out : List ℕ} (x : Refusal) → v ≡ refused_by x → Writes v (Err x) out out
refused_writes x e = record { answer = rw e; output = rw e }

-- R46, R52: two results that meet the contract are the same, with the same output after.
pub writes_only : (v : Verdict (List ℕ)) (a b : Answer ℕ) (before t u : List ℕ) → Writes v a before t → Writes v b before u
    → (a ≡ b) × (t ≡ u)
writes_only v a b before t u p q =
    (answer_only _ a b p.answer q.answer, p.output ∙ sym q.output)

-- R59: what a granted call leaves at the front of the output is what the rules hand back.
pub writes_front : (v : Verdict (List ℕ)) (n : ℕ) (before after : List ℕ) → Writes v (Ok n) before after
    → v ≡ granted (take n after)
writes_front (granted bytes) n before after w =
    let size : n ≡ length bytes = cc w.answer in
    ap granted (sym (rw (w.output, size) (take-append_seam bytes (drop (length bytes) before))))
writes_front (refused k p) n before after w =
    let z : ◌≡◌ {A = ℕ} 0 1 = cc w.answer in
    absurd (omega arith)
