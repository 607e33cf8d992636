-- What an answer that meets an operation's contract tells: the rules' own answer, and what the lent bytes hold.
use Rattle.std.specs.Prelude.{ℕ, ◌≡◌, refl, Bool, List, length, take, drop}
use Rattle.std.proofs.Common.{sym, ap, ◌∙◌, arith}
use Rattle.std.proofs.Math.Seq.{take-append_seam, drop-append_seam}
use Rattle.rules.specs.Verdict.{Verdict, granted, refused, ◌>>=◌}
use Rattle.rules.specs.Operations.{storage_bytes, storage_after, output_after}
use Rattle.base.specs.Answers.{refused_by}
use Rattle.base.specs.declared.refusal.Refusal.{Refusal}
use Rattle.writer.specs.Writes.{length_of}

-- Of an operation that writes: the bytes at the front of the output are those that the rules hand back, and the rest is as it was.
pub record Wrote (v : Verdict (List ℕ)) (n : ℕ) (before after : List ℕ) : Type 0 where
  pub front : v ≡ granted (take n after)
  pub rest : drop n after ≡ drop n before

pub wrote : (v : Verdict (List ℕ)) (n : ℕ) (before after : List ℕ) → granted n ≡ length_of v → after ≡ output_after v before
    → Wrote v n before after
wrote (granted bytes) n before after e q =
    let size : n ≡ length bytes = cc in
    rw (q, size) (record {
      front = ap granted (sym (take-append_seam bytes (drop (length bytes) before)));
      rest = drop-append_seam bytes (drop (length bytes) before);
    })
wrote (refused k p) n before after e q =
    let z : ◌≡◌ {A = ℕ} 0 1 = cc in
    absurd (omega arith)

-- R46: a refusal is the rules' refusal, whatever part of a granted answer is told.
pub refused_so : {A B : Type 0} (v : Verdict A) (g : A → B) (x : Refusal) → refused_by x ≡ (v >>= λ a. granted (g a)) → v ≡ refused_by x
refused_so (granted a) g x e =
    let z : ◌≡◌ {A = ℕ} 0 1 = cc in
    absurd (omega arith)
refused_so (refused n p) g x e = cc

-- R52: it leaves the output as it came, and so a storage.
pub output-kept : (v : Verdict (List ℕ)) (x : Refusal) (before after : List ℕ) → v ≡ refused_by x → after ≡ output_after v before
    → after ≡ before
output-kept v x before after e q = q ∙ rw e

pub storage-kept : {A : Type 0} (v : Verdict A) (of : A → List Bool) (x : Refusal) (before after : List ℕ) → v ≡ refused_by x
    → after ≡ storage_after of v before → after ≡ before
storage-kept v of x before after e q = q ∙ rw e

-- A granted answer of which a part is told: there is one, with that part, and the storage it leaves.
pub record Granted {A B : Type 0} (v : Verdict A) (g : A → B) (of : A → List Bool) (b : B) (after : List ℕ) : Type 0 where
  pub what : A
  pub is : v ≡ granted what
  pub told : g what ≡ b
  pub leaves : after ≡ storage_bytes (of what)

pub granted_so : {A B : Type 0} (v : Verdict A) (g : A → B) (of : A → List Bool) (b : B) (before after : List ℕ)
    → granted b ≡ (v >>= λ a. granted (g a))
    → after ≡ storage_after of v before → Granted v g of b after
granted_so (granted a) g of b before after e q = record { what = a; is = refl; told = cc; leaves = q }
granted_so (refused n p) g of b before after e q =
    let z : ◌≡◌ {A = ℕ} 0 1 = cc in
    absurd (omega arith)
