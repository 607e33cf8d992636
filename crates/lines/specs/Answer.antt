-- What is printed of a set file and of a program file.
use Rattle.std.specs.Prelude.{ℕ, Ok, Err, ◌+◌, ◌≤◌, refl, List, length, take, drop}
use Rattle.std.proofs.Math.Path.{◌≡◌}
use Rattle.std.proofs.Common.{sym, ap, ◌∙◌, arith, take_all, length-take-le}
use Rattle.std.proofs.Math.Decide.{dec_lt}
use Rattle.std.proofs.Math.Seq.{take-append_seam}
use Rattle.rules.specs.Verdict.{Verdict, granted, refused, ◌>>=◌}
use Rattle.rules.specs.Edition.{old}
use Rattle.rules.specs.SetFile.{read_set}
use Rattle.rules.specs.Operations.{build}
use Rattle.rules.specs.Lines.{set_text, answer_text, tset}
use Rattle.base.specs.Answers.{Answer, number_of, place_of, refused_by, verdict_of}
use Rattle.base.specs.declared.refusal.Refusal.{Refusal}
use Rattle.sets.specs.Answer.{set-refused}
use Rattle.sets.specs.Judging.{set_verdict}
use Rattle.sets.specs.Spelt.{set_in, Taken, taken-read}
use Rattle.writer.specs.Writes.{length_of}
use Rattle.writer.specs.Put.{length-put, put_whole}
use Rattle.build.specs.Contract.{answer, Builds, built-front}
use Rattle.text.specs.Puts.{place, size, with_word}
use Rattle.text.specs.declared.word.Text.{Text}
use Rattle.text.specs.Texts.{refusal_line}

-- R61: a text that was put from the start on is what the output begins with.
pub begins : (t u : Text) (x : List ℕ) → u ≡ with_word t x → t.at ≡ 0 → place u ≤ size u → take (place u) u.out.now ≡ x
unfolding with_word place size
begins t u x q e h =
    let n : t.at + length x ≡ length x = omega arith in
    let k : length x ≤ length t.out.now = rw (← length-put t.out.now t.at x) (omega (arith, rw q at h)) in
    rw (q, n, e, put_whole t.out.now x k) (take-append_seam x (drop (length x) t.out.now))

-- ---- a set file

module _ (file : List ℕ) where
  -- R62: the text of an accepted file is that of its set.
  pub taken_text : Taken file → answer_text (read_set old file) ≡ set_text (set_in file)
  taken_text a = rw (taken-read file a) refl

  -- R63: the text of any other is its refusal.
  pub unread_text : (x : Refusal) → refused_by x ≡ set_verdict file
      → answer_text (read_set old file) ≡ refusal_line (number_of x) (place_of x)
  unread_text x e = rw (set-refused file (number_of x) (place_of x) (sym e)) refl

-- ---- a program file

module _ (file : List ℕ) {rows numbers heads : ℕ} {before after : List ℕ} (b : Answer ℕ) (n : ℕ)
    (B : Builds file rows numbers heads b before after) (e : b ≡ Ok n) where
  -- R59: what was built is what the output begins with.
  front : answer file rows numbers heads before ≡ granted (take n after)
  front = built-front file rows numbers heads n before after (rw e at B)

  pub built-inside : n ≤ length after
  built-inside =
      let size = sym (ap verdict_of e) ∙ B.answers ∙ ap length_of front in
      let k : n ≡ length (take n after) = cc size in
      elim (dec_lt (length after) n) [
        | yes p ↦ omega (arith, ap length (take_all n after (omega arith)))
        | no p ↦ omega arith
      ]

  pub built-part : n ≡ length (take n after)
  built-part = sym (length-take-le n after built-inside)

-- R62 to R64: what is printed of a program file, in the room that is fixed.
abbrev pub built_text : List ℕ → List ℕ
built_text file = answer_text (build old file 8192 8192 16384 40957 >>= read_set old)

module _ (file : List ℕ) {rows numbers heads : ℕ} {before after : List ℕ} (b : Answer ℕ)
    (B : Builds file rows numbers heads b before after)
    (lent : (rows ≡ 8192) × (numbers ≡ 8192) × (heads ≡ 16384)) (out : length before ≡ 40957) where
  -- R62: what was built prints its set.
  pub text_built : (n : ℕ) → b ≡ Ok n → built_text file ≡ answer_text (read_set old (take n after))
  text_built n e =
      let (er, en, eh) = lent in
      rw (rw (er, en, eh, out) at (front file b n B e)) refl

  -- R63: a refusal is printed.
  pub text_unbuilt : (x : Refusal) → b ≡ Err x → built_text file ≡ refusal_line (number_of x) (place_of x)
  text_unbuilt x e =
      let (er, en, eh) = lent in
      let no = refused_so (answer file rows numbers heads before) (sym (ap verdict_of e) ∙ B.answers) in
      rw (rw (er, en, eh, out) at no) refl
    where
      refused_so : (v : Verdict (List ℕ)) → refused_by x ≡ length_of v → v ≡ refused_by x
      refused_so (granted bytes) e =
          let z : ◌≡◌ {A = ℕ} 0 1 = cc in
          absurd (omega arith)
      refused_so (refused n q) e = cc

-- R64: of a file that is not cut, this is what `tset` prints.
pub built-tset : (file : List ℕ) → length file ≤ 34312 → built_text file ≡ tset file
unfolding tset
built-tset file h = rw (take_all 34312 file h) refl
