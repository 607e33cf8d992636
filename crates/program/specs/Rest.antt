-- What follows the header of a program file: a law for each answer.
use Rattle.std.specs.Prelude.{ℕ, Ok, Err, ◌+◌, ◌*◌, ◌-◌, ◌≤◌, ◌<◌, refl, Bool, true, false, not, ◌&&◌, List, length, get_or, leb, ltb}
use Rattle.std.proofs.Math.Path.{◌≡◌, sym}
use Rattle.std.proofs.Common.{◌∙◌, arith}
use borrow.Author.Tests.{lt-ltb, le-ltb}
use Rattle.rules.specs.Verdict.{Verdict, granted, refused, refuse_if, ◌>>=◌}
use Rattle.rules.specs.Lists.{number_at}
use Rattle.rules.specs.Edition.{old, count_at}
use Rattle.rules.specs.Shape.{Shape}
use Rattle.rules.specs.Expr.{Read}
use Rattle.rules.specs.Instr.{Instr, END}
use Rattle.rules.specs.ProgramFile.{Program, is_end}
use Rattle.rules.specs.ProgramFile.{entry_at, read_instrs}
use Rattle.laws.specs.Verdict.{Grants, grants, within}
use Rattle.base.specs.Answers.{Answer, refused_by, verdict_of}
use Rattle.base.specs.declared.refusal.Refusal.{Refusal}
use Rattle.reader.specs.Bodies.{body_in}
use Rattle.program.specs.Stages.{ends, Contents, instr_in, is_end_body, last_at, closed, read_rest, instrs_of}
use Rattle.program.specs.Last.{Closing, instrs_closing}

-- Two checks that hand back nothing.
checked : {A : Type 0} (s t : Bool) (a b c d : ℕ) (x : A)
    → ((refuse_if s a b >>= λ _. refuse_if t c d >>= λ _. granted x) >>= λ _. granted tt) ≡ (refuse_if s a b >>= λ _. refuse_if t c d)
checked true t a b c d x = refl
checked false true a b c d x = refl
checked false false a b c d x = refl

module _ (file : List ℕ) (sh : Shape) (n : ℕ) where
  -- R9, R14, R48: what is checked after the instructions.
  abbrev finish : Read (List Instr) → Verdict Program
  finish xs = do
    _ ← refuse_if (ltb xs.next (length file)) 4 xs.next
    _ ← refuse_if (not (is_end (get_or xs.got (n - 1) END))) 9 (last_at file n)
    granted (record { shape = sh; instrs = xs.got })

  finish-closed : (m : Verdict (Read (List Instr))) (q : ℕ) → Grants (Closing file n) m → ends m ≡ granted q
      → ((m >>= finish) >>= λ _. granted tt) ≡ closed file n q
  unfolding closed
  finish-closed (granted xs) q (grants c) e =
      let z : xs.next ≡ q = cc in
      rw (c.ending, z) (checked (ltb q (length file)) (not (is_end_body (instr_in file n (n - 1)))) 4 q 9 (last_at file n) _)
  finish-closed (refused a b) q g e =
      let z : ◌≡◌ {A = ℕ} 0 1 = cc in
      absurd (omega arith)

  finish-refused : (m : Verdict (Read (List Instr))) (a b : ℕ) → ends m ≡ refused a b
      → ((m >>= finish) >>= λ _. granted (tt {0})) ≡ refused a b
  finish-refused (granted xs) a b e =
      let z : ◌≡◌ {A = ℕ} 0 1 = cc in
      absurd (omega arith)
  finish-refused (refused c d) a b e =
      let y : c ≡ a = cc in
      let z : d ≡ b = cc in
      rw (y, z)

-- R9, R14, R48: after n instructions that end at q; b is where the entry of the last leads, and r says whether END stands there.
module _ (file : List ℕ) (n q : ℕ) where
  pub closed-more : q < length file → refused 4 q ≡ closed file n q
  unfolding closed
  closed-more h = rw (lt-ltb q (length file) h)

  module _ (h : length file ≤ q) (b : ℕ) (e : b ≡ last_at file n) (r : Bool) (is : r ≡ is_end_body (body_in file b)) where
    pub closed_other : not r ≡ true → refused 9 b ≡ closed file n q
    unfolding closed
    closed_other t = rw (le-ltb q (length file) h, ← e, ← is, t)

    pub closed_end : not r ≡ false → granted tt ≡ closed file n q
    unfolding closed
    closed_end t = rw (le-ltb q (length file) h, ← e, ← is, t)

-- R8, R48: what follows a header with that shape and the count n.
module _ (file : List ℕ) (sh : Shape) (n : ℕ) (d : Bool) (e : n ≡ number_at 2 file (count_at old))
    (f : d ≡ (leb 1 n && leb n 512)) where
  pub rest-count : not d ≡ true → refused 3 5 ≡ instrs_of file sh
  unfolding read_rest
  rest-count t = rw (← e, ← f, t)

  module _ (t : not d ≡ false) where
    pub rest_short : length file < 7 + 2 * n → refused 1 (length file) ≡ instrs_of file sh
    unfolding read_rest
    rest_short l = rw (← e, ← f, t, lt-ltb (length file) (7 + 2 * n) l)

    module _ (l : 7 + 2 * n ≤ length file) where
      pub contents : Contents file n
      contents =
          let w = within 1 n n 512 (rw f at t) in
          record { some = w.0; most = w.1; whole = l }

      module _ (r : Answer ℕ) (g : verdict_of r ≡ ends (read_instrs old file sh n n (entry_at old n))) where
        pub rest-refused : (x : Refusal) → r ≡ Err x → refused_by x ≡ instrs_of file sh
        unfolding read_rest
        rest-refused x z =
            rw (← e, ← f, t, le-ltb (length file) (7 + 2 * n) l)
            (sym (finish-refused file sh n (read_instrs old file sh n n (entry_at old n)) _ _ (sym (rw z at g))))

        module _ (q : ℕ) (z : r ≡ Ok q) where
          pub rest-closed : (k : Answer (Unit {0})) → verdict_of k ≡ closed file n q → verdict_of k ≡ instrs_of file sh
          unfolding read_rest
          rest-closed k c =
              let m = instrs_closing file sh n (entry_at old n) contents.some in
              rw (← e, ← f, t, le-ltb (length file) (7 + 2 * n) l)
              (c ∙ sym (finish-closed file sh n (read_instrs old file sh n n (entry_at old n)) q m (sym (rw z at g))))
