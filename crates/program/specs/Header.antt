-- Checking a shape and reading a header: a law for each answer.
use Rattle.std.specs.Prelude.{ℕ, Ok, Err, ◌≤◌, ◌<◌, ◌≡◌, Bool, true, false, not, ◌&&◌, List, length, get_or, leb}
use Rattle.std.proofs.Common.{add-zero}
use borrow.Author.Tests.{lt-ltb, le-ltb, eq-eqb, ne_eqb}
use Rattle.rules.specs.Verdict.{granted, refused}
use Rattle.rules.specs.Lists.{number_at}
use Rattle.rules.specs.Edition.{old}
use Rattle.rules.specs.Shape.{Shape, vars, check_shape, shape_at, read_header}
use Rattle.base.specs.Answers.{Answer, shape_of, refused_by, verdict_of}
use Rattle.base.specs.declared.refusal.Refusal.{Refusal}

-- R1, R46: the depth, then the number of variables.
module _ (sh : Shape) (d : Bool) (e : d ≡ (leb 2 sh.depth && leb sh.depth 16)) where
  pub shape-depth : not d ≡ true → refused 3 1 ≡ check_shape old sh
  shape-depth t = rw (← e, t)

  module _ (s : not d ≡ false) (w : ℕ) (v : Bool) (q : w ≡ vars sh) (f : v ≡ (leb 1 w && leb w 200)) where
    pub shape-vars : not v ≡ true → refused 3 2 ≡ check_shape old sh
    shape-vars t = rw (← e, s, ← q, ← f, t)

    pub shape-kept : not v ≡ false → granted tt ≡ check_shape old sh
    shape-kept t = rw (← e, s, ← q, ← f, t)

-- R7: the counts of a header are one byte each.
pub shape-read : (file : List ℕ) (d i o m : ℕ) → d ≡ get_or file 1 0 → i ≡ get_or file 2 0 → o ≡ get_or file 3 0 → m ≡ get_or file 4 0
    → shape_of (record { depth = d; inputs = i; outputs = o; memory = m }) ≡ shape_at old file
unfolding shape_at number_at
shape-read file d i o m p q r s = simp (p, q, r, s, add-zero)

-- R7, R48: the header of a file.
module _ (file : List ℕ) (mark : ℕ) where
  pub header_short : length file < 7 → refused 1 (length file) ≡ read_header old mark file
  unfolding read_header
  header_short l = rw (lt-ltb (length file) 7 l)

  module _ (l : 7 ≤ length file) where
    pub header_other : (get_or file 0 0 ≡ mark → ⊥) → refused 2 0 ≡ read_header old mark file
    unfolding read_header
    header_other m = rw (le-ltb (length file) 7 l, ne_eqb (get_or file 0 0) mark m)

    module _ (m : get_or file 0 0 ≡ mark) (sh : Shape) (e : sh ≡ shape_at old file) (r : Answer (Unit {0}))
        (c : verdict_of r ≡ check_shape old sh) where
      pub header_read : r ≡ Ok tt → granted sh ≡ read_header old mark file
      unfolding read_header
      header_read g = rw (le-ltb (length file) 7 l, eq-eqb (get_or file 0 0) mark m, ← e, ← c, g)

      pub header_refused : (x : Refusal) → r ≡ Err x → refused_by x ≡ read_header old mark file
      unfolding read_header
      header_refused x g = rw (le-ltb (length file) 7 l, eq-eqb (get_or file 0 0) mark m, ← e, ← c, g)
