-- Shapes within their limits, and the header that carries a shape: what is written reads back, and what is read is written again.
use Rattle.std.specs.Prelude.{ℕ, suc, ◌+◌, ◌≤◌, ◌<◌, ◌≡◌, refl, Bool, true, false, not, ◌&&◌, List, ◌∷◌, ◌++◌, length, get_or, take, drop, leb, ltb, eqb}
use Rattle.std.proofs.Common.{sym, ap, ◌∙◌, append_assoc, arith, length-append, ltb-false, leb-true, eqb-true, le-ltb, eq-eqb}
use Rattle.std.proofs.lemmas.Bool.{not-false}
use Rattle.rules.specs.Verdict.{granted}
use Rattle.rules.specs.Lists.{number_at, bytes_of}
use Rattle.rules.specs.Edition.{Edition, count_at, header_end}
use Rattle.rules.specs.Shape.{Shape, vars, check_shape, shape_at, read_header, write_header}
use Rattle.rules.specs.Operations.{same_shape}
use Rattle.laws.specs.Verdict.{no_false, bind_granted, check_granted, refuse_granted, both_true}
use Rattle.laws.specs.Canonical.{Sensible}
use Rattle.laws.specs.Bytes.{Bytes, bytes-cons, bytes-append, bytes-number, drop-part, take-cons, take-parts, length-bytes, number_read, number_write}

-- The limits of a shape.
pub record Limits (e : Edition) (sh : Shape) : Type 0 where
  pub deep : 2 ≤ sh.depth
  pub shallow : sh.depth ≤ 16
  pub some : 1 ≤ vars sh
  pub most : vars sh ≤ e.most_vars

-- A shape that passes the checks keeps the limits.
pub shape-limits : (e : Edition) (sh : Shape) → check_shape e sh ≡ granted tt → Limits e sh
shape-limits e sh c =
    let (d, s) = check_granted (not (leb 2 sh.depth && leb sh.depth 16)) 3 1 _ c in
    let (a, b) = both_true (leb 2 sh.depth) (leb sh.depth 16) (not-false _ d) in
    let (p, q) = both_true (leb 1 (vars sh)) (leb (vars sh) e.most_vars) (not-false _ (refuse_granted _ 3 2 s)) in
    record {
      deep = leb-true 2 sh.depth a;
      shallow = leb-true sh.depth 16 b;
      some = leb-true 1 (vars sh) p;
      most = leb-true (vars sh) e.most_vars q;
    }

-- A file whose header gives the shape sh and the count n, with the body after it.
pub record Headed (e : Edition) (mark : ℕ) (sh : Shape) (n : ℕ) (body file : List ℕ) : Type 0 where
  pub is : read_header e mark file ≡ granted sh
  pub count : number_at 2 file (count_at e) ≡ n
  pub rest : drop (header_end e) file ≡ body

-- The length of a header.
pub length-header : (e : Edition) (mark : ℕ) (sh : Shape) (n : ℕ) → length (write_header e mark sh n) ≡ header_end e
unfolding write_header
length-header e mark sh n = simp (length-append, length-bytes) (omega arith)

-- The header of an allowed shape is bytes.
pub bytes-header : (e : Edition) (mark : ℕ) (sh : Shape) (n : ℕ) → mark < 256 → check_shape e sh ≡ granted tt → Bytes (write_header e mark sh n)
unfolding write_header
bytes-header e mark sh n m c =
    let w = e.count_bytes in
    let afterO = bytes_of w sh.memory ++ bytes_of 2 n in
    let afterI = bytes_of w sh.outputs ++ afterO in
    let afterD = bytes_of w sh.inputs ++ afterI in
    bytes-cons mark (sh.depth ∷ afterD) m (bytes-cons sh.depth afterD (omega (arith, (shape-limits e sh c).shallow))
    (bytes-append (bytes_of w sh.inputs) afterI (bytes-number w sh.inputs)
    (bytes-append (bytes_of w sh.outputs) afterO (bytes-number w sh.outputs)
    (bytes-append (bytes_of w sh.memory) (bytes_of 2 n) (bytes-number w sh.memory) (bytes-number 2 n)))))

-- Reading the header that was written.
pub header_read : (e : Edition) → Sensible e → (mark : ℕ) (sh : Shape) (n : ℕ) (body : List ℕ) → check_shape e sh ≡ granted tt
    → n < 65536
    → Headed e mark sh n body (write_header e mark sh n ++ body)
unfolding read_header shape_at write_header
header_read e s mark sh n body c h =
    let w = e.count_bytes in
    let file = write_header e mark sh n ++ body in
    let limits = shape-limits e sh c in
    let after_m = bytes_of 2 n ++ body in
    let afterO = bytes_of w sh.memory ++ after_m in
    let afterI = bytes_of w sh.outputs ++ afterO in
    let atI : drop 2 file ≡ bytes_of w sh.inputs ++ afterI = simp append_assoc in
    let atO = drop-part file 2 w (bytes_of w sh.inputs) afterI (length-bytes w sh.inputs) atI in
    let atM = drop-part file (2 + w) w (bytes_of w sh.outputs) afterO (length-bytes w sh.outputs) atO in
    let atN = drop-part file (2 + w + w) w (bytes_of w sh.memory) after_m (length-bytes w sh.memory) atM in
    let q : 2 + w + w + w ≡ count_at e = omega arith in
    let atCount : drop (count_at e) file ≡ bytes_of 2 n ++ body = rw q at atN in
    let I = number_read w sh.inputs 2 file afterI (omega arith) atI in
    let O = number_read w sh.outputs (2 + w) file afterO (omega arith) atO in
    let M = number_read w sh.memory (2 + w + w) file after_m (omega arith) atM in
    let shape : shape_at e file ≡ sh = rw (I, O, M) in
    let size = length-append (write_header e mark sh n) body in
    let long = le-ltb (length file) (header_end e) (omega (arith, length-header e mark sh n)) in
    record {
      is = rw (long, eq-eqb mark mark refl, ap (check_shape e) shape ∙ c, shape);
      count = number_read 2 n (count_at e) file body (omega arith) atCount;
      rest = drop-part file (count_at e) 2 (bytes_of 2 n) body (length-bytes 2 n) atCount;
    }

-- What reading a header has checked.
pub record HeaderChecked (e : Edition) (mark : ℕ) (file : List ℕ) (sh : Shape) : Type 0 where
  pub long : header_end e ≤ length file
  pub marked : get_or file 0 0 ≡ mark
  pub is : shape_at e file ≡ sh
  pub shaped : check_shape e sh ≡ granted tt

-- A header that is read has been checked.
pub header-granted : (e : Edition) (mark : ℕ) (file : List ℕ) (sh : Shape) → read_header e mark file ≡ granted sh
    → HeaderChecked e mark file sh
unfolding read_header
header-granted e mark file sh q =
    let a = check_granted (ltb (length file) (header_end e)) 1 (length file) _ q in
    let b = check_granted (not (eqb (get_or file 0 0) mark)) 2 0 _ a.1 in
    let c = bind_granted (check_shape e (shape_at e file)) _ b.1 in
    let is : shape_at e file ≡ sh = cc in
    record {
      long = ltb-false (length file) (header_end e) a.0;
      marked = eqb-true (get_or file 0 0) mark (not-false _ b.0);
      is = is;
      shaped = ap (check_shape e) (sym is) ∙ c.1;
    }

-- Writing the header that was read.
pub header_write : (e : Edition) (mark : ℕ) (sh : Shape) (n : ℕ) (file : List ℕ) → Bytes file → HeaderChecked e mark file sh
    → number_at 2 file (count_at e) ≡ n → write_header e mark sh n ≡ take (header_end e) file
unfolding write_header shape_at
header_write e mark sh n file b h c =
    let w = e.count_bytes in
    let q : count_at e ≡ 2 + w + w + w = omega arith in
    let k : suc (suc (w + (w + (w + 2)))) ≡ 2 + w + w + w + 2 = omega arith in
    let I = number_write file b w 2 (omega arith) in
    let O = number_write file b w (2 + w) (omega arith) in
    let M = number_write file b w (2 + w + w) (omega arith) in
    let N = number_write file b 2 (count_at e) (omega arith) in
    let byte1 = take-cons file 1 (w + (w + (w + 2))) 0 (omega arith) in
    let byte0 = take-cons file 0 (suc (w + (w + (w + 2)))) 0 (omega arith) in
    rw (← h.marked, ← h.is, ← c, I, O, M, N, q, take-parts, take-parts, take-parts, byte1, byte0, k)

-- ---- one shape

-- Shapes that are found to be the same are equal.
pub shape_equal : (a b : Shape) → same_shape a b ≡ true → a ≡ b
shape_equal a b q =
    let (d, r) = both_true (eqb a.depth b.depth) _ q in
    let (i, t) = both_true (eqb a.inputs b.inputs) _ r in
    let (o, m) = both_true (eqb a.outputs b.outputs) _ t in
    let d' : a.depth ≡ b.depth = eqb-true a.depth b.depth d in
    let i' : a.inputs ≡ b.inputs = eqb-true a.inputs b.inputs i in
    let o' : a.outputs ≡ b.outputs = eqb-true a.outputs b.outputs o in
    let m' : a.memory ≡ b.memory = eqb-true a.memory b.memory m in
    λ k. record { depth = d' k; inputs = i' k; outputs = o' k; memory = m' k }

-- A shape is found to be the same as itself.
pub shape_same : (a : Shape) → same_shape a a ≡ true
shape_same a =
    rw (
      eq-eqb a.depth a.depth refl,
      eq-eqb a.inputs a.inputs refl,
      eq-eqb a.outputs a.outputs refl,
      eq-eqb a.memory a.memory refl,
    )

-- Shapes that are found to be others are so, and the other way round.
pub shape_other : (a b : Shape) → same_shape a b ≡ false → a ≡ b → ⊥
shape_other a b s q = no_false (sym s ∙ ap (same_shape a) (sym q) ∙ shape_same a)

pub other_shape : (a b : Shape) → (a ≡ b → ⊥) → same_shape a b ≡ false
other_shape a b n = go (same_shape a b) refl
  where
    go : (t : Bool) → same_shape a b ≡ t → t ≡ false
    go true s = absurd (n (shape_equal a b s))
    go false s = refl
