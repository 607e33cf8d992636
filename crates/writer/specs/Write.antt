-- Writing a set whole: the bytes of the rules, or a refusal of a short output; and the set that changes nothing.
use Rattle.std.specs.Prelude.{ℕ, Ok, Err, ◌+◌, ◌*◌, ◌≤◌, ◌<◌, ◌≡◌, drop}
use Rattle.std.proofs.Math.Path.{refl, ap}
use Rattle.std.proofs.Common.{◌∙◌, drop_of_length-le, lt-ltb, le-ltb}
use mathlib.Core.List.{List, [], ◌++◌, flat_map}
use native.Mathlib.Omega.{arith}
use Rattle.std.proofs.Math.ListN.{length, length-append}
use Rattle.rules.specs.Verdict.{granted}
use Rattle.rules.specs.Lists.{bytes_of}
use Rattle.rules.specs.Edition.{old}
use Rattle.rules.specs.Shape.{Shape, cells, check_shape, write_header}
use Rattle.rules.specs.Rows.{Row, base}
use Rattle.rules.specs.Sets.{unchanging}
use Rattle.rules.specs.SetFile.{TransferSet, leaves, row_bytes, write_set}
use Rattle.rules.specs.Operations.{unchanging_set, write_into, write_unchanging}
use Rattle.laws.specs.Bytes.{length-bytes, length-table}
use Rattle.laws.specs.Shape.{shape-limits, length-header}
use Rattle.laws.specs.Rows.{length-base}
use Rattle.laws.specs.Squeeze.{unchanging-stands}
use Rattle.laws.specs.Fits.{length-row}
use Rattle.base.specs.Answers.{Answer, refused_by}
use Rattle.base.specs.declared.refusal.Refusal.{Refusal}
use Rattle.base.specs.declared.refusal.Refusal.TheVariants.{NoRoom}
use Rattle.writer.specs.Writes.{Writes}
use Rattle.writer.specs.Put.{put_at, put-put, put_whole}

-- ---- a set and its bytes

-- R26: the operation rows of a set.
abbrev rows_of : TransferSet → List Row
rows_of z = drop (leaves z.shape) z.tab

module _ (z : TransferSet) (h : length z.heads ≡ cells z.shape) where
  -- R41: the length of a set's file.
  pub set-length : length (write_set old z) ≡ 7 + 2 * cells z.shape + 5 * length (rows_of z)
  unfolding write_set
  set-length =
      let head = write_header old 2 z.shape (length (rows_of z)) in
      let heads = flat_map (bytes_of 2) z.heads in
      omega (
        arith,
        length-append head (heads ++ flat_map row_bytes (rows_of z)),
        length-append heads (flat_map row_bytes (rows_of z)),
        length-header old 2 z.shape (length (rows_of z)),
        length-table (bytes_of 2) 2 (length-bytes 2) z.heads,
        length-table row_bytes 5 length-row (rows_of z),
        h,
      )

  -- R41: its three parts, written one after another.
  pub set-put : (out a b d : List ℕ) → a ≡ put_at out 0 (write_header old 2 z.shape (length (rows_of z)))
      → b ≡ put_at a 7 (flat_map (bytes_of 2) z.heads)
      → d ≡ put_at b (7 + 2 * cells z.shape) (flat_map row_bytes (rows_of z))
      → d ≡ put_at out 0 (write_set old z)
  unfolding write_set
  set-put out a b d e f g =
      let head = write_header old 2 z.shape (length (rows_of z)) in
      let heads = flat_map (bytes_of 2) z.heads in
      let rows = flat_map row_bytes (rows_of z) in
      let p : 7 + 2 * cells z.shape ≡ 7 + length heads = omega
      (arith, length-table (bytes_of 2) 2 (length-bytes 2) z.heads, h) in
      let q : 0 + length head ≡ 7 = omega (arith, length-header old 2 z.shape (length (rows_of z))) in
      let two : d ≡ put_at a 7 (heads ++ rows) = g ∙ rw (f, p) (put-put a 7 heads rows) in
      two ∙ rw (e, ← q) (put-put out 0 head (heads ++ rows))

-- R59: a short output is refused and left as it is; else the bytes are at its beginning.
module _ (held : ℕ) (out : List ℕ) (z : TransferSet) where
  pub writes_short : length out < length (write_set old z)
      → Writes (write_into old held (length out) z) (Err (NoRoom held)) out out
  unfolding write_into
  writes_short h = rw (lt-ltb (length out) (length (write_set old z)) h) (record { answer = refl; output = refl })

  pub writes_whole : (n : ℕ) (next : List ℕ) → n ≡ length (write_set old z) → n ≤ length out → next ≡ put_at out 0 (write_set old z)
      → Writes (write_into old held (length out) z) (Ok n) out next
  unfolding write_into
  writes_whole n next e h q = rw (le-ltb (length out) (length (write_set old z)) (omega arith)) (record {
    answer = ap granted e;
    output = q ∙ put_whole out (write_set old z) (omega arith);
  })

-- ---- the set that changes nothing

own-rows : (sh : Shape) → rows_of (unchanging_set sh) ≡ []
own-rows sh = drop_of_length-le (base (cells sh)) {i = leaves sh} (omega (arith, length-base (cells sh)))

own-length : (sh : Shape) → length (write_set old (unchanging_set sh)) ≡ 7 + 2 * cells sh
own-length sh = omega (arith, set-length (unchanging_set sh) (unchanging-stands (cells sh)).count, ap length (own-rows sh))

module _ (sh : Shape) (C : ℕ) (c : C ≡ cells sh) (out : List ℕ) where
  pub own_short : length out < 7 + 2 * C
      → Writes (write_into old (leaves sh) (length out) (unchanging_set sh)) (Err (NoRoom (2 + C))) out out
  own_short h = rw c (writes_short (leaves sh) out (unchanging_set sh) (omega (arith, own-length sh)))

  pub own-whole : 7 + 2 * C ≤ length out → (a b : List ℕ) → a ≡ put_at out 0 (write_header old 2 sh 0)
      → b ≡ put_at a 7 (flat_map (bytes_of 2) (unchanging C))
      → Writes (write_into old (leaves sh) (length out) (unchanging_set sh)) (Ok (7 + 2 * C)) out b
  unfolding put_at flat_map
  own-whole h a b e f =
      let put = set-put (unchanging_set sh) (unchanging-stands (cells sh)).count out a b b
      (rw (own-rows sh) e) (rw (← c) f) (rw (own-rows sh)) in
      writes_whole (leaves sh) out (unchanging_set sh) (7 + 2 * C) b (omega (arith, own-length sh)) h put

-- R58: the shape is judged first.
module _ (sh : Shape) (out : List ℕ) where
  pub shape-refused : (x : Refusal) → refused_by x ≡ check_shape old sh
      → Writes (write_unchanging old sh (length out)) (Err x) out out
  unfolding write_unchanging
  shape-refused x e = rw (← e) (record { answer = refl; output = refl })

  pub shape-granted : (r : Answer ℕ) (next : List ℕ) → granted tt ≡ check_shape old sh
      → Writes (write_into old (leaves sh) (length out) (unchanging_set sh)) r out next
      → Writes (write_unchanging old sh (length out)) r out next
  unfolding write_unchanging
  shape-granted r next e w = rw (← e) w

-- The limits that writing needs.
pub shape-small : (sh : Shape) → check_shape old sh ≡ granted tt → (sh.depth < 256) × (cells sh < 65534)
shape-small sh e =
    let l = shape-limits old sh e in
    (omega (arith, l.shallow), omega (arith, l.shallow, l.most))
