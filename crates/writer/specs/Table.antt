-- The set that heads over a table in lent rows are: the rows that are kept, renumbered, are those of the rules.
use Prim.Native.Nat.{ℕ, zero, suc, ◌+◌, ◌*◌, ◌-◌, ◌≤◌, ◌<◌}
use Rattle.std.specs.Prelude.{Ok, Err, ◌≡◌, Bool, true, false, length}
use Rattle.std.proofs.Math.Path.{refl, ap}
use Rattle.std.proofs.Common.{sym, ap₂, ◌∙◌, length-drop, eq-eqb}
use mathlib.Core.List.{List, [], ◌++◌, flat_map, append-nil}
use native.Mathlib.Omega.{arith}
use Rattle.std.proofs.Math.ListN.{get_or, drop, drop_of_length-le}
use Rattle.std.proofs.lemmas.List.{length-map, drop-append-le}
use Rattle.rules.specs.Lists.{bytes_of}
use Rattle.rules.specs.Edition.{old}
use Rattle.rules.specs.Shape.{Shape, cells, write_header}
use Rattle.rules.specs.Rows.{Row, leaf, inv, bin, base, row_at}
use Rattle.rules.specs.Sets.{unchanging, reaches, append, squeeze}
use Rattle.rules.specs.SetFile.{TransferSet, row_bytes, write_set}
use Rattle.rules.specs.Operations.{set_of, write_into}
use Rattle.laws.specs.Lists.{map_ext, elem_at}
use Rattle.laws.specs.Canonical.{Operands, Below, Canonical}
use Rattle.laws.specs.Rule.{below_more, canonical-below}
use Rattle.laws.specs.Rows.{length-base}
use Rattle.laws.specs.Grow.{ext_length}
use Rattle.laws.specs.Reach.{needs_keeps, reaches-operands}
use Rattle.laws.specs.After.{over, carry-stays}
use Rattle.laws.specs.Squeeze.{ren, Packed, packed}
use Rattle.base.specs.declared.refusal.Refusal.TheVariants.{NoRoom}
use Rattle.rows.specs.Entries.{table_in}
use Rattle.writer.specs.Writes.{Writes}
use Rattle.reach.specs.Tabled.{Tabled}
use Rattle.writer.specs.Put.{put_at, new_heads}
use Rattle.writer.specs.Kept.{kept, kept_at, kept-one, AllFit}
use Rattle.rows.specs.Stored.{table-length, table-row}
use Rattle.writer.specs.Write.{set-length, set-put, writes_short, writes_whole}
use Rattle.reach.specs.Numbers.{Numbering, numbering, carried, Numbered, carried-op, carried_none}

-- Rows renumbered by lists that agree on their operands are the same.
ren-same : (P : ℕ → Type 0) (m n : List ℕ) (k : ℕ) → ((a : ℕ) → a < k → P a → get_or m a 0 ≡ get_or n a 0)
    → (r : Row) → Below k r → Operands P r
    → ren m r ≡ ren n r
ren-same P m n k e (leaf i) b p = refl
ren-same P m n k e (inv a) b p = ap inv (e a b p)
ren-same P m n k e (bin o a c) b p = ap₂ {C = Row} (bin o) (e a b.0 p.0) (e c b.1 p.1)

module _ (rows : List ℕ) (used : ℕ) (held : used ≤ length rows) {C : ℕ} {x : List ℕ} {s : Numbering}
    (w : Canonical C (table_in rows used)) (N : Numbered C (table_in rows used) x used s) where
  size : length (table_in rows used) ≡ used
  size = table-length rows used held

  pack : (k : ℕ) → k ≤ used → Packed (table_in rows used) x w k (carried C (table_in rows used) x k)
  pack k h = packed (table_in rows used) x w k (omega (arith, size))

  tall : (k : ℕ) → k ≤ used → 2 + C ≤ length (carried C (table_in rows used) x k).tab
  tall k h = omega (arith, ext_length (pack k h).grown, length-base C)

  -- R36: the rows that are kept are the operation rows of the rules' table.
  kept_row : (k : ℕ) → 2 + C ≤ k → k < used → (b : Bool) → reaches (table_in rows used) x k ≡ b
      → drop (2 + C) (carried C (table_in rows used) x (suc k)).tab
      ≡ drop (2 + C) (carried C (table_in rows used) x k).tab ++ kept_at rows s.new k
  kept_row k h l true q =
      let t = table_in rows used in
      let m = carried C t x k in
      let e = carried-op w x k (omega (arith, size)) h q in
      let own = N.reached k l q in
      let high = ((pack used (omega arith)).placed k l q).high h in
      let some : get_or s.new k 0 ≡ 0 → ⊥ = λ z. omega (arith, own, high) in
      let row = table-row rows used k l in
      let below = canonical-below w k (omega (arith, size)) in
      let closed = reaches-operands t w x k (row_at t k) (omega (arith, size)) refl q in
      let stays : (a : ℕ) → a < k → reaches t x a ≡ true → get_or m.new a 0 ≡ get_or s.new a 0 = λ a p r. sym
      (N.reached a (omega arith) r ∙ carry-stays append (base C) (unchanging C) t x k used a p (omega arith)) in
      let same = ren-same (λ a. reaches t x a ≡ true) m.new s.new k stays (row_at t k) below closed in
      ap (λ m. drop (2 + C) m.tab) e ∙ drop-append-le (2 + C) m.tab _ (tall k (omega arith))
      ∙ rw (kept-one rows s.new k some, ← row, same)
  kept_row k h l false q =
      let t = table_in rows used in
      let z : kept_at rows s.new k ≡ [] = rw (eq-eqb (get_or s.new k 0) 0 (N.skipped k h l q)) in
      ap (λ m. drop (2 + C) m.tab) (carried_none w x k (omega (arith, size)) q) ∙ sym (rw (z, append-nil))

  kept-rows : (j : ℕ) → 2 + C + j ≤ used
      → drop (2 + C) (carried C (table_in rows used) x (2 + C + j)).tab ≡ kept rows s.new (2 + C) j
  unfolding kept
  kept-rows zero h = drop_of_length-le (carried C (table_in rows used) x (2 + C + 0)).tab {i = 2 + C}
      (omega (arith, (pack (2 + C + 0) h).few))
  kept-rows (suc j) h =
      let e : 2 + C + suc j ≡ suc (2 + C + j) = omega arith in
      ap (λ n. drop (2 + C) (carried C (table_in rows used) x n).tab) e
      ∙ kept_row (2 + C + j) (omega arith) (omega arith) (reaches (table_in rows used) x (2 + C + j)) refl
      ∙ ap (λ l. l ++ kept_at rows s.new (2 + C + j)) (kept-rows j (omega arith))

  pub kept_all : 2 + C ≤ used
      → drop (2 + C) (carried C (table_in rows used) x used).tab ≡ kept rows s.new (2 + C) (used - (2 + C))
  kept_all h =
      let e : used ≡ 2 + C + (used - (2 + C)) = omega arith in
      ap (λ n. drop (2 + C) (carried C (table_in rows used) x n).tab) e ∙ kept-rows (used - (2 + C)) (omega arith)

  -- R36: and the heads are renumbered as the rules do.
  pub kept-heads : ((c : ℕ) → get_or x c 0 < used) → new_heads s.new x ≡ new_heads (carried C (table_in rows used) x used).new x
  kept-heads low =
      map_ext (λ h. get_or s.new h 0) (λ h. get_or (carried C (table_in rows used) x used).new h 0) 0 x (λ c h.
      N.reached (get_or x c 0) (low c)
      (needs_keeps (table_in rows used) (length (table_in rows used)) (get_or x c 0) x (elem_at x c 0 h)))

  pub next-is : s.next ≡ 2 + C + length (drop (2 + C) (carried C (table_in rows used) x used).tab)
  next-is = omega (arith, N.next, tall used (omega arith), length-drop (2 + C) (carried C (table_in rows used) x used).tab)

  pub next_small : 2 + C ≤ used → s.next ≤ used
  next_small h = omega (arith, N.next, (pack used (omega arith)).few)

-- R36, R59: writing the set, once its rows have been numbered.
module _ {sh : Shape} {x rows : List ℕ} {used room : ℕ} (T : Tabled sh x rows used room) {C : ℕ} (c : C ≡ cells sh) {n : ℕ}
    {new : List ℕ}
    (numbers : Numbered (cells sh) (table_in rows used) x used (numbering n new)) where
  long : 2 + cells sh ≤ used
  long = omega (arith, T.stands.canonical.long, table-length rows used T.held)

  pub table-next : (2 + C ≤ n) × (n ≤ used)
  table-next = (
    omega (arith, next-is rows used T.held T.stands.canonical numbers),
    next_small rows used T.held
        T.stands.canonical numbers long,
  )

  fits : used ≤ length new
  fits = omega (arith, numbers.size, table-length rows used T.held)

  pub table-heads : (k : ℕ) → get_or x k 0 < length new
  table-heads k = omega (arith, T.stands.low k, fits, table-length rows used T.held)

  -- The set, its heads by the new numbers.
  abbrev Z : List ℕ → ℕ → TransferSet
  Z heads k = record { shape = sh; tab = (carried (cells sh) (table_in rows used) x k).tab; heads = heads }

  set_is : set_of sh (over (table_in rows used) x) ≡ Z (new_heads new x) used
  unfolding set_of squeeze
  set_is =
      ap (λ k. Z (new_heads (carried (cells sh) (table_in rows used) x k).new x) k) (table-length rows used T.held)
      ∙ ap (λ h. Z h used) (sym (kept-heads rows used T.held T.stands.canonical numbers low))
    where
      low : (k : ℕ) → get_or x k 0 < used
      low k = omega (arith, T.stands.low k, table-length rows used T.held)

  count : length (new_heads new x) ≡ cells sh
  count = length-map x (λ h. get_or new h 0) ∙ T.stands.count

  file-length : length (write_set old (Z (new_heads new x) used)) ≡ 7 + 2 * C + 5 * (n - (2 + C))
  file-length =
      omega (arith, set-length (Z (new_heads new x) used) count, next-is rows used T.held T.stands.canonical numbers)

  kept-is : drop (2 + cells sh) (carried (cells sh) (table_in rows used) x used).tab ≡ kept rows new (2 + C) (used - (2 + C))
  kept-is = rw c (kept_all rows used T.held T.stands.canonical numbers long)

  kept-count : length (kept rows new (2 + C) (used - (2 + C))) ≡ n - (2 + C)
  kept-count = omega (arith, ap length kept-is, next-is rows used T.held T.stands.canonical numbers)

  pub table_fits : (out : ℕ) → 7 + 2 * C + 5 * (n - (2 + C)) ≤ out → AllFit rows new (2 + C) used (7 + 2 * C) out
  table_fits out h = record {
    begun = omega (arith, long);
    held = T.held;
    numbered = fits;
    low = λ k p l. rw (← table-row rows used k l)
        (below_more k (length new) (row_at (table_in rows used) k) (omega (arith, fits))
        (canonical-below T.stands.canonical k (omega (arith, table-length rows used T.held))));
    room = omega (arith, kept-count);
  }

  pub table_short : (out : List ℕ) → length out < 7 + 2 * C + 5 * (n - (2 + C))
      → Writes (write_into old used (length out) (set_of sh (over (table_in rows used) x))) (Err (NoRoom used)) out out
  table_short out h = rw set_is (writes_short used out (Z (new_heads new x) used) (omega (arith, file-length)))

  pub table-whole : {a b d : List ℕ} (out : List ℕ) → 7 + 2 * C + 5 * (n - (2 + C)) ≤ length out
      → a ≡ put_at out 0 (write_header old 2 sh (n - (2 + C)))
      → b ≡ put_at a 7 (flat_map (bytes_of 2) (new_heads new x))
      → d ≡ put_at b (7 + 2 * C) (flat_map row_bytes (kept rows new (2 + C) (used - (2 + C))))
      → Writes (write_into old used (length out) (set_of sh (over (table_in rows used) x))) (Ok (7 + 2 * C + 5 * (n - (2 + C)))) out d
  table-whole {a} {b} {d} out h e f g =
      let z = Z (new_heads new x) used in
      let e' : a ≡ put_at out 0 (write_header old 2 sh (length (drop (2 + cells sh) z.tab))) = rw (kept-is, kept-count) e in
      let g' : d ≡ put_at b (7 + 2 * cells sh) (flat_map row_bytes (drop (2 + cells sh) z.tab)) = rw (kept-is, ← c) g in
      rw set_is (writes_whole used out z _ d (sym file-length) h (set-put z count out a b d e' f g'))
