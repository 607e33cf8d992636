-- Laws of the values of a set file's rows: for each turn of working them out, and of taking the heads.
use Rattle.std.specs.Prelude.{ℕ, zero, suc, ◌+◌, ◌-◌, ◌≤◌, ◌<◌, ◌≡◌, refl, Bool, true, List, map, get_or, set}
use Rattle.std.proofs.Math.Path.{ap, sym}
use Rattle.std.proofs.Common.{◌∙◌, get_or-set_same}
use Rattle.std.proofs.Math.Bool.{false}
use native.Mathlib.Omega.{arith}
use Rattle.std.proofs.Math.Decide.{dec_lt}
use Rattle.std.proofs.Math.ListN.{length, length-map}
use Rattle.std.proofs.Math.Seq.{get_or-set_other}
use Rattle.rules.specs.Shape.{Shape, cells}
use Rattle.rules.specs.Rows.{Row, leaf, inv, bin, row_at, row_value, value}
use Rattle.rules.specs.Sets.{act}
use Rattle.rules.specs.Operations.{bit}
use Rattle.laws.specs.Lists.{get_d_map}
use Rattle.laws.specs.Canonical.{Below, Canonical}
use Rattle.laws.specs.Rows.{canonical-value}
use Rattle.laws.specs.Rule.{canonical-below}
use Rattle.laws.specs.After.{leaf-own}
use Rattle.storage.specs.Cells.{bits_of, Bits}
use Rattle.storage.specs.Stores.{cell-byte, bit_not, bit_and, bit_or}
use Rattle.storage.specs.Moves.{Replacing, replacing_more, replacing_whole}
use Rattle.base.specs.Answers.{shape_of}
use Rattle.sets.specs.Judging.{spells, spells-shape, spells-rows, spells-heads, rows_of}
use Rattle.sets.specs.declared.read.SetFile.{SetFile}
use Rattle.evaluate.specs.Values.{byte_of, Worked, Evaluable, Valued, evaluated_bytes}

-- ---- values in order

-- The byte of a row is its value, where the bytes of its operands are theirs.
byte-value : (s vs : List ℕ) (ws : List Bool) (k : ℕ) (r : Row) → Bits s → Below k r
    → ((i : ℕ) → i < k → get_or vs i 0 ≡ bit (get_or ws i false)) → byte_of s vs r ≡ bit (row_value (bits_of s) ws r)
unfolding byte_of
byte-value s vs ws k (leaf zero) b h e = refl
byte-value s vs ws k (leaf (suc zero)) b h e = refl
byte-value s vs ws k (leaf (suc (suc i))) b h e = sym (cell-byte s b i)
byte-value s vs ws k (inv a) b h e = rw (e a h) (sym (bit_not (get_or ws a false)))
byte-value s vs ws k (bin true x y) b h e = rw (e x h.0, e y h.1) (sym (bit_and (get_or ws x false) (get_or ws y false)))
byte-value s vs ws k (bin false x y) b h e = rw (e x h.0, e y h.1) (sym (bit_or (get_or ws x false) (get_or ws y false)))

-- A row whose operands are earlier, or whose leaf is its own number, can be worked out.
worked : (C k n : ℕ) (r : Row) → Below k r → k ≤ n → ((i : ℕ) → r ≡ leaf i → i < 2 + C) → Worked C n r
worked C k n (leaf i) b h f = f i refl
worked C k n (inv a) b h f = omega arith
worked C k n (bin o x y) b h f = (omega (arith, b.0), omega (arith, b.1))

module _ (f : SetFile) (s : List ℕ) (e : Evaluable f s) where
  abbrev sh : Shape
  sh = shape_of f.shape

  abbrev t : List Row
  t = (spells f).tab

  abbrev heads : List ℕ
  heads = (spells f).heads

  canonical : Canonical (cells sh) t
  canonical = rw (spells-shape f) at e.proper.canonical

  -- Row i can be worked out from i values.
  pub row-worked : (i : ℕ) → i < rows_of f → (r : Row) → r ≡ row_at t i → (k : ℕ) → i ≤ k → Worked (length s) k r
  row-worked i h r q k l =
      let w = canonical in
      worked (length s) i k r (rw q (canonical-below w i (omega (arith, spells-rows f)))) l λ j g.
      let own = leaf-own w i j (omega (arith, spells-rows f)) (sym q ∙ g) in
      omega (arith, own.0, own.1, e.stored.size)

  -- One value more.
  pub valued-more : (vs : List ℕ) (i : ℕ) → i < rows_of f → i < length vs → Valued f s vs i
      → (r : Row) → r ≡ row_at t i → (v : ℕ) → v ≡ byte_of s vs r → Valued f s (set vs i v) (i + 1)
  unfolding value
  valued-more vs i h l g r q v z k p = elim (dec_lt k i) [
    | yes x ↦ get_or-set_other vs i k v 0 (omega arith) ∙ g k x
    | no x ↦
        let w = canonical in
        let u : k ≡ i = omega arith in
        let below = canonical-below w i (omega (arith, spells-rows f)) in
        let val = canonical-value w (bits_of s) i (omega (arith, spells-rows f)) in
        rw u (get_or-set_same vs i v 0 l ∙ z ∙ ap (byte_of s vs) q
        ∙ byte-value s vs _ i (row_at t i) e.stored.bits below g ∙ ap bit (sym val))
  ]

  -- ---- heads

  -- The head of a cell is one of the rows.
  pub head-low : (c h : ℕ) → c < length s → h ≡ get_or heads c 0 → h < rows_of f
  head-low c h l q = omega (arith, e.proper.rows c, spells-rows f, spells-heads f, e.stored.size)

  -- What the heads give.
  abbrev given : List ℕ
  given = evaluated_bytes f s

  given-length : length given ≡ length s
  unfolding act
  given-length = simp (length-map, spells-heads f) (sym e.stored.size)

  given-at : (c : ℕ) → c < length s → get_or given c 0 ≡ bit (value t (bits_of s) (get_or heads c 0))
  unfolding act
  given-at c h =
      let b = bits_of s in
      let n : c < length heads = omega (arith, spells-heads f, e.stored.size) in
      get_d_map bit (map (value t b) heads) c false 0 (rw length-map n) ∙ ap bit (get_d_map (value t b) heads c 0 false n)

  pub heads-more : (vs u : List ℕ) (c h : ℕ) → Valued f s vs (rows_of f) → Replacing s 0 given u c → c < length s
      → h ≡ get_or heads c 0 → Replacing s 0 given (set u c (get_or vs h 0)) (c + 1)
  heads-more vs u c h g x l q =
      let z : c - 0 ≡ c = omega arith in
      replacing_more x l (omega (arith, given-length)) (g h (head-low c h l q) ∙ rw q (sym (rw z (given-at c l))))

  pub heads_all : (u : List ℕ) (c : ℕ) → Replacing s 0 given u c → length s ≤ c → u ≡ given
  heads_all u c x h = replacing_whole x h (omega (arith, given-length))
