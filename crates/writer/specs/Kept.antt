-- The rows that are kept of a table, renumbered, and their bytes.
use Rattle.std.specs.Prelude.{ℕ, zero, suc, ◌+◌, ◌*◌, ◌-◌, ◌≤◌, ◌<◌, ◌≡◌, cond, length, get_or, eqb}
use Rattle.std.proofs.Math.Path.{refl}
use Rattle.std.proofs.Common.{ap, ◌∙◌, length-append, eq-eqb, ne_eqb}
use mathlib.Core.List.{List, [], ◌∷◌, ◌++◌, flat_map}
use native.Mathlib.Omega.{arith}
use Rattle.std.proofs.Math.Decide.{dec_lt}
use Rattle.rules.specs.Rows.{Row}
use Rattle.rules.specs.SetFile.{row_bytes}
use Rattle.laws.specs.Canonical.{Below}
use Rattle.laws.specs.Squeeze.{ren}
use Rattle.laws.specs.Fits.{length-row}
use Rattle.rows.specs.Entries.{node_row, row_of_entry}
use Rattle.rows.specs.declared.node.Node.{Node}
use Rattle.writer.specs.Put.{put_at, length-put, flat_map-one, put-more}

-- R36: what is kept of a row with the new number n: nothing if that is 0, else the row, its operands renumbered.
abbrev pub kept_one : List ℕ → Row → ℕ → List Row
kept_one numbers r n = cond (eqb n 0) [] (ren numbers r ∷ [])

abbrev pub kept_at : List ℕ → List ℕ → ℕ → List Row
kept_at rows numbers k = kept_one numbers (row_of_entry (get_or rows k 0)) (get_or numbers k 0)

-- R36: what is kept of the j rows from l on.
unfoldable pub kept : List ℕ → List ℕ → ℕ → ℕ → List Row
kept rows numbers l zero = []
kept rows numbers l (suc j) = kept rows numbers l j ++ kept_at rows numbers (l + j)

kept-longer : (rows numbers : List ℕ) (l j n : ℕ) → j ≤ n → length (kept rows numbers l j) ≤ length (kept rows numbers l n)
unfolding kept
kept-longer rows numbers l j zero h = (let z : j ≡ 0 = omega arith in rw z (omega arith))
kept-longer rows numbers l j (suc n) h = elim (dec_lt n j) [
  | yes p ↦ (let z : j ≡ suc n = omega arith in rw z (omega arith))
  | no p ↦ omega
      (arith, kept-longer rows numbers l j n (omega arith), length-append (kept rows numbers l n) (kept_at rows numbers (l + n)))
]

-- R36, R42: writing a row, its operands renumbered.
pub record PutsRow (numbers : List ℕ) (node : Node) (at : ℕ) (before after : List ℕ) : Type 0 where
  pub is : after ≡ put_at before at (row_bytes (ren numbers (node_row node)))

-- R41: what is kept of row k has room from a place on in an output of `out` bytes.
pub record OneFits (rows numbers : List ℕ) (k at out : ℕ) : Type 0 where
  pub held : k < length rows
  pub numbered : k < length numbers
  pub low : Below (length numbers) (row_of_entry (get_or rows k 0))
  pub room : at + 5 * length (kept_at rows numbers k) ≤ out

-- R41: so has what is kept of the rows from l up to `used`.
pub record AllFit (rows numbers : List ℕ) (l used at out : ℕ) : Type 0 where
  pub begun : l ≤ used
  pub held : used ≤ length rows
  pub numbered : used ≤ length numbers
  pub low : (k : ℕ) → l ≤ k → k < used → Below (length numbers) (row_of_entry (get_or rows k 0))
  pub room : at + 5 * length (kept rows numbers l (used - l)) ≤ out

-- R42: writing what is kept of row k, and the place after it.
pub record PutsKept (rows numbers : List ℕ) (k at : ℕ) (before after : List ℕ) (next : ℕ) : Type 0 where
  pub is : after ≡ put_at before at (flat_map row_bytes (kept_at rows numbers k))
  pub moves : next ≡ at + 5 * length (kept_at rows numbers k)

pub kept-one : (rows numbers : List ℕ) (k : ℕ) → (get_or numbers k 0 ≡ 0 → ⊥)
    → kept_at rows numbers k ≡ ren numbers (row_of_entry (get_or rows k 0)) ∷ []
kept-one rows numbers k n = rw (ne_eqb (get_or numbers k 0) 0 n)

module _ {rows numbers : List ℕ} {k at : ℕ} where
  module _ {before : List ℕ} where
    pub puts_none : get_or numbers k 0 ≡ 0 → PutsKept rows numbers k at before before at
    unfolding put_at flat_map
    puts_none e =
        let z : kept_at rows numbers k ≡ [] = rw (eq-eqb (get_or numbers k 0) 0 e) in
        record { is = rw z; moves = rw z (omega arith) }

    pub puts_one : (get_or numbers k 0 ≡ 0 → ⊥) → {after : List ℕ} (r : Row)
        → r ≡ row_of_entry (get_or rows k 0) → after ≡ put_at before at (row_bytes (ren numbers r))
        → PutsKept rows numbers k at before after (at + 5)
    puts_one n r e q = record {
      is = q ∙ rw (e, kept-one rows numbers k n, flat_map-one row_bytes (ren numbers (row_of_entry (get_or rows k 0))));
      moves = rw (kept-one rows numbers k n) refl;
    }

kept_next : (rows numbers : List ℕ) (l k : ℕ) → l ≤ k
    → kept rows numbers l (k + 1 - l) ≡ kept rows numbers l (k - l) ++ kept_at rows numbers k
unfolding kept
kept_next rows numbers l k h =
    let a : k + 1 - l ≡ suc (k - l) = omega arith in
    let b : l + (k - l) ≡ k = omega arith in
    rw (a, b)

-- After the rows from l up to k: what is kept of them is written, and `to` is the place after it.
pub record Rowing (rows numbers : List ℕ) (l at : ℕ) (out₀ out : List ℕ) (to k : ℕ) : Type 0 where
  pub is : out ≡ put_at out₀ at (flat_map row_bytes (kept rows numbers l (k - l)))
  pub place : to ≡ at + 5 * length (kept rows numbers l (k - l))
  pub begun : l ≤ k
  pub size : length out ≡ length out₀

module _ {rows numbers : List ℕ} {l at : ℕ} {out₀ : List ℕ} where
  pub rowing_none : Rowing rows numbers l at out₀ out₀ at l
  unfolding put_at flat_map kept
  rowing_none =
      let z : l - l ≡ 0 = omega arith in
      record { is = rw z; place = rw z (omega arith); begun = omega arith; size = refl }

  -- Each row that is kept has room where all have.
  pub rowing_fits : {out : List ℕ} {to k used : ℕ} → AllFit rows numbers l used at (length out₀)
      → Rowing rows numbers l at out₀ out to k → k < used
      → OneFits rows numbers k to (length out)
  rowing_fits {k = k} {used = used} f r h = record {
    held = omega (arith, f.held);
    numbered = omega (arith, f.numbered);
    low = f.low k r.begun h;
    room = omega (
      arith,
      f.room,
      r.place,
      r.size,
      kept-longer rows numbers l (k + 1 - l) (used - l) (omega (arith, r.begun)),
      ap length (kept_next rows numbers l k r.begun) ∙ length-append (kept rows numbers l (k - l)) (kept_at rows numbers k),
    );
  }

  pub rowing_more : {out next : List ℕ} {to after k : ℕ} → Rowing rows numbers l at out₀ out to k
      → PutsKept rows numbers k to out next after → Rowing rows numbers l at out₀ next after (k + 1)
  rowing_more {to = to} {k = k} r p =
      let more = kept_next rows numbers l k r.begun in
      record {
        is = p.is ∙ rw (more, r.is)
            (put-more row_bytes 5 length-row out₀ at (kept rows numbers l (k - l)) (kept_at rows numbers k) to r.place);
        place = rw more (omega (arith, p.moves, r.place, length-append (kept rows numbers l (k - l)) (kept_at rows numbers k)));
        begun = omega (arith, r.begun);
        size = ap length p.is ∙ length-put _ _ _ ∙ r.size;
      }
