-- Jumps and calls by their codes: a law for each (R38).
use Rattle.std.specs.Prelude.{ℕ, suc, ◌<◌, ◌≡◌, refl, List, length}
use Rattle.std.proofs.Common.{arith}
use Rattle.rules.specs.Shape.{Shape, cells, flag}
use Rattle.rules.specs.Rows.{Row, row_of_cell}
use Rattle.rules.specs.Sets.{Heads, after}
use Rattle.rules.specs.Build.{turn_heads}
use Rattle.laws.specs.Grow.{ext_length, grown_ext}
use Rattle.laws.specs.After.{Stands, over, stands_ext, after_acts, after-grown}
use Rattle.reader.specs.declared.code.LabelCode.{LabelCode}
use Rattle.reader.specs.declared.code.LabelCode.TheVariants.{Jp, Jpc, Js, Jsc}
use Rattle.reader.specs.Codes.{on_label}
use Rattle.laws.specs.Choice.{choice-grown}
use Rattle.base.specs.Answers.{Answer}
use Rattle.base.specs.declared.refusal.Refusal.{Refusal}
use Rattle.table.specs.Append.{Kept}
use Rattle.table.specs.declared.LentTable.{LentTable}
use Rattle.choice.specs.Choosing.{Choosing, Chooses}
use Rattle.rewrite.specs.Follow.{Following}
use Rattle.rows.specs.Table.{Exceeds}
use Rattle.rows.specs.Making.{Drawn, Draws, draws-before}
use Rattle.rows.specs.Stored.{exceeds-more, kept_refl}
use Rattle.turn.specs.Turning.{jumped}

-- R38: the turn of a jump or call is what its code makes of T(l) and T(i+1).
pub turn-jumped : (sh : Shape) (i : ℕ) (c : LabelCode) (l : ℕ) (t : List Row) (T : ℕ → List ℕ)
    → turn_heads sh i (on_label c l) t T ≡ jumped sh c (over t (T l)) (T (suc i))
turn-jumped sh i Jp l t T = refl
turn-jumped sh i Jpc l t T = refl
turn-jumped sh i Js l t T = refl
turn-jumped sh i Jsc l t T = refl

-- One set after another stands over a table in which y still stands.
module _ {C : ℕ} (X : Heads) (y : List ℕ) (p : Stands C X) (q : Stands C (over X.tab y)) where
  abbrev pub called : Heads
  called = after X.tab X.heads X.tab y

  pub called-stands : Stands C called
  called-stands = (after_acts X.tab X.heads X.tab y p q).stands

  pub called-second : Stands C (over called.tab y)
  called-second = stands_ext called-stands.canonical (grown_ext (after-grown X.tab X.heads X.tab y)) y q

module _ {sh : Shape} {y : List ℕ} {s : LentTable} {made : List ℕ} {n : ℕ} (w : Following sh y s n made) where
  pub low : {t : List Row} {x : List ℕ} → Stands (cells sh) (over t x) → row_of_cell (flag sh) < length t
  low p = omega (arith, p.canonical.long)

  -- R38: JPC chooses between T(l) and T(i+1), by the flag's row f.
  module _ (f : ℕ) (e : f ≡ row_of_cell (flag sh)) where
    abbrev pub jump_choosing : Choosing (length made) f y s made
    jump_choosing = record {
      first = w.first;
      drawn = w.drawn;
      stands = rw w.count w.stands;
      second = rw w.count w.second;
      low = rw e (low w.stands);
      count = refl;
    }

    pub jumps_jpc : (r : Answer (Unit {0})) (s' : LentTable) (made' : List ℕ) → Chooses (length made) f y s made r s' made'
        → Draws s r s' made' (jumped sh Jpc w.first y)
    jumps_jpc r s' made' g = rw e at (g jump_choosing)

  -- R38: JSC chooses between T(i+1) after T(l) and T(i+1).
  abbrev pub F : Heads
  F = called w.first y w.stands w.second

  -- No row is left for the call.
  pub call_full : {e : Refusal} → Exceeds s e F.tab → Exceeds s e (jumped sh Jsc w.first y).tab
  call_full o = exceeds-more (kept_refl s) o (ext_length (grown_ext (choice-grown F.tab (row_of_cell (flag sh)) F.heads y)))

  module _ (f : ℕ) (e : f ≡ row_of_cell (flag sh)) {s₁ : LentTable} {made₁ : List ℕ} (g : Drawn s₁ made₁ F)
      (size : length made₁ ≡ length made) where
    abbrev pub call_choosing : Choosing (length made₁) f y s₁ made₁
    call_choosing = record {
      first = F;
      drawn = g;
      stands = rw (size, w.count) (called-stands w.first y w.stands w.second);
      second = rw (size, w.count) (called-second w.first y w.stands w.second);
      low = rw e (low (called-second w.first y w.stands w.second));
      count = refl;
    }

    pub jumps_jsc : Kept s s₁ → (r : Answer (Unit {0})) (s' : LentTable) (made' : List ℕ)
        → Chooses (length made₁) f y s₁ made₁ r s' made' → Draws s r s' made' (jumped sh Jsc w.first y)
    jumps_jsc k r s' made' h = draws-before k r s' made' _ (rw e at (h call_choosing))
