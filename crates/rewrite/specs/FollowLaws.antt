-- Laws of one set after another over one table: what its parts need, and a law for each end.
use Rattle.std.specs.Prelude.{ℕ, ◌≡◌, List, map, Ok}
use Rattle.std.proofs.Math.Path.{sym}
use Rattle.std.proofs.Common.{◌∙◌, arith, subst, ap₂}
use Rattle.std.proofs.Math.ListN.{length, get_or}
use Rattle.rules.specs.Shape.{Shape, cells}
use Rattle.rules.specs.Rows.{add}
use Rattle.rules.specs.Sets.{Heads, carry, after}
use Rattle.laws.specs.Lists.{map_ext}
use Rattle.laws.specs.After.{Stands, over}
use Rattle.base.specs.declared.refusal.Refusal.{Refusal}
use Rattle.table.specs.declared.LentTable.{LentTable}
use Rattle.rows.specs.Entries.{table_in}
use Rattle.rows.specs.Table.{Exceeds}
use Rattle.rows.specs.Making.{Drawn}
use Rattle.rows.specs.Stored.{stored-length}
use Rattle.reach.specs.Marks.{Reached}
use Rattle.rewrite.specs.Carrying.{Both, Carrying, Start, Carries}
use Rattle.rewrite.specs.Follow.{Following}

module _ {sh : Shape} {y : List ℕ} {s : LentTable} {made : List ℕ} {n : ℕ} (w : Following sh y s n made) where
  module _ (numbers : List ℕ) (marks : Reached (table_in s.rows.now s.state.used) y numbers) where
    abbrev X : Heads
    X = w.first

    -- The heads that `made` stands for, and y, with no row carried: the marks are set.
    abbrev both : Both made
    both = record {
      width = cells sh;
      tab = X.tab;
      second = y;
      one = subst (λ x. Stands (cells sh) (over w.first.tab x)) (sym w.drawn.same) w.stands;
      two = w.second;
    }

    pub begin : Carrying both s numbers 0
    unfolding carry
    begin =
        let m : Reached X.tab y numbers = rw w.drawn.stored.table at marks in
        record {
          low = omega arith;
          long = m.size;
          stored = w.drawn.stored;
          noted = λ i l. absurd (omega arith);
          marked = λ i _ l. m.exact i l;
        }

    abbrev pub follow_start : Start made s numbers
    follow_start = record { both = both; state = begin }

    carried-is : carry add X.tab made X.tab y s.state.used ≡ carry add X.tab X.heads X.tab y (length X.tab)
    carried-is = ap₂ (λ x k. carry add X.tab x X.tab y k) w.drawn.same (sym (stored-length w.drawn.stored))

    -- No row is left for all that y reaches.
    pub follow_over : {e : Refusal} → Exceeds s e (carry add X.tab made X.tab y s.state.used).tab → Exceeds s e (after X.tab X.heads X.tab y).tab
    unfolding after
    follow_over o = rw carried-is at o

    -- The table is that of y after the first set, and so are the heads.
    pub follow_done : {s' : LentTable} {numbers' : List ℕ} → Carries made s numbers (Ok tt) s' numbers' → (made' : List ℕ)
        → made' ≡ map (λ h. get_or numbers' h 0) y → Drawn s' made' (after X.tab X.heads X.tab y)
    unfolding after
    follow_done {numbers' = numbers'} c made' moved =
        let z = c follow_start in
        record {
          stored = rw carried-is at z.stored;
          same = moved ∙ map_ext (λ h. get_or numbers' h 0) (λ h. get_or (carry add X.tab X.heads X.tab y (length X.tab)).new h 0) 0 y
              (λ c _. rw carried-is at (z.noted (get_or y c 0) (omega (arith, w.second.low c, stored-length w.drawn.stored))));
        }
