-- `find_entry` meets its contract: no row that was passed is the one.
use lib.ListN.{get_or}
use lib.Dec.{eqb}
use Rattle.laws.specs.Lists.{Searching}
use Rattle.rows.proofs.adding.find_entry.Given as goal

abbrev pub invariant-loop-i : goal.invariant-loop-i
invariant-loop-i l = Searching (λ k. eqb (get_or l.rows k 0) l.entry) l.start l.i
