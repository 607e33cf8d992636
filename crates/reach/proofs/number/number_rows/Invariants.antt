-- `reach::number::number_rows`: each turn numbers one row.
use Rattle.reach.specs.Numbers.{numbering, Counting}
use Rattle.reach.proofs.number.number_rows.Given as goal

abbrev pub invariant-loop-k : goal.invariant-loop-k
invariant-loop-k l = Counting l.leaves l.initial.numbers l.k (numbering l.next l.numbers)
