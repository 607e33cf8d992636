use Rattle.rows.specs.Entries.{entry-made}
use Rattle.rows.proofs.node.entry_of.Goals as goal

pub returns-in-Leaf : goal.returns-in-Leaf
returns-in-Leaf c = entry-made _ _ _ _ _ c.entry_with.ensures (cc) (cc) (cc)

pub returns-in-Not : goal.returns-in-Not
returns-in-Not c = entry-made _ _ _ _ _ c.entry_with-in-Not.ensures (cc) (cc) (cc)

pub returns-then-o : goal.returns-then-o
returns-then-o c = entry-made _ _ _ _ _ c.entry_with-then-o.ensures (cc) (cc) (cc)

pub returns-else-o : goal.returns-else-o
returns-else-o c = entry-made _ _ _ _ _ c.entry_with-else-o.ensures (cc) (cc) (cc)
