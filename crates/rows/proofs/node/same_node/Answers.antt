use Rattle.rows.specs.Entries.{entry-same}
use Rattle.rows.proofs.node.same_node.Goals as goal

pub returns : goal.returns
returns c =
    let a = c.entry_of.ensures in
    let b = c.entry_of-2.ensures in
    rw (a.0, b.0) (entry-same _ _ a.1 b.1)
