use Rattle.rows.specs.Entries.{entry_with}
use borrow.Author.Rules.{rules}
use Rattle.rows.proofs.node.entry_with.Goals as goal

pub returns : goal.returns
unfolding entry_with
returns c = search rules
