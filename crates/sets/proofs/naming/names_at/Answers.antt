use Rattle.sets.specs.Naming.{names-none}
use Rattle.sets.proofs.naming.names_at.Goals as goal

pub returns-then-word-x-2 : goal.returns-then-word-x-2
returns-then-word-x-2 c = names-none _ _ _ _ _ c.word.ensures.0 c.word-then-word-x.ensures.0 c.if-word-x.true c.if-word-x-2.true
