use Rattle.sets.specs.Naming.{named-by-head, named-by-row}
use Rattle.sets.proofs.naming.row_named.Goals as goal

pub returns-then-is_head : goal.returns-then-is_head
returns-then-is_head c = named-by-head _ _ _ _ c.is_head.ensures c.if-is_head.true

pub returns : goal.returns
returns c = named-by-row _ _ _ _ c.is_head.ensures c.if-is_head.false _ c.is_operand.ensures
