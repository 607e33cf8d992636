-- `change_variable` meets its contract.
use Rattle.own.specs.ChangeLaws.{change_store, change_edge}
use Rattle.own.proofs.heads.change_variable.Goals as goal

pub returns-in-Store : goal.returns-in-Store
returns-in-Store c = change_store _ c.requires.inside.deep _ _ _ c.flag-f.ensures c.requires.variable c.in-Store.is

pub returns-in-Redge : goal.returns-in-Redge
returns-in-Redge c = change_edge _ c.requires.inside.deep _ _ _ c.flag-f.ensures c.requires.variable c.in-Redge.is
