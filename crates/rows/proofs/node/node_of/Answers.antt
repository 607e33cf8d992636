use mathlib.Core.Path.{refl}
use Rattle.rows.specs.Entries.{entry-kind, entry-rest}
use Rattle.rows.proofs.node.node_of.Goals as goal

pub returns-in-0 : goal.returns-in-0
returns-in-0 c = entry-kind _ 0 c.in-0.is

pub returns-in-1 : goal.returns-in-1
returns-in-1 c = entry-kind _ 1 c.in-1.is

pub returns-in-2 : goal.returns-in-2
returns-in-2 c = entry-kind _ 2 c.in-2.is

pub returns-in_default : goal.returns-in_default
returns-in_default c =
    entry-rest _ _ refl c.in_default.in_default-own.rest.0.0.1 c.in_default.in_default-own.rest.0.1 c.in_default.in_default-own.rest.1
