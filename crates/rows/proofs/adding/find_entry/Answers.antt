-- `find_entry` meets its contract: no row that was passed is the one.
use Prim.Native.Nat.{◌-◌}
use mathlib.Core.Path.{◌≡◌}
use native.Mathlib.Omega.{arith}
use borrow.Author.Rules.{rules}
use borrow.Author.Tests.{eq-eqb}
use Rattle.laws.specs.Lists.{searching_hit, searching_end}
use Rattle.rows.proofs.adding.find_entry.Goals as goal

pub returns-then-rows-i : goal.returns-then-rows-i
returns-then-rows-i c = (searching_hit _ _ c.loop-i.invariant (omega arith) (eq-eqb _ _ c.if-rows-i.true), search rules)

pub returns : goal.returns
returns c =
    let e : c.loop-i.i ≡ c.args.used = omega (arith, c.requires) in
    (rw e at (searching_end (c.args.used - c.args.start) _ c.loop-i.invariant (omega (arith, c.requires))), search rules)
