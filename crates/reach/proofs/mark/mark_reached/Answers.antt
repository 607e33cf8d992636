-- `reach::mark::mark_reached`: each turn goes through one row, the last first.
use mathlib.Core.Path.{refl}
use Rattle.reach.specs.Marks.{walk_heads, walk_fits, walk_more, walk_done}
use native.Mathlib.Omega.{arith}
use borrow.Author.Rules.{rules}
use Rattle.reach.proofs.mark.mark_reached.Goals as goal

pub loop-k-init : goal.loop-k-init
loop-k-init c = walk_heads c.requires c.args.numbers.now refl (search rules) c.mark_heads.ensures

pub mark_from-requires : goal.mark_from-requires
mark_from-requires c = walk_fits c.requires (omega arith) (omega arith) c.loop-k.invariant

pub loop-k-preserved : goal.loop-k-preserved
loop-k-preserved c = walk_more c.requires (omega arith) (omega arith) c.loop-k.invariant c.mark_from.ensures

pub returns : goal.returns
returns c = walk_done c.requires (omega arith) c.loop-k.invariant
