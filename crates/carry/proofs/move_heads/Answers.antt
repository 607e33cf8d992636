-- `move_heads` meets its contract: one head more a turn.
use native.Mathlib.Omega.{arith}
use lib.Seq.{take_all}
use Rattle.rows.specs.Heads.{heads_more}
use Rattle.carry.specs.CarryLaws.{head-known, given-length, given-at}
use Rattle.carry.proofs.move_heads.Goals as goal

pub number_of-head-requires : goal.number_of-head-requires
number_of-head-requires c = head-known _ _ _ c.requires.pair _ _ c.requires _ _ (omega arith) c.head_in.ensures

pub loop-c-preserved : goal.loop-c-preserved
loop-c-preserved c =
    let p = c.requires.pair in
    heads_more _ _ _ _ c.loop-c.invariant (omega arith) (omega (arith, given-length _ _ _ p _ _ c.requires))
    (given-at _ _ _ p _ _ c.requires _ _ _ (omega arith) c.head_in.ensures c.number_of-head.ensures)

pub returns : goal.returns
returns c = grind (arith, take_all, given-length _ _ _ c.requires.pair _ _ c.requires)
