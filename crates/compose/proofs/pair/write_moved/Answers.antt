-- `write_moved` meets its contract.
use Rattle.compose.specs.Answer.{moving, finishing, finished}
use Rattle.compose.proofs.pair.write_moved.Goals as goal

pub move_heads-requires : goal.move_heads-requires
move_heads-requires c = moving _ _ _ _ _ c.requires.0 _ c.requires.1

pub write_finished-requires : goal.write_finished-requires
write_finished-requires c = finishing _ _ _ _ _ c.requires.0 _ c.move_heads.ensures

pub returns : goal.returns
returns c = finished _ _ _ _ _ c.requires.0 _ c.move_heads.ensures _ _ _ c.write_finished.ensures
