use Rattle.writer.specs.Finish.{finish_tabled, finish-written}
use Rattle.writer.proofs.write_finished.Goals as goal

pub write_table-requires : goal.write_table-requires
write_table-requires c = finish_tabled _ _ _ _ _ c.requires

pub returns : goal.returns
returns c = finish-written _ _ _ _ _ _ _ c.write_table.ensures
