-- `harness::read::number_of`: the four bytes are those of the definition.
use Rattle.std.proofs.Common.{arith}
use Rattle.harness.specs.Fields.{number_four}
use Rattle.harness.proofs.read.number_of.Goals as goal

pub returns : goal.returns
returns c = omega (arith, number_four c.args.b, c.from_le_bytes.ensures)
