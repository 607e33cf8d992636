use Rattle.std.proofs.Common.{arith}
use Rattle.base.specs.Words.{number-two}
use Rattle.base.proofs.bytes.word.Goals as goal

pub returns : goal.returns
returns c = (let s = c.args in (omega (arith, number-two s.file.now s.at), omega arith))
