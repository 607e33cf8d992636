-- `word_in` meets its contract: the low byte comes first.
use native.Mathlib.Omega.{arith}
use Rattle.base.specs.Words.{number-two}
use Rattle.reader.proofs.body.word_in.Goals as goal

pub returns : goal.returns
returns c =
    let a = c.args in (
      omega (arith, number-two a.file.now a.at, c.read_at.ensures, c.read_at-2.ensures),
      omega arith,
    )
