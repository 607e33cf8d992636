-- `shape_at` meets its contract: a count is one byte.
use mathlib.Core.Path.{refl}
use Rattle.program.specs.Header.{shape-read}
use Rattle.program.proofs.header.shape_at.Goals as goal

pub returns : goal.returns
returns c =
    shape-read _ _ _ _ _ refl refl refl refl
