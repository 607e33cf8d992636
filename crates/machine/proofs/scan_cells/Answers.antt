use lib.Seq.{length-take-le}
use mathlib.Core.Path.{sym}
use Rattle.machine.specs.ObeyLaws.{cells-most}
use native.Mathlib.Omega.{arith}
use Rattle.machine.proofs.scan_cells.Goals as goal

pub slice_bounds-copy-end : goal.slice_bounds-copy-end
slice_bounds-copy-end c = omega (arith, cells-most _ _ _ c.requires)

pub slice_bounds-scan_on-end : goal.slice_bounds-scan_on-end
slice_bounds-scan_on-end c = sym (length-take-le _ _ (cells-most _ _ _ c.requires))

pub scan_on-requires : goal.scan_on-requires
scan_on-requires c =
    record {
      runnable = c.requires;
      storage_len = sym (length-take-le _ _ (cells-most _ _ _ c.requires));
    }
