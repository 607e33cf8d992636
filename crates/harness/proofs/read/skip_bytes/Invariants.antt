-- `harness::read::skip_bytes` ends: the measure is the number of bytes that are left, and each turn reads at least one.
use Rattle.harness.proofs.read.skip_bytes.Given as goal

abbrev pub decreases-loop-left : goal.decreases-loop-left
decreases-loop-left g l = l.left
