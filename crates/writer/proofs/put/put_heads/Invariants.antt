-- `writer::put::put_heads`: each turn writes one head.
use Rattle.std.proofs.Common.{◌≡◌, take}
use mathlib.Core.List.{flat_map}
use Rattle.rules.specs.Lists.{bytes_of}
use Rattle.writer.specs.Put.{put_at, new_heads}
use Rattle.writer.proofs.put.put_heads.Given as goal

abbrev pub invariant-loop-i : goal.invariant-loop-i
invariant-loop-i l = l.out ≡ put_at l.initial.out 7 (flat_map (bytes_of 2) (take l.i (new_heads l.numbers l.heads)))
