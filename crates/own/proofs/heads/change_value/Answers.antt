-- `change_value` meets its contract.
use Rattle.own.specs.ChangeLaws.{change_epush, change_load}
use mathlib.Core.Path.{ap}
use Prim.Native.Nat.{◌+◌}
use Rattle.own.proofs.heads.change_value.Goals as goal

pub returns-in-Load : goal.returns-in-Load
returns-in-Load c = change_load _ c.requires.deep _ _ _ c.flag-f.ensures c.change_of.ensures c.in-Load.is

pub returns-in-Epush : goal.returns-in-Epush
returns-in-Epush c =
    rw c.in-Epush.is (change_epush _ c.requires.deep _ _ (ap (λ n. n + 1) c.flag-f.ensures) c.change_of-in-Epush.ensures)
