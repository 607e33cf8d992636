-- `change_alone` meets its contract.
use Rattle.own.specs.ChangeLaws.{change_reset, change_flag, change_push, change_pop, change_fswp, change_eswp}
use mathlib.Core.Path.{ap}
use Prim.Native.Nat.{◌+◌}
use Rattle.own.proofs.heads.change_alone.Goals as goal

pub returns-in-Init : goal.returns-in-Init
returns-in-Init c = change_reset _ c.requires.deep _ _ _ c.flag-f.ensures c.change_of.ensures c.in-Init.is

pub returns-in-Not : goal.returns-in-Not
returns-in-Not c = change_flag _ c.requires.deep _ _ _ c.flag-f.ensures c.change_of-in-Not.ensures c.in-Not.is

pub returns-in-Push : goal.returns-in-Push
returns-in-Push c =
    change_push _ c.requires.deep _ _ _ (ap (λ n. n + 1) c.flag-f.ensures) c.change_of-in-Push.ensures c.in-Push.is

pub returns-in-Pop : goal.returns-in-Pop
returns-in-Pop c = change_pop _ c.requires.deep _ _ _ c.flag-f.ensures c.change_of-in-Pop.ensures c.in-Pop.is

pub returns-in-Fswp : goal.returns-in-Fswp
returns-in-Fswp c = rw c.in-Fswp.is (change_fswp _ c.requires.deep _ c.flag-f.ensures)

pub returns-in-Eswp : goal.returns-in-Eswp
returns-in-Eswp c = rw c.in-Eswp.is (change_eswp _ c.requires.deep _ c.flag-f.ensures)
