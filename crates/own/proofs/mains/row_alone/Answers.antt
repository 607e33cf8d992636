-- `row_alone` meets its contract.
use Rattle.own.specs.Mains.{main_init, main-flag, main-second, main-top, row-stands, row-not, row_tand, row_tor}
use Rattle.own.proofs.mains.row_alone.Goals as goal

pub returns-in-Init-clause-made : goal.returns-in-Init-clause-made
returns-in-Init-clause-made c = row-stands c.requires _ _ (main_init _ _ c.in-Init.is)

pub returns-in-Not-clause-made : goal.returns-in-Not-clause-made
returns-in-Not-clause-made c =
    rw c.in-Not.is (row-not c.requires _ c.flag-f.ensures _ c.of_cell-x.ensures _ _ c.add.ensures.adds)

pub returns-in-Tand-clause-made : goal.returns-in-Tand-clause-made
returns-in-Tand-clause-made c =
    rw c.in-Tand.is
    (row_tand c.requires _ c.flag-f.ensures _ c.of_cell-x.ensures _ c.of_cell-y.ensures _ _ c.add-in-Tand.ensures.adds)

pub returns-in-Tor-clause-made : goal.returns-in-Tor-clause-made
returns-in-Tor-clause-made c =
    rw c.in-Tor.is
    (row_tor c.requires _ c.flag-f.ensures _ c.of_cell-x.ensures _ c.of_cell-y.ensures _ _ c.add-in-Tor.ensures.adds)

pub returns-in-Push-clause-made : goal.returns-in-Push-clause-made
returns-in-Push-clause-made c =
    row-stands c.requires _ _ (main-flag _ _ _ _ c.flag-f.ensures c.of_cell-x.ensures c.in-Push.is)

pub returns-in-Pop-clause-made : goal.returns-in-Pop-clause-made
returns-in-Pop-clause-made c =
    row-stands c.requires _ _ (main-top _ _ _ _ c.flag-f.ensures c.of_cell-y.ensures c.in-Pop.is)

pub returns-in-Eswp-clause-made : goal.returns-in-Eswp-clause-made
returns-in-Eswp-clause-made c =
    row-stands c.requires _ _ (main-second _ _ _ _ c.flag-f.ensures c.of_cell.ensures c.in-Eswp.is)
