-- `compose_pair` meets its contract.
use native.Mathlib.Omega.{arith}
use mathlib.Core.Path.{ap, ◌∙◌}
use lib.ListN.{length}
use Rattle.base.specs.Answers.{passed}
use Rattle.carry.specs.CarryLaws.{carrying_start}
use Rattle.compose.specs.Answer.{first-full, carried-full}
use Rattle.compose.proofs.pair.compose_pair.Goals as goal

pub copy_rows-requires : goal.copy_rows-requires
copy_rows-requires c =
    let p = c.requires in
    record { taken = p.pair.one; shaped = p.pair.shaped; whole = p.whole; empty = c.empty-table.ensures.empty.1 }

pub returns-in_err-copy_rows : goal.returns-in_err-copy_rows
returns-in_err-copy_rows c =
    let p = c.requires in
    rw (passed c.from_residual.ensures.1)
    (first-full _ _ _ p.pair _ _ (ap length c.empty-table.ensures.empty.0) p.ready c.in_err-copy_rows.ensures.holds _)

pub carry_rows-requires : goal.carry_rows-requires
carry_rows-requires c =
    carrying_start _ _ _ c.requires.pair _ _ c.in_ok-copy_rows.ensures.holds (omega (arith, c.requires.ready.numbers_lent))

pub returns-in_err-carry_rows : goal.returns-in_err-carry_rows
returns-in_err-carry_rows c =
    let p = c.requires in
    let size = c.in_ok-copy_rows.ensures.kept.size ∙ ap length c.empty-table.ensures.empty.0 in
    rw (passed c.from_residual-in_err-carry_rows.ensures.1)
    (carried-full _ _ _ p.pair _ _ size p.ready c.in_err-carry_rows.ensures.carries _)

pub write_composed-requires : goal.write_composed-requires
write_composed-requires c =
    let carried = c.in_ok-carry_rows.ensures in
    let size = carried.kept.size ∙ c.in_ok-copy_rows.ensures.kept.size ∙ ap length c.empty-table.ensures.empty.0 in
    record { carrying = carried.carries; ready = rw (size, c.carry_rows.auto.numbers) c.requires.ready }

pub returns : goal.returns
returns c =
    let size = c.in_ok-carry_rows.ensures.kept.size ∙ c.in_ok-copy_rows.ensures.kept.size ∙ ap length c.empty-table.ensures.empty.0 in
    rw (size, c.carry_rows.auto.numbers) at c.write_composed.ensures
