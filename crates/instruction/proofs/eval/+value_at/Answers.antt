use native.Mathlib.Omega.{arith}
use Rattle.program.specs.Reading.{read-before, read-inside, read_variable, second-later}
use Rattle.instruction.specs.ValueLaws.{value_variable, value_constant, operand-readable, value_not, second-readable, value-two}
use Prim.Native.Nat.{◌<◌}
use lib.ListN.{get_or}
use Rattle.instruction.proofs.eval.+value_at.Goals as goal

pub bounds-s-b : goal.bounds-s-b
bounds-s-b t c =
    (let h = read_variable _ _ _ _ c.requires.legible (rw c.read_at-b.ensures at c.if-b-lt250.true) in omega
    (arith, h, c.requires.enough, c.read_at-b.ensures))

pub overflow_add-result : goal.overflow_add-result
overflow_add-result t c = omega (arith, read-inside _ _ _ _ c.requires.legible)

pub returns-then-b-lt250 : goal.returns-then-b-lt250
returns-then-b-lt250 t c =
    rw (c.read_at-b.ensures)
    (value_variable _ _ _ _ _ c.requires (rw c.read_at-b.ensures at c.if-b-lt250.true))

pub overflow_add-result-then-b-lt252 : goal.overflow_add-result-then-b-lt252
overflow_add-result-then-b-lt252 t c = omega (arith, read-inside _ _ _ _ c.requires.legible)

pub returns-then-b-lt252 : goal.returns-then-b-lt252
returns-then-b-lt252 t c =
    rw c.read_at-b.ensures
    (value_constant _ _ _ _ _ c.requires (rw c.read_at-b.ensures at c.if-b-lt250.false) (rw c.read_at-b.ensures at c.if-b-lt252.true))

pub overflow_add-at : goal.overflow_add-at
overflow_add-at t c = omega (arith, read-inside _ _ _ _ c.requires.legible)

pub value_at-x-requires : goal.value_at-x-requires
value_at-x-requires t c =
    (omega (arith, read-before _ _ _ _ c.requires.legible), operand-readable _ _ _ _ _ c.requires (rw c.read_at-b.ensures at c.if-b-lt252.false))

pub overflow_sub-result-then-b : goal.overflow_sub-result-then-b
overflow_sub-result-then-b t c = omega (arith, c.value_at-x.ensures.small)

pub returns-then-b : goal.returns-then-b
returns-then-b t c = value_not _ _ _ _ _ c.requires (rw c.read_at-b.ensures at c.if-b.true) _ c.value_at-x.ensures

pub value_at-y-requires : goal.value_at-y-requires
value_at-y-requires t c =
    let a = c.args in
    let h : 252 < get_or a.file.now a.at 0 = omega (arith, c.if-b-lt252.false, c.if-b.false, c.read_at-b.ensures) in (
      omega (
        arith,
        second-later _ _ _ _ c.requires.legible h _ c.value_at-x.ensures.place,
        read-before _ _ _ _ c.requires.legible,
        read-before _ _ _ _ (second-readable _ _ _ _ _ c.requires h _ c.value_at-x.ensures).legible,
      ),
      second-readable _ _ _ _ _ c.requires h _ c.value_at-x.ensures,
    )

pub returns : goal.returns
returns t c =
    let a = c.args in
    let h : 252 < get_or a.file.now a.at 0 = omega (arith, c.if-b-lt252.false, c.if-b.false, c.read_at-b.ensures) in
    rw (c.join.ensures, c.read_at-b.ensures) (value-two _ _ _ _ _ c.requires h _ _ c.value_at-x.ensures c.value_at-y.ensures)
