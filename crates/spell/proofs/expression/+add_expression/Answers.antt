-- `add_expression` meets its contract: what is left to read falls at each call of itself.
use Rattle.base.specs.Answers.{passed}
use Rattle.rows.specs.Stored.{kept_trans}
use Rattle.spell.specs.SpellLaws.{spell_leaf, operand_spelling, spell_full, second_spelling, spell_addable}
use Rattle.spell.specs.SpellLaws.{spell_not, spell_not_full, spell_second_full, both-addable, spell_two, spell_two_full}
use Rattle.program.specs.Reading.{read-before, read-inside, second-later}
use lib.ListN.{get_or}
use native.Mathlib.Omega.{arith}
use Prim.Native.Nat.{◌<◌}
use Rattle.spell.proofs.expression.+add_expression.Goals as goal

pub overflow_add-result : goal.overflow_add-result
overflow_add-result t c = omega (arith, read-inside _ _ _ _ c.requires.legible)

pub returns-then-b-lt252-clause-spells : goal.returns-then-b-lt252-clause-spells
returns-then-b-lt252-clause-spells t c =
    spell_leaf _ _ _ _ _ c.requires (rw c.read_at-b.ensures at c.if-b-lt252.true) _ (rw c.read_at-b.ensures at c.leaf_row.ensures)

pub add_expression-requires : goal.add_expression-requires
add_expression-requires t c =
    (omega (arith, read-before _ _ _ _ c.requires.legible, c.decreases), operand_spelling _ _ _ _ _ c.requires (rw c.read_at-b.ensures at c.if-b-lt252.false))

pub returns-in_err-x-clause-spells : goal.returns-in_err-x-clause-spells
returns-in_err-x-clause-spells t c =
    rw (passed c.from_residual.ensures.1)
    (spell_full _ _ _ _ _ c.requires (rw c.read_at-b.ensures at c.if-b-lt252.false) c.in_err-x.ensures.spells)

pub add-requires : goal.add-requires
add-requires t c = spell_addable _ _ _ _ _ c.requires _ _ c.in_ok-x.ensures.spells (rw c.read_at-b.ensures at c.if-b.true)

pub returns-in_err-row-clause-spells : goal.returns-in_err-row-clause-spells
returns-in_err-row-clause-spells t c =
    let x = c.in_ok-x.ensures in
    rw (passed c.from_residual-in_err-row.ensures.1)
    (spell_not_full _ _ _ _ _ c.requires _ _ x.spells x.kept (rw c.read_at-b.ensures at c.if-b.true) c.in_err-row.ensures.adds)

pub returns-then-b-clause-spells : goal.returns-then-b-clause-spells
returns-then-b-clause-spells t c =
    let x = c.in_ok-x.ensures in
    spell_not _ _ _ _ _ c.requires _ _ x.spells x.kept (rw c.read_at-b.ensures at c.if-b.true) _ c.in_ok-row.ensures.adds

pub add_expression-requires-2 : goal.add_expression-requires-2
add_expression-requires-2 t c =
    let h : 252 < get_or c.args.file.now c.args.at 0 = omega (arith, c.if-b-lt252.false, c.if-b.false, c.read_at-b.ensures) in
    let e = c.in_ok-x.ensures.spells in
    let g = second_spelling _ _ _ _ _ c.requires _ _ e h in (
      omega (
        arith,
        second-later _ _ _ _ c.requires.legible h _ e.place,
        read-before _ _ _ _ c.requires.legible,
        read-before _ _ _ _ g.legible,
        c.decreases,
      ),
      g,
    )

pub returns-in_err-y-clause-spells : goal.returns-in_err-y-clause-spells
returns-in_err-y-clause-spells t c =
    let h : 252 < get_or c.args.file.now c.args.at 0 = omega (arith, c.if-b-lt252.false, c.if-b.false, c.read_at-b.ensures) in
    let x = c.in_ok-x.ensures in
    rw (passed c.from_residual-in_err-y.ensures.1)
    (spell_second_full _ _ _ _ _ c.requires _ _ x.spells x.kept h c.in_err-y.ensures.spells)

pub add-requires-2 : goal.add-requires-2
add-requires-2 t c =
    let h : 252 < get_or c.args.file.now c.args.at 0 = omega (arith, c.if-b-lt252.false, c.if-b.false, c.read_at-b.ensures) in
    both-addable _ _ _ _ _ c.requires _ _ c.in_ok-x.ensures.spells h _ _ c.in_ok-y.ensures.spells _

pub returns-in_err-row-2-clause-spells : goal.returns-in_err-row-2-clause-spells
returns-in_err-row-2-clause-spells t c =
    let h : 252 < get_or c.args.file.now c.args.at 0 = omega (arith, c.if-b-lt252.false, c.if-b.false, c.read_at-b.ensures) in
    let x = c.in_ok-x.ensures in
    let y = c.in_ok-y.ensures in
    rw (passed c.from_residual-in_err-row-2.ensures.1)
    (spell_two_full _ _ _ _ _ c.requires _ _ x.spells h _ _ y.spells (kept_trans x.kept y.kept)
    (rw c.read_at-b.ensures at c.in_err-row-2.ensures.adds))

pub returns-clause-spells : goal.returns-clause-spells
returns-clause-spells t c =
    let h : 252 < get_or c.args.file.now c.args.at 0 = omega (arith, c.if-b-lt252.false, c.if-b.false, c.read_at-b.ensures) in
    let x = c.in_ok-x.ensures in
    let y = c.in_ok-y.ensures in
    spell_two _ _ _ _ _ c.requires _ _ x.spells h _ _ y.spells (kept_trans x.kept y.kept) _
    (rw c.read_at-b.ensures at c.in_ok-row-2.ensures.adds)
