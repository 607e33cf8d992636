-- `turn_heads` meets its contract: a law for each kind of body.
use mathlib.Core.Path.{ap, ◌∙◌}
use lib.ListN.{length}
use Rattle.base.specs.Answers.{passed}
use Rattle.reader.specs.Codes.{alone_of, on_alone, on_expr, on_variable, alone-plain}
use Rattle.program.specs.Standing.{contents-there, most-vars}
use Rattle.turn.proofs.TurnLaws.{Acted, place, told, never-unknown, plain-next, owning, own_over, end_turned}
use Rattle.turn.proofs.TurnLaws.{own-following, plain-turned, label_cut, label_next, label_length, jumping, jump_turned}
use Rattle.turn.proofs.turn_heads.Goals as goal
use Rattle.turn.proofs.turn_heads.Goals.{Joined-instr_at, in-Alone+in_default+in_ok-own_alone-in_default}
use Rattle.turn.proofs.turn_heads.Goals.{in-Value+in_ok-own_value-in-Value, in-Variable+in_ok-own_variable-in-Variable}

pub instr_at-requires : goal.instr_at-requires
instr_at-requires c = let s = place c.requires in (s.low, s.most, contents-there _ _ _ _ s)

pub own_alone-requires : goal.own_alone-requires
own_alone-requires c = owning c.requires

pub returns-in-End-clause-turned : goal.returns-in-End-clause-turned
returns-in-End-clause-turned c =
    end_turned c.requires _ c.own_alone.new.table _ (rw c.in-End.is at c.own_alone.ensures.owns)
    (told c.requires c.instr_at.ensures c.in-Alone.is ∙ ap on_alone c.in-End.is)

pub own_alone-requires-in_default : goal.own_alone-requires-in_default
own_alone-requires-in_default c = owning c.requires

pub returns-in_err-own_alone-in_default-clause-turned : goal.returns-in_err-own_alone-in_default-clause-turned
returns-in_err-own_alone-in_default-clause-turned c =
    rw (passed c.from_residual.ensures.1)
    (own_over c.requires _ c.in_err-own_alone-in_default.ensures.owns
    (told c.requires c.instr_at.ensures c.in-Alone.is ∙ alone-plain _ c.in_default.not-End))

pub own_value-requires : goal.own_value-requires
own_value-requires c =
    let t = told c.requires c.instr_at.ensures c.in-Value.is in
    record {
      owning = owning c.requires;
      expression = (t.0, record { what = t.1; reads = t.2; most = most-vars _ _ _ _ (place c.requires) });
    }

pub returns-in_err-own_value-in-Value-clause-turned : goal.returns-in_err-own_value-in-Value-clause-turned
returns-in_err-own_value-in-Value-clause-turned c =
    let t = told c.requires c.instr_at.ensures c.in-Value.is in
    rw (passed c.from_residual-in_err-own_value-in-Value.ensures.1)
    (own_over c.requires _ (c.in_err-own_value-in-Value.ensures.owns t.1 t.2) t.3)

pub own_variable-requires : goal.own_variable-requires
own_variable-requires c =
    record {
      owning = owning c.requires;
      variable = (told c.requires c.instr_at.ensures c.in-Variable.is).0;
    }

pub returns-in_err-own_variable-in-Variable-clause-turned : goal.returns-in_err-own_variable-in-Variable-clause-turned
returns-in_err-own_variable-in-Variable-clause-turned c =
    rw (passed c.from_residual-in_err-own_variable-in-Variable.ensures.1)
    (own_over c.requires _ c.in_err-own_variable-in-Variable.ensures.owns (told c.requires c.instr_at.ensures c.in-Variable.is).1)

pub slot_in-requires : goal.slot_in-requires
slot_in-requires c =
    label_cut c.requires _ _ (told c.requires c.instr_at.ensures c.in-Label.is) _ c.cells-cells.ensures

pub copy_heads-requires : goal.copy_heads-requires
copy_heads-requires c =
    ap length (rw c.cells-cells.ensures at c.slot_in.ensures) ∙ label_length c.requires _ _ (told c.requires c.instr_at.ensures c.in-Label.is)

pub slot_in-ahead-requires : goal.slot_in-ahead-requires
slot_in-ahead-requires c =
    label_next c.requires _ _ (told c.requires c.instr_at.ensures c.in-Label.is) _ c.cells-cells.ensures

pub jump_heads-requires : goal.jump_heads-requires
jump_heads-requires c =
    jumping c.requires _ _ (told c.requires c.instr_at.ensures c.in-Label.is) _ (rw c.cells-cells.ensures at c.slot_in-ahead.ensures) _
    (c.copy_heads.ensures ∙ (rw c.cells-cells.ensures at c.slot_in.ensures))

pub returns-in-Label-clause-turned : goal.returns-in-Label-clause-turned
returns-in-Label-clause-turned c =
    jump_turned c.requires _ _ (told c.requires c.instr_at.ensures c.in-Label.is) _ (rw c.cells-cells.ensures at c.slot_in-ahead.ensures) _
    (c.copy_heads.ensures ∙ (rw c.cells-cells.ensures at c.slot_in.ensures)) _ c.jump_heads.new.table _
    c.jump_heads.ensures.jumps

pub unreachable-requires : goal.unreachable-requires
unreachable-requires c = never-unknown c.requires c.instr_at.ensures c.in-Unknown.is

-- R38: where the bodies that are plain meet, their own set is made.
acted : (c : Joined-instr_at)
    → Acted c.args.file.now c.args.shape c.args.i.0 c.args.table.now c.args.made.now c.match-instr_at.table c.match-instr_at.made
acted c = elim c.match-instr_at.branch [
  | in-Alone+in_default+in_ok-own_alone-in_default w ↦
      let own = w.in_ok-own_alone-in_default.ensures in
      rw (w.table-is, w.made-is) (record {
        what = alone_of w.in-Alone.code;
        is = told c.requires c.instr_at.ensures w.in-Alone.is ∙ alone-plain _ w.in_default.not-End;
        kept = own.kept;
        owns = own.owns;
        size = w.own_alone-in_default.auto.made;
      })
  | in-Value+in_ok-own_value-in-Value w ↦
      let t = told c.requires c.instr_at.ensures w.in-Value.is in
      let own = w.in_ok-own_value-in-Value.ensures in
      rw (w.table-is, w.made-is) (record {
        what = on_expr w.in-Value.code t.1.got;
        is = t.3;
        kept = own.kept;
        owns = own.owns t.1 t.2;
        size = w.own_value.auto.made;
      })
  | in-Variable+in_ok-own_variable-in-Variable w ↦
      let own = w.in_ok-own_variable-in-Variable.ensures in
      rw (w.table-is, w.made-is) (record {
        what = on_variable w.in-Variable.code w.in-Variable.b.0;
        is = (told c.requires c.instr_at.ensures w.in-Variable.is).1;
        kept = own.kept;
        owns = own.owns;
        size = w.own_variable.auto.made;
      })
]

pub slot_in-requires-2 : goal.slot_in-requires-2
slot_in-requires-2 c = plain-next c.requires (acted c) _ c.cells-cells.ensures

pub follow-requires : goal.follow-requires
follow-requires c =
    own-following c.requires (acted (goal.at.follow-requires c).Joined-instr_at) _ (rw c.cells-cells.ensures at c.slot_in-2.ensures)

pub returns-clause-turned : goal.returns-clause-turned
returns-clause-turned c =
    plain-turned c.requires (acted (goal.at.returns-clause-turned c).Joined-instr_at) _ (rw c.cells-cells.ensures at c.slot_in-2.ensures)
    _ c.follow.new.table _ c.follow.ensures.follows
