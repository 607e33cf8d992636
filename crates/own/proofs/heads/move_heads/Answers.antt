-- `move_heads` meets its contract: one head more a turn.
use Rattle.std.proofs.Common.{◌∙◌, sym, arith, take_all}
use Rattle.std.proofs.lemmas.List.{length-map}
use Rattle.laws.specs.Lists.{length_from, get_or-map-from}
use Rattle.rows.specs.Heads.{heads_more}
use Rattle.own.proofs.heads.move_heads.Goals as goal

pub loop-c-preserved : goal.loop-c-preserved
loop-c-preserved c =
    heads_more _ _ _ _ c.loop-c.invariant (omega arith) (simp (length-map, length_from) (omega arith))
    (c.head_by.ensures ∙ sym (get_or-map-from _ 0 _ _ (omega arith)))

pub returns : goal.returns
returns c = grind (arith, take_all, length-map, length_from)
