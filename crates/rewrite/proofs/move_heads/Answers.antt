-- `move_heads` meets its contract: one head more a turn.
use Rattle.std.proofs.Common.{◌∙◌, sym, arith}
use Rattle.std.proofs.lemmas.List.{length-map, get_or-map}
use Rattle.rows.specs.Heads.{heads_more}
use Rattle.rewrite.proofs.move_heads.Goals as goal

pub loop-c-preserved : goal.loop-c-preserved
loop-c-preserved c =
    heads_more _ _ _ _ c.loop-c.invariant (omega arith) (simp length-map (omega (arith, c.requires.count)))
    (c.number_of-head.ensures ∙ sym (get_or-map _ c.args.y.now _ 0 0 (omega (arith, c.requires.count))))
