-- `own_value` meets its contract: the main row, and the heads by the change, whatever the expression.
use mathlib.Core.Bool.{false}
use Rattle.rules.specs.Expr.{con}
use Rattle.base.specs.Answers.{passed}
use Rattle.own.specs.OwnLaws.{own-drawn, own-full}
use Rattle.own.proofs.own_value.Goals as goal

pub put_heads-requires-clause-source_bound : goal.put_heads-requires-clause-source_bound
put_heads-requires-clause-source_bound c =
    let g = c.change_value-change.ensures (con false) in
    (g.source, g.target, g.main)

pub returns-in_err-row-clause-owns : goal.returns-in_err-row-clause-owns
returns-in_err-row-clause-owns c =
    rw (passed c.from_residual.ensures.1)
    (λ x h. own-full _ _ _ (c.change_value-change.ensures x.got) (c.in_err-row.ensures.made x h))

pub returns-clause-owns : goal.returns-clause-owns
returns-clause-owns c = λ x h. own-drawn _ _ _ (c.change_value-change.ensures x.got) (c.in_ok-row.ensures.made x h) _ c.put_heads.ensures
