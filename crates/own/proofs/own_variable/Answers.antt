-- `own_variable` meets its contract: the main row, and the heads by the change.
use Rattle.base.specs.Answers.{passed}
use Rattle.own.specs.OwnLaws.{own-drawn, own-full}
use Rattle.own.proofs.own_variable.Goals as goal

pub returns-in_err-row-clause-owns : goal.returns-in_err-row-clause-owns
returns-in_err-row-clause-owns c =
    rw (passed c.from_residual.ensures.1) (own-full _ _ _ c.change_variable-change.ensures c.in_err-row.ensures.made)

pub returns-clause-owns : goal.returns-clause-owns
returns-clause-owns c = own-drawn _ _ _ c.change_variable-change.ensures c.in_ok-row.ensures.made _ c.put_heads.ensures
