-- `evaluate_checked` meets its contract.
use mathlib.Core.Path.{sym}
use Rattle.base.specs.Answers.{passed}
use Rattle.sets.specs.Answer.{set-accepted, set-refused}
use Rattle.evaluate.specs.Evaluate.{evaluate_unread}
use Rattle.evaluate.proofs.evaluate_checked.Goals as goal

pub evaluate_accepted-requires : goal.evaluate_accepted-requires
evaluate_accepted-requires c = set-accepted _ c.check_set.result c.check_set.ensures c.in_ok-check_set.was

pub returns-in_err-check_set : goal.returns-in_err-check_set
returns-in_err-check_set c =
    let e = passed c.from_residual.ensures.1 in
    rw e (evaluate_unread _ _ _ _ (set-refused _ _ _ (sym (rw c.in_err-check_set.was at c.check_set.ensures))))
