-- `choose_heads` meets its contract: one cell more a turn.
use native.Mathlib.Omega.{arith}
use borrow.Author.Rules.{rules}
use Rattle.base.specs.Answers.{passed}
use Rattle.choice.specs.ChoiceLaws.{chosen_none, chosen_needs, chosen_over, chosen_more, chosen_all}
use Rattle.choice.proofs.choose_heads.Goals as goal

pub loop-c-init : goal.loop-c-init
loop-c-init c = (search rules, λ w. chosen_none w)

pub choose-requires : goal.choose-requires
choose-requires c = chosen_needs c.requires _ (omega arith) (c.loop-c.invariant.1 c.requires)

pub returns-in_err-head-clause-chooses : goal.returns-in_err-head-clause-chooses
returns-in_err-head-clause-chooses c =
    rw (passed c.from_residual.ensures.1)
    (λ w. chosen_over w _ (omega arith) (c.loop-c.invariant.1 w) c.loop-c.invariant.0 c.in_err-head.ensures.picks)

pub loop-c-preserved : goal.loop-c-preserved
loop-c-preserved c =
    (search rules, λ w. chosen_more w _ (omega arith) (c.loop-c.invariant.1 w) c.in_ok-head.ensures.picks)

pub returns-clause-chooses : goal.returns-clause-chooses
returns-clause-chooses c = λ w. chosen_all w _ (c.loop-c.invariant.1 w) (omega arith)
