-- `compose_checked` meets its contract: the files in their order.
use mathlib.Core.Path.{sym}
use Rattle.base.specs.Answers.{passed, mapped_ok, mapped_err}
use Rattle.sets.specs.Answer.{set-accepted, set-refused}
use Rattle.compose.specs.declared.Blame.TheVariants.{First, Second}
use Rattle.compose.specs.Answer.{first-refused, second-refused, composes-written}
use Rattle.compose.proofs.compose_checked.Goals as goal

pub compose_accepted-requires : goal.compose_accepted-requires
compose_accepted-requires c =
    let first = mapped_ok First _ _ c.map_err.ensures.cases _ c.in_ok-map_err.was in
    let second = mapped_ok Second _ _ c.map_err-2.ensures.cases _ c.in_ok-map_err-2.was in
    (set-accepted _ _ c.check_set.ensures first, set-accepted _ _ c.check_set-2.ensures second)

pub returns : goal.returns
returns c =
    let first = mapped_ok First _ _ c.map_err.ensures.cases _ c.in_ok-map_err.was in
    let second = mapped_ok Second _ _ c.map_err-2.ensures.cases _ c.in_ok-map_err-2.was in
    composes-written _ _ _ _ _ (set-accepted _ _ c.check_set.ensures first) (set-accepted _ _ c.check_set-2.ensures second)
    c.compose_accepted.result _ _ c.compose_accepted.ensures c.map_err-3.ensures.cases

pub returns-in_err-map_err : goal.returns-in_err-map_err
returns-in_err-map_err c =
    let (x, e, z) = mapped_err First _ _ c.map_err.ensures.cases _ c.in_err-map_err.was in
    rw (passed c.from_residual.ensures.1, z)
    (first-refused _ _ _ _ _ x (set-refused _ _ _ (sym (rw e at c.check_set.ensures))))

pub returns-in_err-map_err-2 : goal.returns-in_err-map_err-2
returns-in_err-map_err-2 c =
    let first = mapped_ok First _ _ c.map_err.ensures.cases _ c.in_ok-map_err.was in
    let (x, e, z) = mapped_err Second _ _ c.map_err-2.ensures.cases _ c.in_err-map_err-2.was in
    rw (passed c.from_residual-in_err-map_err-2.ensures.1, z)
    (second-refused _ _ _ _ _ (set-accepted _ _ c.check_set.ensures first) x (set-refused _ _ _ (sym (rw e at c.check_set-2.ensures))))
