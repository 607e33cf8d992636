use mathlib.Core.Path.{◌≡◌}
use Rattle.machine.specs.declared.obey.Move.TheVariants.{On, Call, End}
use Rattle.base.specs.Answers.{passed}
use mathlib.Core.Path.{refl}
use Rattle.machine.specs.RunLaws.{ends_spent, ends_end, ends_on, ends_call, ends_lost}
use Rattle.machine.proofs.run.+run_from.Goals as goal

pub returns-then-left-eq0 : goal.returns-then-left-eq0
returns-then-left-eq0 t c = ends_spent _ _ _ _ _ refl c.if-left-eq0.true c.requires.stored

pub returns-in-End : goal.returns-in-End
returns-in-End t c =
    let e : c.obey.result ≡ End = cc in
    ends_end _ _ _ _ c.if-left-eq0.false _ (rw e at c.obey.ensures)

pub returns-in-On : goal.returns-in-On
returns-in-On t c =
    let e : c.obey.result ≡ On c.in-On.j = cc in
    ends_on _ _ _ _ c.if-left-eq0.false _ _ _ _ (rw e at c.obey.ensures) c.run_from.ensures

pub returns-in_ok-m-in-Call : goal.returns-in_ok-m-in-Call
returns-in_ok-m-in-Call t c =
    let e : c.obey.result ≡ Call c.in-Call.l = cc in
    let o = rw e at c.obey.ensures in
    ends_call _ _ _ _ c.if-left-eq0.false _ _ _ _ _ _ o (rw c.in_ok-m-in-Call.was at c.run_from-in-Call.ensures)
    c.run_from-in-Call-2.ensures

pub returns-in_err-m-in-Call : goal.returns-in_err-m-in-Call
returns-in_err-m-in-Call t c =
    let e : c.obey.result ≡ Call c.in-Call.l = cc in
    let o = rw e at c.obey.ensures in
    let p = passed c.from_residual.ensures.1 in
    rw p (ends_lost _ _ _ _ c.if-left-eq0.false _ _ _ _ o (rw c.in_err-m-in-Call.was at c.run_from-in-Call.ensures))
