-- `choose` meets its contract.
use mathlib.Core.Path.{refl, sym}
use borrow.Author.Tests.{eqb-true, eqb-false}
use Rattle.choice.specs.ChoiceLaws.{choose_keeps, choose-makes}
use Rattle.choice.proofs.choose.Goals as goal

pub returns-then-eq-clause-picks : goal.returns-then-eq-clause-picks
returns-then-eq-clause-picks c = choose_keeps c.args.x (eqb-true _ _ (sym c.if-eq.ensures)) refl

pub returns-clause-picks : goal.returns-clause-picks
returns-clause-picks c = choose-makes (eqb-false _ _ (sym c.if-eq.ensures)) c.four_rows.ensures.picks
