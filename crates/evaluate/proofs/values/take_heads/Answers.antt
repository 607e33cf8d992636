-- `take_heads` meets its contract: one cell more a turn.
use native.Mathlib.Omega.{arith}
use Rattle.evaluate.specs.ValueLaws.{head-low, heads-more, heads_all}
use Rattle.evaluate.proofs.values.take_heads.Goals as goal

pub bounds-values-at : goal.bounds-values-at
bounds-values-at c =
    omega (
      arith,
      head-low _ _ c.requires.evaluable.0 _ _ (omega (arith, c.loop-c.invariant.size, c.loop-c-test.true))
          c.head-head.ensures,
      c.requires.evaluable.1,
    )

pub loop-c-preserved : goal.loop-c-preserved
loop-c-preserved c =
    heads-more _ _ c.requires.evaluable.0 c.args.values.now _ _ _ c.requires.valued c.loop-c.invariant
    (omega (arith, c.loop-c.invariant.size, c.loop-c-test.true)) c.head-head.ensures

pub returns : goal.returns
returns c =
    heads_all _ _ c.requires.evaluable.0 _ _ c.loop-c.invariant (omega (arith, c.loop-c.invariant.size, c.loop-c-test.false))
