use Prim.Native.Nat.{◌-◌}
use mathlib.Core.Path.{refl, sym, ap, ◌∙◌}
use Rattle.sets.specs.Fit.{equal_found, none_found}
use Rattle.sets.proofs.fit.none_equal.Goals as goal

pub returns-then-same_bytes : goal.returns-then-same_bytes
returns-then-same_bytes c =
    let n = ap (λ x. x - 1) c.rows_to-n.ensures in
    equal_found c.args.set.now _ _ c.requires _ _ _ c.place-first.ensures n refl _ c.loop-j-test.true
    (sym c.same_bytes.ensures ∙ c.if-same_bytes.true)

pub returns : goal.returns
returns c =
    let n = ap (λ x. x - 1) c.rows_to-n.ensures in
    none_found c.args.set.now _ _ c.requires _ _ _ c.place-first.ensures n refl _ _ c.loop-j-test.false
    c.rows_to-j.ensures c.loop-j.invariant
