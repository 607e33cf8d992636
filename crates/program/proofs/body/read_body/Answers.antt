-- `read_body` meets its contract: where a body ends is known from its parts.
use mathlib.Core.Path.{refl, sym, ◌∙◌}
use native.Mathlib.Omega.{arith}
use Rattle.base.specs.Answers.{shape_of}
use Rattle.reader.specs.Bodies.{body_matches}
use Rattle.program.specs.Body.{found}
use Rattle.program.proofs.body.read_body.Goals as goal

pub check_variable-requires : goal.check_variable-requires
check_variable-requires c = (body_matches _ _ _ (sym c.in-Variable.is ∙ c.decode.ensures)).1

pub check_label-requires : goal.check_label-requires
check_label-requires c = ((body_matches _ _ _ (sym c.in-Label.is ∙ c.decode.ensures)).1, omega (arith, c.requires))

pub returns-in-Alone : goal.returns-in-Alone
returns-in-Alone c =
    let a = c.args in found a.file.now (shape_of a.shape) a.n a.i.0 a.at _ (sym c.in-Alone.is ∙ c.decode.ensures) refl

pub returns-in-Value : goal.returns-in-Value
returns-in-Value c =
    let a = c.args in
    let e = sym c.in-Value.is ∙ c.decode.ensures in
    let q = (body_matches _ _ _ e).1 in
    found a.file.now (shape_of a.shape) a.n a.i.0 a.at _ e
    ((rw c.vars.ensures at c.read_expr.ensures).is 64 (omega arith))

pub returns-in-Variable : goal.returns-in-Variable
returns-in-Variable c =
    let a = c.args in found a.file.now (shape_of a.shape) a.n a.i.0 a.at _ (sym c.in-Variable.is ∙ c.decode.ensures) c.check_variable.ensures

pub returns-in-Label : goal.returns-in-Label
returns-in-Label c =
    let a = c.args in found a.file.now (shape_of a.shape) a.n a.i.0 a.at _ (sym c.in-Label.is ∙ c.decode.ensures) c.check_label.ensures

pub returns-in-Unknown : goal.returns-in-Unknown
returns-in-Unknown c =
    let a = c.args in found a.file.now (shape_of a.shape) a.n a.i.0 a.at _ (sym c.in-Unknown.is ∙ c.decode.ensures) refl
