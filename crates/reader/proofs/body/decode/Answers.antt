-- `decode` meets its contract: a body is what its code takes.
use mathlib.Core.Path.{sym, ap, ◌∙◌}
use lib.ListN.{get_or-eq_default}
use Rattle.reader.specs.Codes.{code_among}
use Rattle.reader.specs.Bodies.{body_in, body_is}
use Rattle.reader.specs.declared.body.Body.TheVariants.{Variable, Label}
use Rattle.reader.proofs.body.decode.Goals as goal

pub returns-then-file-at : goal.returns-then-file-at
unfolding code_among body_in
returns-then-file-at c = rw (get_or-eq_default c.args.file.now 0 c.if-file-at.true)

pub returns-in-Alone : goal.returns-in-Alone
returns-in-Alone c = body_is _ _ _ _ c.read_at.ensures (sym c.in-Alone.is ∙ c.code_of.ensures)

pub returns-in-Value : goal.returns-in-Value
returns-in-Value c = body_is _ _ _ _ c.read_at.ensures (sym c.in-Value.is ∙ c.code_of.ensures)

pub returns-in-Variable : goal.returns-in-Variable
returns-in-Variable c =
    ap (λ b. Variable c.in-Variable.code (record { 0 = b })) (c.from.ensures ∙ c.read_at-in-Variable.ensures)
    ∙ body_is _ _ _ _ c.read_at.ensures (sym c.in-Variable.is ∙ c.code_of.ensures)

pub returns-in-Label : goal.returns-in-Label
returns-in-Label c =
    ap (λ l. Label c.in-Label.code (record { 0 = l })) (c.of_word.ensures ∙ c.word_in.ensures.0)
    ∙ body_is _ _ _ _ c.read_at.ensures (sym c.in-Label.is ∙ c.code_of.ensures)

pub returns-in-Unknown : goal.returns-in-Unknown
returns-in-Unknown c = body_is _ _ _ _ c.read_at.ensures (sym c.in-Unknown.is ∙ c.code_of.ensures)
