use Rattle.sets.specs.Fit.{right-differs, left-differs, kind_decides}
use Rattle.sets.proofs.fit.same_bytes.Goals as goal

pub returns-then-word : goal.returns-then-word
returns-then-word c = right-differs _ _ _ _ _ c.word.ensures.0 c.word-2.ensures.0 c.if-word.true

pub returns-then-word-2 : goal.returns-then-word-2
returns-then-word-2 c =
    left-differs _ _ _ _ _ c.word.ensures.0 c.word-2.ensures.0 c.if-word.false _ _ c.word-3.ensures.0
    c.word-4.ensures.0 c.if-word-2.true

pub returns : goal.returns
returns c =
    kind_decides _ _ _ _ _ c.word.ensures.0 c.word-2.ensures.0 c.if-word.false _ _ c.word-3.ensures.0
    c.word-4.ensures.0 c.if-word-2.false
