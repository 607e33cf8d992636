-- `four_rows` meets its contract.
use Rattle.base.specs.Answers.{passed}
use Rattle.rows.specs.Stored.{kept_trans}
use Rattle.choice.specs.ChoiceLaws.{over_n, and-addable, over_a, other_addable, over_b, halves_addable, four_gives}
use Rattle.choice.proofs.four_rows.Goals as goal

pub returns-in_err-not_f-clause-picks : goal.returns-in_err-not_f-clause-picks
returns-in_err-not_f-clause-picks c =
    rw (passed c.from_residual.ensures.1)
    (record { gives = λ C t g. over_n _ _ _ g _ c.in_err-not_f.ensures.adds })

pub add-requires-2 : goal.add-requires-2
add-requires-2 c = and-addable _ _ c.args.y c.requires.among c.in_ok-not_f.ensures.adds

pub returns-in_err-left-clause-picks : goal.returns-in_err-left-clause-picks
returns-in_err-left-clause-picks c =
    let n = c.in_ok-not_f.ensures in
    rw (passed c.from_residual-in_err-left.ensures.1)
    (record { gives = λ C t g. over_a _ _ c.args.y g n.adds _ n.kept c.in_err-left.ensures.adds })

pub add-requires-3 : goal.add-requires-3
add-requires-3 c = other_addable _ _ _ c.requires.among c.in_ok-not_f.ensures.adds c.in_ok-left.ensures.adds

pub returns-in_err-right-clause-picks : goal.returns-in_err-right-clause-picks
returns-in_err-right-clause-picks c =
    let n = c.in_ok-not_f.ensures in
    let a = c.in_ok-left.ensures in
    rw (passed c.from_residual-in_err-right.ensures.1)
    (record { gives = λ C t g. over_b _ _ _ g n.adds a.adds _ (kept_trans n.kept a.kept) c.in_err-right.ensures.adds })

pub add-requires-4 : goal.add-requires-4
add-requires-4 c =
    halves_addable _ _ _ c.requires.among c.in_ok-not_f.ensures.adds c.in_ok-left.ensures.adds c.in_ok-right.ensures.adds

pub returns-clause-picks : goal.returns-clause-picks
returns-clause-picks c =
    let n = c.in_ok-not_f.ensures in
    let a = c.in_ok-left.ensures in
    let b = c.in_ok-right.ensures in
    record { gives = λ C t g. four_gives _ _ _ g n.adds a.adds b.adds _ _ (kept_trans (kept_trans n.kept a.kept) b.kept) c.add-4.ensures.adds }
