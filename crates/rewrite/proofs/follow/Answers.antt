-- `follow` meets its contract: a law for each end.
use Rattle.base.specs.Answers.{passed}
use Rattle.rewrite.specs.FollowLaws.{follow_start, follow_over, follow_done}
use Rattle.rewrite.proofs.follow.Goals as goal

pub carry_rows-requires : goal.carry_rows-requires
carry_rows-requires c = follow_start c.requires _ (rw (c.rows.ensures, c.used.ensures) at c.mark_reached.ensures)

pub returns-in_err-carry_rows-clause-follows : goal.returns-in_err-carry_rows-clause-follows
returns-in_err-carry_rows-clause-follows c =
    rw (passed c.from_residual.ensures.1)
    (λ w.
    let marks = rw (c.rows.ensures, c.used.ensures) at c.mark_reached.ensures in
    follow_over w _ marks (c.in_err-carry_rows.ensures.carries (follow_start w _ marks)))

pub returns-clause-follows : goal.returns-clause-follows
returns-clause-follows c w =
    follow_done w _ (rw (c.rows.ensures, c.used.ensures) at c.mark_reached.ensures) c.in_ok-carry_rows.ensures.carries _ c.move_heads.ensures
