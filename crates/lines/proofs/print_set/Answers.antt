use mathlib.Core.Path.{ap, sym, ◌∙◌}
use Rattle.base.specs.Answers.{verdict_of}
use Rattle.sets.specs.Answer.{set-accepted}
use Rattle.text.specs.Puts.{ends}
use Rattle.lines.specs.Room.{set-fits, refusal_fits}
use Rattle.lines.specs.Answer.{taken_text, unread_text}
use Rattle.lines.proofs.print_set.Goals as goal

pub put_set-requires : goal.put_set-requires
put_set-requires c =
    let a = set-accepted _ _ c.check_set.ensures c.in-Ok.is in
    record {
      taken = a;
      fits = set-fits _ a c.requires.0 _ c.requires.1;
    }

pub put_refusal-requires : goal.put_refusal-requires
put_refusal-requires c = refusal_fits _ _ _ c.requires.1

pub returns-in-Ok : goal.returns-in-Ok
returns-in-Ok c =
    let a = set-accepted _ _ c.check_set.ensures c.in-Ok.is in
    record {
      text_after = rw (taken_text _ a) c.put_set.ensures;
      upper_bound = ends _ _ _ c.put_set.ensures (set-fits _ a c.requires.0 _ c.requires.1);
    }

pub returns-in-Err : goal.returns-in-Err
returns-in-Err c = record {
  text_after = rw (unread_text _ c.in-Err.x (ap verdict_of (sym c.in-Err.is) ∙ c.check_set.ensures)) c.put_refusal.ensures;
  upper_bound = ends _ _ _ c.put_refusal.ensures (refusal_fits _ _ _ c.requires.1);
}
