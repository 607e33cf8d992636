use Rattle.std.proofs.Common.{arith}
use Rattle.text.specs.Puts.{ends}
use Rattle.lines.specs.Room.{refusal_fits}
use Rattle.lines.specs.Answer.{built-inside, built-part, text_built, text_unbuilt}
use Rattle.lines.proofs.put_built.Goals as goal

pub slice_bounds-print_set-end : goal.slice_bounds-print_set-end
slice_bounds-print_set-end c = built-inside _ _ _ c.build.ensures.builds c.in-Ok.is

pub slice_bounds-print_set-end-in-Ok : goal.slice_bounds-print_set-end-in-Ok
slice_bounds-print_set-end-in-Ok c = built-part _ _ _ c.build.ensures.builds c.in-Ok.is

pub print_set-requires : goal.print_set-requires
print_set-requires c =
    let B = c.build.ensures.builds in
    (omega (arith, built-part _ _ _ B c.in-Ok.is, built-inside _ _ _ B c.in-Ok.is, c.build.auto.out, c.requires.set_len.0), c.requires.set_len.1)

pub put_refusal-requires : goal.put_refusal-requires
put_refusal-requires c = refusal_fits _ _ _ c.requires.set_len.1

pub returns-in-Ok-clause-text_after : goal.returns-in-Ok-clause-text_after
returns-in-Ok-clause-text_after c =
    rw (text_built _ _ c.build.ensures.builds c.requires.rows_len c.requires.set_len.0 _ c.in-Ok.is) c.print_set.ensures.text_after

pub returns-in-Err : goal.returns-in-Err
returns-in-Err c = record {
  text_after = rw (text_unbuilt _ _ c.build.ensures.builds c.requires.rows_len c.requires.set_len.0 c.in-Err.x c.in-Err.is) c.put_refusal.ensures;
  upper_bound = ends _ _ _ c.put_refusal.ensures (refusal_fits _ _ _ c.requires.set_len.1);
}
