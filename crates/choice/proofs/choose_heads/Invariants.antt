-- `choose_heads` meets its contract: one cell more a turn.
use lib.ListN.{length}
use Rattle.table.specs.Append.{Kept}
use Rattle.choice.specs.Choosing.{Choosing}
use Rattle.choice.specs.ChoiceLaws.{Chosen}
use Rattle.choice.proofs.choose_heads.Given as goal

abbrev pub invariant-loop-c : goal.invariant-loop-c
invariant-loop-c l = Kept l.initial.table l.table
    × ((w : Choosing (length l.initial.made) l.f.0 l.y l.initial.table l.initial.made) → Chosen (length l.initial.made) l.f.0 l.y w.first l.table l.made l.c)
