-- `Program::instr` meets its contract: the contents are all there, and the body tells.
use Rattle.program.specs.Standing.{contents-there, tells}
use Rattle.program.specs.Accepted.{stands}
use Rattle.program.proofs.file.Program.instr.Goals as goal

pub instr_at-requires : goal.instr_at-requires
instr_at-requires c = let s = stands _ _ _ c.args.self.now.accepted _ c.requires in (s.low, s.most, contents-there _ _ _ _ s)

pub returns : goal.returns
returns c = tells _ _ _ _ (stands _ _ _ c.args.self.now.accepted _ c.requires) _ c.instr_at.ensures
