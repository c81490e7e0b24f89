use Rattle.epx_follow.proofs.OpenBatchLemmas.{IsHeld-passed}
use Rattle.epx_follow.proofs.held_lines.HeldLines.take_read.Goals as goal

pub returns-in-Ok-Blank-clause-held : goal.returns-in-Ok-Blank-clause-held
returns-in-Ok-Blank-clause-held c = IsHeld-passed c.args.executor.now c.args.self.now
    c.pass_line.new.self c.requires.held c.pass_line.ensures
