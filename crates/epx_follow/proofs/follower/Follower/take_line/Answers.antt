use Rattle.epx_follow.proofs.OpenBatchLemmas.{IsHeld-passed}
use Rattle.epx_follow.proofs.follower.Follower.take_line.Goals as goal

pub invariant_of-passed : goal.invariant_of-passed
invariant_of-passed g c = IsHeld-passed c.self.inside.executor c.self.inside.held
    c.pass_line.new.self c.self.invariant c.pass_line.ensures
