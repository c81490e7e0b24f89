use Rattle.epx_types.proofs.Common.{length-replies}
use Rattle.epx_laws.proofs.execution.each_command_replies.Goals as goal

pub returns : goal.returns
returns c = length-replies
