use Rattle.epx_types.proofs.Common.{after-abort, writes_of-abort}
use Rattle.epx_laws.proofs.commands.abort_leaves_contents.Goals as goal

pub returns : goal.returns
returns c = λ ops d j abort. (after-abort ops d j abort, writes_of-abort ops d j abort)
