use Rattle.epx_types.proofs.Common.{reply-abort}
use Rattle.epx_laws.proofs.commands.abort_names_index.Goals as goal

pub returns : goal.returns
returns c = reply-abort
