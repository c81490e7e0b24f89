use Rattle.epx_types.proofs.Common.{execute-append}
use Rattle.epx_laws.proofs.execution.execution_appends.Goals as goal

pub returns : goal.returns
returns c = execute-append
