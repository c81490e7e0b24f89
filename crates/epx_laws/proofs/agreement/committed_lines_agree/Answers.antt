use Rattle.epx_types.proofs.Common.{IsCommittedBy-Agree}
use Rattle.epx_laws.proofs.agreement.committed_lines_agree.Goals as goal

pub returns : goal.returns
returns c = IsCommittedBy-Agree
