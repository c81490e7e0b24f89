use Rattle.epx_types.proofs.Common.{final-rearranged, reply-rearranged}
use Rattle.epx_laws.proofs.execution.rearrangements_execute_alike.Goals as goal

pub returns : goal.returns
returns c = λ commands positions arranged d.
    (final-rearranged commands positions arranged d, reply-rearranged commands positions arranged d)
