use Rattle.epx_audit.proofs.SourceListLemmas.{AreSourcesBelow}
use Rattle.epx_audit.proofs.audits.find_sources.Given as goal

abbrev pub invariant-loop-node : goal.invariant-loop-node
invariant-loop-node l = AreSourcesBelow l.ready l.unsettled l.sources.items l.node
