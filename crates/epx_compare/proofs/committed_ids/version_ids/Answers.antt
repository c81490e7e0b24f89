use Rattle.epx_compare.proofs.CommittedIdLemmas.{ids-push}
use Rattle.epx_compare.proofs.committed_ids.version_ids.Goals as goal

pub loop-number-preserved : goal.loop-number-preserved
loop-number-preserved c =
    ids-push c.args.versions.now.keys c.loop-number.number c.entry.result.now
    c.loop-number.ids.items _ c.id.result c.entry.ensures
    c.in_ok-push.ensures.items c.loop-number.invariant c.id.ensures
