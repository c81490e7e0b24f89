use Rattle.std.proofs.Common.{subst}
use Rattle.epx_claims.proofs.SlotLemmas.{AreOrderedAnswers-more}
use Rattle.epx_claims.proofs.map.plain_map.Goals as goal

pub loop-i-preserved : goal.loop-i-preserved
loop-i-preserved g c =
    let answered = subst (λ r. goal.F-post g c.args.f.now c.loop-i.i r) c.in_ok-value.was
    c.f.ensures in
    AreOrderedAnswers-more _ _ _ _ _ c.loop-i.invariant c.in_ok-push_value.ensures answered
