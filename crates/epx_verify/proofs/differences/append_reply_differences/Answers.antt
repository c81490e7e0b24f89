use Rattle.std.proofs.Common.{inl, inr}
use Rattle.epx_report.proofs.PairLemmas.{flat_map-zip_at_end}
use Rattle.epx_verify.specs.Differences.{reply_difference}
use Rattle.epx_verify.proofs.differences.append_reply_differences.Goals as goal

-- the loop ends at the end of one of the two lists
pub returns : goal.returns
returns c = flat_map-zip_at_end reply_difference _ _ _ _ c.loop-id.invariant
    (elim c.in-None.ensures.steps [ inl a ↦ inl a.1.0 | inr b ↦ inr b.1.0 ])
