use Rattle.std.proofs.Common.{inl, inr, ap, arith, length, option_and_then, slice_get}
use Rattle.epx_types.proofs.Common.{length-map}
use Rattle.epx_report.proofs.PairLemmas.{flat_map-zip_at_end}
use Rattle.epx_linear.specs.ClientCalls.{call_of}
use Rattle.epx_linear.specs.LinearTexts.{findings_at}
use Rattle.epx_linear.proofs.FindingLemmas.{length-zip_nil}
use Rattle.epx_linear.proofs.answer.append_findings.Goals as goal

-- the loop ends at the end of one of the lists, and there are as many places as instances
pub returns : goal.returns
returns c =
    let h = c.args.history.now in
    let it = c.loop-id.id-iterator in
    let is = c.loop-id.invariant in
    let as_many = ap length is.places in
    flat_map-zip_at_end (findings_at h) _ _ _ _ is.text
    (elim c.in-None.ensures.steps [
      | inl pairs ↦ elim pairs.1 [
        | inl named ↦ inl
            (length-zip_nil _ _ (elim named.1 [ inl x ↦ inl x.1.0 | inr y ↦ inr y.1.0 ]))
        | inr late ↦ inr late.1.0
      ]
      | inr places ↦ inl (length-zip_nil _ _ (inl (omega (
        arith,
        places.1.0,
        as_many,
        length-map it.b.rest.now (option_and_then (slice_get h)),
        length-map it.a.a.a.rest.now (call_of h),
      ))))
    ])
