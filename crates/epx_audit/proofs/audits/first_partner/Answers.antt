use Rattle.std.proofs.Common.{◌≡◌, Some, IsTrue, slice_get, sym, subst, ap, ◌∙◌, arith}
use Rattle.epx_types.proofs.Common.{false≢true, slice_get-get_or}
use Rattle.epx_graph.proofs.Common.{edges_of}
use Rattle.epx_audit.specs.inner.Batches.{IsReadyApart}
use Rattle.epx_audit.specs.inner.DoubtfulKeys.{IsRelatedOrFree}
use Rattle.epx_audit.specs.inner.NodeConflicts.{IsSettled}
use Rattle.epx_audit.specs.inner.SourceBits.{has_bit}
use Rattle.epx_audit.proofs.PartnerLemmas.{IsSettled-next, IsSettled-if_related_or_free}
use Rattle.epx_audit.proofs.PartnerLemmas.{IsSettled-by_keys}
use Rattle.epx_audit.proofs.PartnerLemmas.{IsPartner-from_conflict, IsSettled-at_end}
use Rattle.epx_audit.proofs.audits.first_partner.Goals as goal
use Rattle.epx_audit.proofs.audits.first_partner.Goals.{else-has_bit-via-then-has_bit+else-conflict}
use Rattle.epx_audit.proofs.audits.first_partner.Goals.{else-has_bit-via-else-has_bit}

pub returns-then-conflict-clause-partner : goal.returns-then-conflict-clause-partner
returns-then-conflict-clause-partner c m g touches sources same hold batch within source =
    let edges = edges_of g in
    let ready = c.args.ready.now in
    let keys = c.args.keys.now in
    let k = c.args.source in
    let j = c.loop-other.other in
    let at : slice_get keys k ≡ Some c.index-keys-source.result =
    slice_get-get_or keys k c.index-keys-source.result c.requires.source
    ∙ ap Some (sym c.index-keys-source.is) in
    let to : slice_get keys j ≡ Some c.index-keys-other.result =
    slice_get-get_or keys j c.index-keys-other.result c.loop-other-test.true
    ∙ ap Some (sym c.index-keys-other.is) in
    let bit : IsTrue (has_bit c.args.bit c.candidates.result) =
    sym c.has_bit.ensures ∙ c.if-has_bit.true in
    let apart = subst (λ k. IsReadyApart edges ready k j) source
    (c.candidates.ensures.apart g touches sources c.args.bit batch within bit) in
    IsPartner-from_conflict m edges ready k keys same j c.index-keys-source.result
    c.index-keys-other.result (omega (arith, c.loop-other.auto.other)) c.requires.ready at to
    apart (c.conflict.ensures.0 c.if-conflict.true)
    (c.loop-other.invariant m g touches sources same hold batch within source)

pub loop-other-preserved : goal.loop-other-preserved
loop-other-preserved c m g touches sources same hold batch within source i above below =
    let edges = edges_of g in
    let ready = c.args.ready.now in
    let keys = c.args.keys.now in
    let k = c.args.source in
    let j = c.loop-other.other in
    let here : IsSettled m edges ready k j = elim c.else-has_bit.branch [
      | else-has_bit-via-then-has_bit+else-conflict w ↦
          IsSettled-by_keys m edges ready k keys same j w.index-keys-source.result
          w.index-keys-other.result
          (slice_get-get_or keys k w.index-keys-source.result c.requires.source
          ∙ ap Some (sym w.index-keys-source.is))
          (slice_get-get_or keys j w.index-keys-other.result c.loop-other-test.true
          ∙ ap Some (sym w.index-keys-other.is))
          (λ conflict. false≢true (sym w.if-conflict.false ∙ w.conflict.ensures.1 conflict))
      | else-has_bit-via-else-has_bit w ↦
          let rest = subst (λ k. IsRelatedOrFree edges ready touches k j) source
          (c.candidates.ensures.rest g touches sources c.args.bit batch within
          (λ h. false≢true (sym w.if-has_bit.false ∙ (c.has_bit.ensures ∙ h)))) in
          IsSettled-if_related_or_free m edges ready k touches hold j
          (omega (arith, c.loop-other.auto.other))
          rest
    ] in
    IsSettled-next m edges ready k j
    (c.loop-other.invariant m g touches sources same hold batch within source) here i above
    below

pub returns-clause-partner : goal.returns-clause-partner
returns-clause-partner c m g touches sources same hold batch within source =
    IsSettled-at_end m (edges_of g) c.args.ready.now c.args.source c.args.keys.now same
    c.loop-other.other c.loop-other-test.false
    (c.loop-other.invariant m g touches sources same hold batch within source)
