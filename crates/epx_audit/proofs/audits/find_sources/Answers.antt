use Rattle.std.proofs.Common.{◌≡◌, ◌+◌, ◌++◌, ◌∷◌, [], List, length, sym, subst, ap, ◌∙◌, arith}
use Rattle.epx_types.proofs.Common.{false≢true}
use Rattle.epx_audit.proofs.SourceListLemmas.{AreSourcesBelow, AreSourcesBelow-skip}
use Rattle.epx_audit.proofs.SourceListLemmas.{AreSourcesBelow-push}
use Rattle.epx_audit.proofs.SourceListLemmas.{AreSources-from_below}
use Rattle.epx_audit.proofs.audits.find_sources.Goals as goal
use Rattle.epx_audit.proofs.audits.find_sources.Goals.{then-ready-node+then-unsettled-node+in_ok-push}
use Rattle.epx_audit.proofs.audits.find_sources.Goals.{else-ready-node}
use Rattle.epx_audit.proofs.audits.find_sources.Goals.{else-ready-node-via-then-ready-node+else-unsettled-node}
use Rattle.epx_audit.proofs.audits.find_sources.Goals.{else-ready-node-via-else-ready-node}

pub loop-node-preserved : goal.loop-node-preserved
loop-node-preserved c =
    let ready = c.args.ready.now in
    let unsettled = c.args.unsettled.now in
    let n = c.loop-node.node in
    let old = c.loop-node.sources.items in
    let Below : List _ → Type 0 = λ sources. AreSourcesBelow ready unsettled sources (n + 1) in
    elim c.if-ready-node.branch [
      | then-ready-node+then-unsettled-node+in_ok-push w ↦
          let new : c.if-ready-node.sources.items ≡ old ++ n ∷ [] =
          ap (λ v. v.items) w.sources-is ∙ w.in_ok-push.ensures.items in
          subst Below (sym new) (AreSourcesBelow-push ready unsettled old n c.loop-node.invariant
          w.if-ready-node.true w.if-unsettled-node.true)
      | else-ready-node w ↦
          let same : c.if-ready-node.sources.items ≡ old = ap (λ v. v.items) w.sources-is in
          subst Below (sym same) (AreSourcesBelow-skip ready unsettled old n c.loop-node.invariant
          (λ is_ready marked. elim w.else-ready-node.branch [
            | else-ready-node-via-then-ready-node+else-unsettled-node w' ↦ false≢true
                (sym w'.if-unsettled-node.false ∙ marked)
            | else-ready-node-via-else-ready-node w' ↦ false≢true
                (sym w'.if-ready-node.false ∙ is_ready)
          ]))
    ]

pub returns : goal.returns
returns c =
    let ready = c.args.ready.now in
    let unsettled = c.args.unsettled.now in
    let end : c.loop-node.node ≡ length unsettled =
    omega (arith, c.loop-node-test.false, c.loop-node.auto.node-end) in
    AreSources-from_below ready unsettled c.loop-node.sources.items
    (subst (AreSourcesBelow ready unsettled c.loop-node.sources.items) end c.loop-node.invariant)
