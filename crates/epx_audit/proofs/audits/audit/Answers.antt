use Rattle.std.proofs.Common.{length, sym, subst, ap, ◌∙◌, arith}
use Rattle.epx_types.proofs.Common.{length-map}
use Rattle.epx_graph.proofs.Common.{edges_of, committed-count}
use Rattle.epx_audit.specs.inner.NodeConflicts.{keys_of}
use Rattle.epx_components.specs.between.ReadyMarks.{AreReadyMarks}
use Rattle.epx_audit.specs.inner.Sources.{IsLeastPair}
use Rattle.epx_audit.proofs.UncoveredPairLemmas.{IsCovered-from_settled}
use Rattle.epx_audit.proofs.UncoveredPairLemmas.{IsLeastUncovered-from_partner}
use Rattle.epx_audit.proofs.audits.audit.Goals as goal

pub find_pair-requires-clause-doubtful : goal.find_pair-requires-clause-doubtful
find_pair-requires-clause-doubtful c t h =
    let in_range = c.in_ok-doubtful.ensures.in_range t h in (
      omega (
        arith,
        in_range.0,
        ap length (c.deref-2.ensures.value ∙ c.in_ok-keys.ensures),
        length-map c.args.merged.now keys_of,
      ),
      in_range.1,
    )

pub find_pair-requires-clause-unsettled : goal.find_pair-requires-clause-unsettled
find_pair-requires-clause-unsettled c = omega (
  arith,
  c.in_ok-doubtful.ensures.marks,
  ap length (c.deref-2.ensures.value ∙ c.in_ok-keys.ensures),
  length-map c.args.merged.now keys_of,
)

pub id-requires-in-Some : goal.id-requires-in-Some
id-requires-in-Some c =
    let m = c.args.merged.now in
    let pair = rw c.in-Some.is at c.in_ok-node.ensures.in_range in
    omega (
      arith,
      pair.1,
      ap length (c.deref-2.ensures.value ∙ c.in_ok-keys.ensures),
      length-map m keys_of,
      committed-count m c.args.graph.now c.requires.graph,
      c.requires.graph.graph.committed_nodes,
    )

pub returns-in-Some : goal.returns-in-Some
returns-in-Some c =
    let m = c.args.merged.now in
    let g = c.args.graph.now in
    let ready = c.deref.result.now in
    let marks : AreReadyMarks g ready =
    subst (AreReadyMarks g) (sym c.deref.ensures.value) c.in_ok-ready.ensures in
    let hold = c.in_ok-doubtful.ensures.whole ready marks in
    let pair : IsLeastPair m (edges_of g) ready c.in-Some.node c.in-Some.other =
    rw c.in-Some.is at
    (c.in_ok-node.ensures.least m (c.deref-2.ensures.value ∙ c.in_ok-keys.ensures) hold
    c.in_ok-doubtful.ensures.settled) in
    IsLeastUncovered-from_partner m g c.requires.graph ready marks c.in-Some.node c.in-Some.other
    c.id.result
    c.id-in-Some.result c.id.ensures c.id-in-Some.ensures pair.before pair.partner

pub returns : goal.returns
returns c =
    let m = c.args.merged.now in
    let g = c.args.graph.now in
    let ready = c.deref.result.now in
    let marks : AreReadyMarks g ready =
    subst (AreReadyMarks g) (sym c.deref.ensures.value) c.in_ok-ready.ensures in
    let hold = c.in_ok-doubtful.ensures.whole ready marks in
    let none = rw c.in-None.is at
    (c.in_ok-node.ensures.least m (c.deref-2.ensures.value ∙ c.in_ok-keys.ensures) hold
    c.in_ok-doubtful.ensures.settled) in
    IsCovered-from_settled m g c.requires.graph ready marks (λ k j l above. none k j above)
