use Rattle.std.proofs.Common.{◌≡◌, ◌+◌, ◌-◌, ◌*◌, ◌<◌, All, length, length-take}
use Rattle.std.proofs.Common.{length-drop, take, drop, min, IsTrue, sym, subst, arith, ap}
use Rattle.epx_graph.proofs.Common.{edges_of}
use Rattle.epx_components.specs.between.ReadyMarks.{is_marked}
use Rattle.epx_audit.specs.inner.Sources.{AreSources, AreSettled}
use Rattle.epx_audit.proofs.SourceLemmas.{All-part_ready, All-part_in_range, get_or-take_drop}
use Rattle.epx_audit.proofs.SourceLemmas.{IsSettled-below}
use Rattle.epx_audit.proofs.SourceLemmas.{AreSettled-batch, IsLeastPair-from_first}
use Rattle.epx_audit.proofs.audits.find_pair.Goals as goal

pub find_sources-requires : goal.find_sources-requires
find_sources-requires c = omega (
  arith,
  ap length c.deref.ensures.value,
  c.requires.unsettled,
  c.requires.nodes,
  c.requires.ready,
)

pub first_pair-requires-clause-in_range : goal.first_pair-requires-clause-in_range
first_pair-requires-clause-in_range c =
    let ready = c.args.ready.now in
    let unsettled = c.args.doubtful.now.unsettled.items in
    let touches = c.args.doubtful.now.touches.items in
    let sources = c.in_ok-sources.sources.items in
    let are = subst (λ us. AreSources ready us sources) c.deref.ensures.value
    c.in_ok-sources.ensures in
    let n = c.min-end.result - c.min-first.result in
    subst (λ xs. All (λ k. k < length c.args.keys.now) (take n (drop c.min-first.result xs)))
    (sym c.deref-in-loop-number.ensures.value)
    (All-part_in_range ready unsettled sources are c.min-first.result n (length c.args.keys.now)
    (omega (arith, c.requires.unsettled)))

pub first_pair-requires-clause-sources : goal.first_pair-requires-clause-sources
first_pair-requires-clause-sources c =
    let ready = c.args.ready.now in
    let unsettled = c.args.doubtful.now.unsettled.items in
    let touches = c.args.doubtful.now.touches.items in
    let sources = c.in_ok-sources.sources.items in
    let are = subst (λ us. AreSources ready us sources) c.deref.ensures.value
    c.in_ok-sources.ensures in
    let n = c.min-end.result - c.min-first.result in
    subst (λ xs. All (λ k. IsTrue (is_marked ready k)) (take n (drop c.min-first.result xs)))
    (sym c.deref-in-loop-number.ensures.value)
    (All-part_ready ready unsettled sources are c.min-first.result n)

pub returns-in-Some-clause-least : goal.returns-in-Some-clause-least
returns-in-Some-clause-least c m same hold settled =
    let edges = edges_of c.args.graph.now in
    let ready = c.args.ready.now in
    let unsettled = c.args.doubtful.now.unsettled.items in
    let touches = c.args.doubtful.now.touches.items in
    let sources = c.in_ok-sources.sources.items in
    let are = subst (λ us. AreSources ready us sources) c.deref.ensures.value
    c.in_ok-sources.ensures in
    let first = c.min-first.result in
    let n = c.min-end.result - first in
    let found = rw (c.in-Some.is, c.deref-in-loop-number.ensures.value) at
    (c.in_ok-pair.ensures.first m same hold) in
    let count : min (length sources) (c.loop-number.number * 64) ≡ first =
    omega (arith, c.min-first.ensures, c.len.ensures) in
    let before : AreSettled m edges ready sources first =
    subst (AreSettled m edges ready sources) count (c.loop-number.invariant m same hold) in
    IsLeastPair-from_first m edges ready touches unsettled sources are hold settled first n before
    c.in-Some.pair.0 c.in-Some.pair.1 found

pub loop-number-preserved : goal.loop-number-preserved
loop-number-preserved c m same hold =
    let edges = edges_of c.args.graph.now in
    let ready = c.args.ready.now in
    let sources = c.in_ok-sources.sources.items in
    let first = c.min-first.result in
    let n = c.min-end.result - first in
    let part = take n (drop first sources) in
    let none : AreSettled m edges ready part (length part) =
    rw (c.in_default.is, c.deref-in-loop-number.ensures.value) at
    (c.in_ok-pair.ensures.first m same hold) in
    let count : min (length sources) (c.loop-number.number * 64) ≡ first =
    omega (arith, c.min-first.ensures, c.len.ensures) in
    let before : AreSettled m edges ready sources first =
    subst (AreSettled m edges ready sources) count (c.loop-number.invariant m same hold) in
    let done : AreSettled m edges ready sources (first + length part) =
    AreSettled-batch m edges ready sources part first (length part)
    (get_or-take_drop sources first n)
    (omega arith) before none in
    let reached : first + length part ≡ min (length sources) ((c.loop-number.number + 1) * 64) =
    omega (
      arith,
      count,
      c.min-end.ensures,
      c.len-in-loop-number.ensures,
      length-take n (drop first sources),
      length-drop first sources,
    ) in
    subst (AreSettled m edges ready sources) reached done

pub returns-clause-least : goal.returns-clause-least
returns-clause-least c m same hold settled k j above =
    let edges = edges_of c.args.graph.now in
    let ready = c.args.ready.now in
    let unsettled = c.args.doubtful.now.unsettled.items in
    let touches = c.args.doubtful.now.touches.items in
    let sources = c.in_ok-sources.sources.items in
    let are = subst (λ us. AreSources ready us sources) c.deref.ensures.value
    c.in_ok-sources.ensures in
    let end : min (length sources) (c.loop-number.number * 64) ≡ length sources =
    omega (arith, c.loop-number-test.false, c.len.ensures) in
    let done : AreSettled m edges ready sources (length sources) =
    subst (AreSettled m edges ready sources) end (c.loop-number.invariant m same hold) in
    IsSettled-below m edges ready touches unsettled sources are hold settled (length sources) done k
    j
    (λ i l is. l) above
