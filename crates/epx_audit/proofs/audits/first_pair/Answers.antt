use Rattle.std.proofs.Common.{◌≡◌, inl, inr, ℕ, ◌<◌, length, get_or, refl, subst, ap, arith}
use Rattle.epx_types.proofs.Common.{cases_lt, length-map, slice_get_within}
use Rattle.epx_graph.proofs.Common.{edges_of}
use Rattle.epx_components.specs.between.Partitions.{parts}
use Rattle.epx_audit.specs.inner.NodeConflicts.{keys_of, IsSettled}
use Rattle.epx_audit.proofs.BatchLemmas.{IsWhole-batch}
use Rattle.epx_audit.proofs.PartnerLemmas.{IsSettled-if_related_or_free}
use Rattle.epx_audit.proofs.audits.first_pair.Goals as goal

pub has_no_candidate-requires : goal.has_no_candidate-requires
has_no_candidate-requires c =
    record {
      whole = IsWhole-batch c.args.graph.now (parts c.args.partition.now)
          c.args.doubtful.now.touches.items c.args.sources.now c.in_ok-batch.batch c.args.ready.now
          c.in_ok-batch.ensures c.requires.partition c.requires.ready;
    }

pub returns-then-has_no_candidate-clause-first : goal.returns-then-has_no_candidate-clause-first
returns-then-has_no_candidate-clause-first c m same hold i j within above =
    let edges = edges_of c.args.graph.now in
    let ready = c.args.ready.now in
    let touches = c.args.doubtful.now.touches.items in
    let sources = c.args.sources.now in
    λ d e at to k_ready j_ready conflict.
    let below = slice_get_within m j e to in
    let rest = c.if-has_no_candidate.ensures refl c.args.graph.now touches sources i j
    c.in_ok-batch.ensures within
    (omega (
      arith,
      below,
      ap length same,
      length-map m keys_of,
      c.requires.nodes,
      c.requires.ready,
    )) in
    IsSettled-if_related_or_free m edges ready (get_or sources i 0) touches hold j above rest d e at
    to k_ready
    j_ready conflict

pub first_partner-requires-clause-whole : goal.first_partner-requires-clause-whole
first_partner-requires-clause-whole c =
    IsWhole-batch c.args.graph.now (parts c.args.partition.now) c.args.doubtful.now.touches.items
    c.args.sources.now c.in_ok-batch.batch c.args.ready.now c.in_ok-batch.ensures
    c.requires.partition c.requires.ready

pub returns-in-Some-clause-first : goal.returns-in-Some-clause-first
returns-in-Some-clause-first c m same hold =
    let found = c.in-Some.ensures.partner m c.args.graph.now c.args.doubtful.now.touches.items
    c.args.sources.now same hold c.in_ok-batch.ensures c.loop-bit-test.true refl in
    record {
      at = c.loop-bit.bit;
      source = (c.loop-bit-test.true, refl);
      before = c.loop-bit.invariant m same hold;
      partner = found;
    }

pub loop-bit-preserved : goal.loop-bit-preserved
loop-bit-preserved c m same hold i j below above =
    let edges = edges_of c.args.graph.now in
    let ready = c.args.ready.now in
    let sources = c.args.sources.now in
    let none = c.in_default.ensures.partner m c.args.graph.now c.args.doubtful.now.touches.items
    sources same hold c.in_ok-batch.ensures c.loop-bit-test.true refl in
    elim (cases_lt i c.loop-bit.bit) [
      | inl past ↦ c.loop-bit.invariant m same hold i j past above
      | inr here ↦
          let one : c.loop-bit.bit ≡ i = omega arith in
          (subst (λ i. (j : ℕ) → get_or sources i 0 < j
          → IsSettled m edges ready (get_or sources i 0) j) one none) j above
    ]
