use Rattle.std.proofs.Common.{◌≡◌, ℕ, ◌<◌, List, Bool, true, length, length-set}
use Rattle.std.proofs.Common.{IsTrue, sym, subst, ap, ◌∙◌, arith}
use Rattle.epx_types.proofs.Common.{Contains-get_or, with_items_is, take_at}
use Rattle.epx_graph.proofs.Common.{edges_of}
use Rattle.epx_components.specs.between.ReadyMarks.{is_marked}
use Rattle.epx_audit.specs.inner.DoubtfulKeys.{HoldUnsettled}
use Rattle.epx_audit.specs.inner.UnsettledNodes.{doubtful_at}
use Rattle.epx_audit.proofs.UnsettledNodeLemmas.{HoldUnsettled-from_follow, is_marked-next}
use Rattle.epx_audit.proofs.UnsettledNodeLemmas.{FollowAll-more_marks}
use Rattle.epx_audit.proofs.UnsettledNodeLemmas.{HoldUnsettled-if_all_marked}
use Rattle.epx_audit.proofs.unsettled_nodes.unsettled_nodes.Goals as goal

pub mark_unsettled-requires-clause-rise : goal.mark_unsettled-requires-clause-rise
mark_unsettled-requires-clause-rise c = c.keys_rise.ensures c.if-keys_rise.true

pub mark_unsettled-requires-clause-touches : goal.mark_unsettled-requires-clause-touches
mark_unsettled-requires-clause-touches c t h = omega (
  arith,
  c.requires.touches t h,
  ap length c.deref_mut.ensures.value,
  c.in_ok-unsettled.ensures.len,
  c.in_ok-unsettled.unsettled.ok.0,
)

pub mark_unsettled-requires-clause-in_graph : goal.mark_unsettled-requires-clause-in_graph
mark_unsettled-requires-clause-in_graph c t h = c.requires.in_graph t h

pub mark_unsettled-requires-then-keys_rise-clause-rise :
    goal.mark_unsettled-requires-then-keys_rise-clause-rise
mark_unsettled-requires-then-keys_rise-clause-rise c = c.keys_rise.ensures c.if-keys_rise.true

pub mark_unsettled-requires-then-keys_rise-clause-touches :
    goal.mark_unsettled-requires-then-keys_rise-clause-touches
mark_unsettled-requires-then-keys_rise-clause-touches c t h =
    let vec = c.in_ok-unsettled.unsettled in
    let new = c.mark_unsettled.new.unsettled in
    let len : length new ≡ length vec.items =
    c.mark_unsettled.ensures.len ∙ ap length c.deref_mut.ensures.value in
    let written = with_items_is vec new (len ∙ sym vec.ok.0) in
    omega (
      arith,
      c.requires.touches t h,
      ap length (c.deref_mut-then-keys_rise.ensures.value ∙ written),
      len,
      c.in_ok-unsettled.ensures.len,
      vec.ok.0,
    )

pub mark_unsettled-requires-then-keys_rise-clause-in_graph :
    goal.mark_unsettled-requires-then-keys_rise-clause-in_graph
mark_unsettled-requires-then-keys_rise-clause-in_graph c t h = c.requires.in_graph t h

pub returns-then-keys_rise-clause-len : goal.returns-then-keys_rise-clause-len
returns-then-keys_rise-clause-len c =
    let vec = c.in_ok-unsettled.unsettled in
    let new = c.mark_unsettled.new.unsettled in
    let last = c.mark_unsettled-then-keys_rise.new.unsettled in
    let len : length new ≡ length vec.items =
    c.mark_unsettled.ensures.len ∙ ap length c.deref_mut.ensures.value in
    let written = with_items_is vec new (len ∙ sym vec.ok.0) in
    let last_len : length last ≡ length vec.items = c.mark_unsettled-then-keys_rise.ensures.len
    ∙ ap length (c.deref_mut-then-keys_rise.ensures.value ∙ written) ∙ len in
    let count : length vec.items ≡ c.args.nodes =
    omega (arith, c.in_ok-unsettled.ensures.len, vec.ok.0) in
    ap length (take_at last _ vec.len (last_len ∙ sym vec.ok.0)) ∙ last_len ∙ count

pub returns-then-keys_rise-clause-unsettled : goal.returns-then-keys_rise-clause-unsettled
returns-then-keys_rise-clause-unsettled c g index =
    let edges = edges_of g in
    let touches = c.args.touches.now in
    let vec = c.in_ok-unsettled.unsettled in
    let new = c.mark_unsettled.new.unsettled in
    let last = c.mark_unsettled-then-keys_rise.new.unsettled in
    let len : length new ≡ length vec.items =
    c.mark_unsettled.ensures.len ∙ ap length c.deref_mut.ensures.value in
    let written = with_items_is vec new (len ∙ sym vec.ok.0) in
    let read : c.deref_mut-then-keys_rise.result.now ≡ new =
    c.deref_mut-then-keys_rise.ensures.value ∙ written in
    let last_len : length last ≡ length vec.items =
    c.mark_unsettled-then-keys_rise.ensures.len ∙ ap length read ∙ len in
    let keeps : (k : ℕ) → IsTrue (is_marked new k) → IsTrue (is_marked last k) =
    λ k h. c.mark_unsettled-then-keys_rise.ensures.keeps k
    (subst (λ (ms : List Bool). IsTrue (is_marked ms k)) (sym read) h) in
    subst (HoldUnsettled edges touches) (sym (take_at last _ vec.len (last_len ∙ sym vec.ok.0)))
    (HoldUnsettled-from_follow edges touches last
    (FollowAll-more_marks edges true touches new last (length touches) keeps
    (c.in_ok-mark_unsettled.ensures.unsettled g index))
    (c.in_ok-mark_unsettled-2.ensures.unsettled g index))

pub loop-touch-init : goal.loop-touch-init
loop-touch-init c = record {
  len = omega (arith, c.in_ok-unsettled.ensures.len, c.in_ok-unsettled.unsettled.ok.0);
  marks = λ i below. absurd (omega arith);
}

pub index_mut-requires : goal.index_mut-requires
index_mut-requires c =
    let touches = c.args.touches.now in
    let within = c.requires.touches (doubtful_at touches c.loop-touch.touch-index)
    (Contains-get_or touches c.loop-touch.touch-index _ c.loop-touch-test.true) in
    omega (arith, within, c.loop-touch.invariant.len, c.loop-touch.unsettled.ok.0)

pub loop-touch-preserved : goal.loop-touch-preserved
loop-touch-preserved c =
    let touches = c.args.touches.now in
    let n = c.loop-touch.touch-index in
    let marks = c.loop-touch.unsettled.items in
    let held = c.requires.touches (doubtful_at touches n)
    (Contains-get_or touches n _ c.loop-touch-test.true) in
    let within : (doubtful_at touches n).node < length marks =
    omega (arith, held, c.loop-touch.invariant.len) in
    record {
      len = length-set marks _ _ ∙ c.loop-touch.invariant.len;
      marks = is_marked-next touches marks n within c.loop-touch.invariant.marks;
    }

pub returns-clause-unsettled : goal.returns-clause-unsettled
returns-clause-unsettled c g index = HoldUnsettled-if_all_marked (edges_of g) c.args.touches.now
    c.loop-touch.unsettled.items (λ i l. c.loop-touch.invariant.marks i
    (omega (arith, l, c.loop-touch-test.false)))
