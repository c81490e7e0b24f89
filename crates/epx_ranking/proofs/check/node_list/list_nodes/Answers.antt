use Rattle.std.proofs.Common.{◌+◌, sym, ◌∙◌, subst₂, arith, false, IsTrue}
use Rattle.epx_types.proofs.Common.{false≢true, get_or_read, slice_get_within, slice_get-get_or}
use Rattle.epx_ranking.proofs.NodeListLemmas.{slice_get-from_mark, AreListed-step, ReadyOnce-step}
use Rattle.epx_ranking.specs.inner.NodeLists.{AreListed}
use Rattle.epx_components.specs.between.ReadyMarks.{is_marked}
use Rattle.epx_ranking.proofs.check.node_list.list_nodes.Goals as goal

pub returns-in_default-clause-sound : goal.returns-in_default-clause-sound
returns-in_default-clause-sound c m is = (
  record {
    id = _;
    here = slice_get-get_or c.args.ids.now c.loop-place.place _ c.loop-place-test.true;
    waits = c.in_default.ensures.ready m is;
  },
  c.loop-place.invariant.sound m is,
)

pub index-requires : goal.index-requires
index-requires c =
    let within = slice_get_within c.args.graph.now.ids c.in-Some.node _ c.in-Some.ensures.node in
    omega (arith, within, c.loop-place.invariant.listed.marks_whole)

pub returns-then-index-clause-sound : goal.returns-then-index-clause-sound
returns-then-index-clause-sound c m is =
    let ids = c.args.ids.now in
    let n = c.loop-place.place in
    let marks = c.loop-place.node_list.marks.items in
    let at = slice_get-get_or ids n _ c.loop-place-test.true in
    let node = c.in-Some.ensures.node in
    let within = slice_get_within c.args.graph.now.ids c.in-Some.node _ node in
    let marked : IsTrue (is_marked marks c.in-Some.node) =
    sym (get_or_read marks c.in-Some.node _
    (omega (arith, within, c.loop-place.invariant.listed.marks_whole)) c.index.ensures false)
    ∙ c.if-index.true in
    let earlier = slice_get-from_mark c.args.graph.now is.graph ids n
    c.loop-place.node_list.nodes.items marks c.loop-place.invariant.listed _ at c.in-Some.node
    node marked in (
      record {
        id = _;
        here = at;
        ready = c.in-Some.ensures.ready m is;
        earlier = earlier.0;
        is_earlier = earlier.1;
        there = earlier.2;
      },
      c.loop-place.invariant.sound m is,
    )

pub add-requires : goal.add-requires
add-requires c =
    let within = slice_get_within c.args.graph.now.ids c.in-Some.node _ c.in-Some.ensures.node in
    omega (arith, within, c.loop-place.invariant.listed.marks_whole)

pub loop-place-preserved : goal.loop-place-preserved
loop-place-preserved c =
    let g = c.args.graph.now in
    let ids = c.args.ids.now in
    let n = c.loop-place.place in
    let k = c.in-Some.node in
    let nodes = c.loop-place.node_list.nodes.items in
    let marks = c.loop-place.node_list.marks.items in
    let old = c.loop-place.invariant in
    let at = slice_get-get_or ids n _ c.loop-place-test.true in
    let node = c.in-Some.ensures.node in
    let within = slice_get_within g.ids k _ node in
    let same = get_or_read marks k _ (omega (arith, within, old.listed.marks_whole))
    c.index.ensures false in
    let unmarked : ¬ IsTrue (is_marked marks k) =
    λ h. false≢true (sym c.if-index.false ∙ (same ∙ h)) in
    record {
      listed = subst₂ (AreListed g ids (n + 1)) (sym c.in_ok-add.ensures.nodes)
          (sym c.in_ok-add.ensures.marks)
          (AreListed-step g c.len.ensures.fits ids n nodes marks old.listed _ at k node);
      sound = λ m is. ReadyOnce-step g c.len.ensures.fits ids n nodes marks old.listed _ at k node
          m (c.in-Some.ensures.ready m is) unmarked (old.sound m is);
    }
