use Rattle.std.proofs.Common.{◌≡◌, ℕ, ◌<◌, All, Contains, length, get_or, sym, subst, ap, arith}
use Rattle.std.proofs.Common.{List, Bool, true, false, IsTrue, inl, ◌∙◌}
use Rattle.epx_components.specs.between.ReadyMarks.{is_marked}
use Rattle.epx_types.proofs.Common.{All-contains, get_or-replicate, length-replicate}
use Rattle.epx_graph.proofs.Common.{edges_of}
use Rattle.epx_audit.specs.declared.touches.KeyUse.{KeyUse}
use Rattle.epx_audit.specs.inner.DoubtfulKeys.{doubtful_touch, AreInRange, HoldUnsettled}
use Rattle.epx_audit.specs.inner.RelatedTouches.{AreAllRelated}
use Rattle.epx_audit.specs.inner.Touches.{HoldTouches}
use Rattle.epx_audit.proofs.DoubtfulKeyLemmas.{HoldAllConflicts-doubtful}
use Rattle.epx_audit.proofs.DoubtfulKeyLemmas.{HoldAllConflicts-if_all_doubtful}
use Rattle.epx_audit.proofs.DoubtfulTouchLemmas.{writes_the_only_key}
use Rattle.epx_audit.proofs.OrderNodeLemmas.{All-nodes_in_map}
use Rattle.epx_audit.proofs.doubtful_touches.find_doubtful.Goals as goal

pub find_touches-requires : goal.find_touches-requires
find_touches-requires c =
    let m = c.args.merged.now in
    subst (All (λ k. k < length m)) (sym c.deref.ensures.value)
    (All-nodes_in_map m c.args.order.now c.in_ok-nodes.nodes.items c.in_ok-nodes.ensures)

pub doubtful_hashes-requires-clause-placed : goal.doubtful_hashes-requires-clause-placed
doubtful_hashes-requires-clause-placed c t h =
    let placed = c.in_ok-touches.ensures.placed t
    (subst (λ ts. Contains ts t) c.deref-2.ensures.value h) in
    omega (arith, placed, ap length c.deref.ensures.value, ap length c.in_ok-reach.ensures.nodes)

pub are_all_related-requires-clause-placed : goal.are_all_related-requires-clause-placed
are_all_related-requires-clause-placed c t h =
    let in_sure = subst (λ ts. Contains ts t) c.deref-5.ensures.value h in
    let in_all = subst (λ ts. Contains ts t) c.deref-3.ensures.value
    (c.in_ok-sure.ensures.some t in_sure) in
    let placed = c.in_ok-touches.ensures.placed t in_all in
    omega (arith, placed, ap length c.deref.ensures.value, ap length c.in_ok-reach.ensures.nodes)

pub doubtful_touches-requires-clause-placed : goal.doubtful_touches-requires-clause-placed
doubtful_touches-requires-clause-placed c t h =
    let placed = c.in_ok-touches.ensures.placed t
    (subst (λ ts. Contains ts t) c.deref-7.ensures.value h) in
    omega (
      arith,
      placed,
      ap length c.deref.ensures.value,
      ap length c.in_ok-reach.ensures.nodes,
      ap length c.deref-6.ensures.value,
    )

pub unsettled_nodes-requires-clause-touches : goal.unsettled_nodes-requires-clause-touches
unsettled_nodes-requires-clause-touches c t h =
    let m = c.args.merged.now in
    let nodes = c.in_ok-nodes.nodes.items in
    let e = (rw (c.deref-6.ensures.value, c.deref-8.ensures.value, c.in_ok-reach.ensures.nodes) at
    c.in_ok-touches-2.ensures.in_range) t (subst (λ ts. Contains ts t) c.deref-9.ensures.value h) in
    let in_map = All-nodes_in_map m c.args.order.now nodes c.in_ok-nodes.ensures in
    omega (
      arith,
      All-contains (λ k. k < length m) nodes t.node in_map e.0,
      c.len-2.ensures.len,
    )

pub unsettled_nodes-requires-clause-in_graph : goal.unsettled_nodes-requires-clause-in_graph
unsettled_nodes-requires-clause-in_graph c t h =
    let ids = c.args.graph.now.ids in
    let reach = c.in_ok-reach.ensures.reach in
    let e = (rw c.deref-6.ensures.value at c.in_ok-touches-2.ensures.in_range) t
    (subst (λ ts. Contains ts t) c.deref-9.ensures.value h) in
    omega (
      arith,
      All-contains (λ k. k < length ids) c.in_ok-reach.reach.nodes.items t.node reach.in_range e.0,
      reach.each_node.0,
    )

pub returns-then-not-branch : goal.returns-then-not-branch
returns-then-not-branch c = record {
  in_range = subst (λ n. AreInRange n c.in_ok-one.one.keys c.in_ok-one.one.touches.items)
      c.len.ensures.len c.in_ok-one.ensures.in_range;
  marks = ap length c.in_ok-one.ensures.unsettled ∙ length-replicate c.len.result true
      ∙ c.len.ensures.len;
  settled = λ k j share.
      let within = (c.in_ok-one.ensures.in_range share.mine share.held.0).0 in
      inl (subst (λ (marks : List Bool). IsTrue (is_marked marks k))
      (sym c.in_ok-one.ensures.unsettled)
      (get_or-replicate c.len.result k true false (omega (arith, within, share.nodes.0))));
  whole = λ ready marks. HoldAllConflicts-if_all_doubtful c.args.merged.now c.args.graph.now
      c.requires.graph
      c.in_ok-one.one.touches.items
      (subst (λ n. (k : ℕ) → k < n → Contains c.in_ok-one.one.touches.items
      (writes_the_only_key k)) c.len.ensures.len c.in_ok-one.ensures.whole) ready;
}

pub returns : goal.returns
returns c =
    let m = c.args.merged.now in
    let g = c.args.graph.now in
    let start = c.args.start in
    let nodes = c.in_ok-nodes.nodes.items in
    let reach = c.in_ok-reach.reach.nodes.items in
    let touches = c.in_ok-touches.touches.items in
    let sure = c.in_ok-sure.sure.items in
    let hashes = c.in_ok-hashes.hashes.items in
    let doubtful = c.in_ok-touches-2.touches.items in
    let same = c.in_ok-reach.ensures.nodes in
    let hold = subst (λ ns. HoldTouches start m ns (length ns) touches) c.deref.ensures.value
    c.in_ok-touches.ensures.whole in
    let on = subst (λ ts. AreAllRelated (edges_of g) reach ts (length ts)) c.deref-5.ensures.value
    (c.in_ok-are_all_related.ensures c.if-not-branch.false) in
    let linked = subst (λ ns. AreAllRelated (edges_of g) ns sure (length sure)) same on in
    let keeps : (t : KeyUse) → Contains touches t → ¬ Contains hashes t.hash
    → Contains sure t = λ t h none. c.in_ok-sure.ensures.all t
    (subst (λ ts. Contains ts t) (sym c.deref-3.ensures.value) h)
    (subst (λ ds. ¬ Contains ds t.hash) (sym c.deref-4.ensures.value) none) in
    let found : (t : KeyUse) (key : ℕ) → Contains touches t → key < length hashes
    → get_or hashes key 0 ≡ t.hash → Contains doubtful (doubtful_touch nodes key t) =
    rw (c.deref-6.ensures.value, c.deref-7.ensures.value, c.deref-8.ensures.value, same) at
    c.in_ok-touches-2.ensures.whole in
    let in_map = All-nodes_in_map m c.args.order.now nodes c.in_ok-nodes.ensures in
    let each = rw (c.deref-6.ensures.value, c.deref-8.ensures.value, same) at
    c.in_ok-touches-2.ensures.in_range in
    record {
      in_range = λ t h. let e = each t h in (
        All-contains (λ k. k < length m) nodes t.node in_map e.0,
        omega (arith, e.1, c.len-3.ensures),
      );
      marks = c.in_ok-unsettled.ensures.len ∙ c.len-2.ensures.len;
      settled = subst (λ ts. HoldUnsettled (edges_of g) ts c.in_ok-unsettled.unsettled.items)
          c.deref-9.ensures.value
          (c.in_ok-unsettled.ensures.unsettled g c.in_ok-reach.ensures.reach);
      whole = HoldAllConflicts-doubtful m g c.requires.graph c.args.order.now c.requires.order nodes
          c.in_ok-nodes.ensures start touches sure hashes hold keeps linked doubtful found;
    }
