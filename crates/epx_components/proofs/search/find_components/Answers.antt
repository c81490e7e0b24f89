use Rattle.std.proofs.Common.{◌≡◌, length, arith, sym, subst, ◌∙◌, ap}
use Rattle.epx_graph.proofs.Common.{edges_of, edges_of-within}
use Rattle.epx_components.proofs.EdgeLemmas.{edges_of-source_within}
use Rattle.epx_components.proofs.EndLemmas.{visit_of-all_closed, IsPartition-at_end}
use Rattle.epx_components.specs.inner.SearchInvariants.{IsSearch}
use Rattle.epx_components.specs.inner.SearchStates.{visit_of, state}
use Rattle.epx_components.proofs.search.find_components.Goals as goal

pub loop-root-init : goal.loop-root-init
loop-root-init c =
    record {
      search =
          subst (λ n. IsSearch (edges_of c.args.graph.now) n 0 (state c.in_ok-search.search))
          c.len-len.ensures.len (c.in_ok-search.ensures.search (edges_of c.args.graph.now));
      none = c.in_ok-search.ensures.none;
    }

pub component_numbers-requires : goal.component_numbers-requires
component_numbers-requires c =
    let n = length c.args.graph.now.ids in
    let s = c.loop-root.search in
    let w = c.loop-root.invariant.search in
    let all : c.loop-root.root ≡ n =
    omega (arith, c.loop-root.auto.root-end, c.loop-root-test.false) in
    let end = subst (λ k. IsSearch (edges_of c.args.graph.now) n k (state s)) all w in
    rw c.deref.ensures.value
    (λ k l. visit_of-all_closed (edges_of c.args.graph.now) n (state s) end
    (omega (arith, s.starts.ok.0, c.loop-root.invariant.none)) k (omega (arith, w.all_visits)))

pub returns : goal.returns
returns c =
    let n = length c.args.graph.now.ids in
    let edges = edges_of c.args.graph.now in
    let s = c.loop-root.search in
    let w = c.loop-root.invariant.search in
    let all : c.loop-root.root ≡ n =
    omega (arith, c.loop-root.auto.root-end, c.loop-root-test.false) in
    let end = subst (λ k. IsSearch edges n k (state s)) all w in
    let component = c.in_ok-component.component in
    let long : length s.visits.items ≡ length c.deref.result.now =
    ap length (sym c.deref.ensures.value) in
    let fits = c.len-len.ensures.fits in
    let is = IsPartition-at_end edges n (state s) component.items
    (edges_of-source_within c.args.graph.now fits)
    (edges_of-within c.args.graph.now fits) end
    (omega (arith, component.ok.0, c.in_ok-component.ensures.len, w.all_visits))
    (λ k l. ap (λ visits. visit_of visits k) (sym c.deref.ensures.value)
    ∙ c.in_ok-component.ensures.closed k (omega (arith, w.all_visits))) in
    record {
      each_node = omega (arith, component.ok.0, c.in_ok-component.ensures.len, w.all_visits);
      is = is;
    }
