use Rattle.std.proofs.Common.{◌≡◌, ℕ, ◌-◌, List, length, arith, sym, ◌∙◌, ap, take, subst}
use Rattle.epx_types.proofs.Common.{get_or_read, on_ok_weaker}
use Rattle.epx_graph.proofs.Common.{edges_of}
use Rattle.epx_components.proofs.FinishLemmas.{IsSearch-finish}
use Rattle.epx_components.proofs.LookLemmas.{IsSearch-pop}
use Rattle.epx_components.proofs.PathEndLemmas.{visit_of-open_within, visit_of-top_node}
use Rattle.epx_components.specs.inner.SearchInvariants.{IsSearch, KeepsSearch}
use Rattle.epx_components.specs.inner.SearchStates.{state}
use Rattle.epx_components.proofs.search.Search.step.Goals as goal

pub returns-in-Some-2-clause-keeps : goal.returns-in-Some-2-clause-keeps
returns-in-Some-2-clause-keeps c seen w =
    let s = c.args.self.now in
    let edges = edges_of c.args.graph.now in
    let top = c.in-Some.ensures.found in
    let in' = visit_of-open_within edges _ seen (state s) c.in-Some.node top.position w
    (visit_of-top_node edges _ seen (state s) c.in-Some.node w top) in
    let looked = get_or_read s.looked_at.items c.in-Some.node _ (omega (arith, w.looks))
    c.index.ensures 0 in
    let path : c.pop.new.self.items ≡ take (length s.path.items - 1) s.path.items =
    c.pop.ensures.rest ∙ ap (λ n. take (n - 1) s.path.items) s.path.ok.0 in
    let Then : List ℕ → Type 0 = λ path. IsSearch edges (length c.args.graph.now.ids) seen
    (record (state s) { path = path }) in
    subst Then (sym path)
    (IsSearch-pop edges (length c.args.graph.now.ids) seen (state s) c.in-Some.node w top
    (omega (arith, c.if-index-edges.false, looked, ap length c.edges.ensures.edges)))

pub returns-in-None-clause-keeps : goal.returns-in-None-clause-keeps
returns-in-None-clause-keeps c =
    let s = c.args.self.now in
    let edges = edges_of c.args.graph.now in
    on_ok_weaker {Q = KeepsSearch edges (length c.args.graph.now.ids) (state s)
    (state c.finish.new.self)} c.finish.result
    (λ h seen w. IsSearch-finish edges (length c.args.graph.now.ids) seen (state s)
    (state c.finish.new.self) w h (λ i l. omega (arith, c.in-None.ensures.none i l, h.last.1)))
    c.finish.ensures
