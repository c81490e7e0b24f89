use Rattle.std.proofs.Common.{arith, rules, false, ◌≡◌}
use Rattle.epx_graph.proofs.Common.{edges_of}
use Rattle.epx_components.proofs.PathEndLemmas.{visit_of-open_within}
use Rattle.epx_components.specs.inner.SearchStates.{state}
use Rattle.epx_components.proofs.search.Search.follow_edges.Goals as goal

pub index-requires : goal.index-requires
index-requires c =
    let s = c.loop-opens.self in
    let w = c.loop-opens.invariant.0 c.requires.search.0 c.requires.search.1 in
    let none : c.loop-opens.opens ≡ false = search rules in
    let top = c.loop-opens.invariant.2 none in
    omega (
      arith,
      visit_of-open_within (edges_of c.args.graph.now) _ _ (state s) c.args.node top.0 w top.1,
      w.looks,
      s.looked_at.ok.0,
    )

pub follow-requires-in-loop-opens-clause-search : goal.follow-requires-in-loop-opens-clause-search
follow-requires-in-loop-opens-clause-search c = (
  c.requires.search.0,
  c.loop-opens.invariant.0 c.requires.search.0 c.requires.search.1,
)

pub loop-opens-preserved : goal.loop-opens-preserved
loop-opens-preserved c = (
  λ seen w. c.in_ok-opens-2.ensures.keeps seen (c.loop-opens.invariant.0 seen w),
  omega (arith, c.in_ok-opens-2.ensures.less, c.loop-opens.invariant.1),
  c.in_ok-opens-2.ensures.stays,
)
