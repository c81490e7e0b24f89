use Rattle.std.proofs.Common.{◌≡◌, []}
use Rattle.epx_graph.specs.inner.Searches.{left_to_do, mark_by, IsLevelSearch}
use Rattle.epx_graph.proofs.search.search_from.Given as goal

abbrev pub invariant-loop-kind : goal.invariant-loop-kind
invariant-loop-kind l = record {
  search : IsLevelSearch l.rows l.start (mark_by l.kind l.start) l.fn.marks l.steps
      (record { marks = l.marks; level = l.level.items });
  next : l.next.items ≡ [];
}

-- nodes without a mark, and nodes of the level
abbrev pub decreases-loop-kind : goal.decreases-loop-kind
decreases-loop-kind l = left_to_do (record { marks = l.marks; level = l.level.items })
