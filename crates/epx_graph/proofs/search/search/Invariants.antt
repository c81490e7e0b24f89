use Rattle.std.proofs.Common.{◌≡◌, []}
use Rattle.epx_graph.specs.inner.Searches.{mark_by, AreFirstMarks}
use Rattle.epx_graph.proofs.search.search.Given as goal

-- the starts before this one are done
abbrev pub invariant-loop-start : goal.invariant-loop-start
invariant-loop-start l = record {
  marks : AreFirstMarks l.rows (mark_by l.kind) l.first l.start l.nodes l.marks.items;
  level : l.level.items ≡ [];
  next : l.next.items ≡ [];
}
