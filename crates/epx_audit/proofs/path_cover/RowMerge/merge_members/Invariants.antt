use Rattle.epx_graph.proofs.Common.{edges_of}
use Rattle.epx_audit.specs.inner.PathCovers.{AddsTo, AreNotedPaths, IsMemberEntry, LeadBefore}
use Rattle.epx_audit.specs.inner.PathCovers.{lists_of}
use Rattle.epx_audit.proofs.path_cover.RowMerge.merge_members.Given as goal

-- what the members before this position reach is noted
abbrev pub invariant-loop-position : goal.invariant-loop-position
invariant-loop-position l = record {
  before : LeadBefore (edges_of l.graph) l.nodes (lists_of l.cover) l.positions l.position l.end;
  adds : AddsTo l.fn.self.greatest.items l.self.greatest.items (IsMemberEntry (edges_of l.graph)
      l.nodes (lists_of l.cover) l.positions l.position);
  paths : AreNotedPaths l.self.greatest.items l.self.paths.items;
}
