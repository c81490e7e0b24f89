-- The searches back from the missing nodes find the least one that each node reaches.
use Rattle.std.proofs.Common.{inl, inr, ℕ, List, length, Option, sym, subst}
use Rattle.epx_types.proofs.Common.{cases_lt}
use Rattle.epx_rows.specs.between.Rows.{row_of, AreTransposed}
use Rattle.epx_graph.specs.declared.search.MarkKind.TheVariants as kind
use Rattle.epx_graph.specs.Graphs.{DependencyGraph, edges_of}
use Rattle.epx_graph.specs.NodePaths.{NodeReaches}
use Rattle.epx_graph.specs.inner.LeastMissing.{IsLeastMissing, AreMarksOf}
use Rattle.epx_graph.specs.inner.Searches.{LeadsIn, mark_by, AreFirstMarks}
use Rattle.epx_graph.proofs.NodeStepLemmas.{LeadsTo-node_path, LeadsTo-reaches, LeadsTo-turned}
use Rattle.epx_graph.proofs.NodeStepLemmas.{LeadsIn-turned}

pub AreMarksOf-first_marks : (g : DependencyGraph) (sources : List (List ℕ))
    (marks : List (Option ℕ))
    → AreTransposed g.edges sources → AreFirstMarks sources (mark_by kind.Start)
    g.committed (length g.ids) (length g.ids) marks → AreMarksOf g marks
AreMarksOf-first_marks g sources marks transpose are = record {
  nodes = are.nodes;
  marked = λ k s h.
      let by = are.marked k s h in
      subst (IsLeastMissing g k) (sym by.is)
      (record {
        missing = by.after;
        reached = LeadsTo-reaches (edges_of g) by.steps k by.start
            (LeadsTo-turned (edges_of g) (row_of sources) (λ i j e. (transpose i j).1 e) by.steps
            by.start k by.leads);
        least = λ z from there. elim (cases_lt z by.start) [
          | inl lower ↦ absurd
              (by.earliest z (length there.0) from lower (leads k z there))
          | inr not_lower ↦ not_lower
        ];
      });
  unmarked = λ k s l none from within there.
      are.unmarked k s (length there.0) none from within (leads k s there);
} where
  leads : (k z : ℕ) (there : NodeReaches (edges_of g) k z)
      → LeadsIn (row_of sources) z (length there.0) k
  leads k z there = LeadsIn-turned (edges_of g) (row_of sources) (λ i j e. (transpose i j).0 e)
      (length there.0) z k (LeadsTo-node_path (edges_of g) k there.0 z there.1)
