use Rattle.std.proofs.Common.{◌≡◌, ◌<◌, ◌≤◌, inl, inr, ℕ, List, get_or, length, subst, arith}
use Rattle.epx_types.proofs.Common.{cases_lt}
use Rattle.epx_graph.proofs.Common.{edges_of}
use Rattle.epx_audit.specs.inner.PathCovers.{AddsTo, IsMemberEntry, IsTargetEntry, lists_of}
use Rattle.epx_audit.proofs.RowMergeLemmas.{AddsTo-member}
use Rattle.epx_audit.proofs.path_cover.RowMerge.merge_members.Goals as goal

pub loop-position-preserved : goal.loop-position-preserved
loop-position-preserved c =
    let edges = edges_of c.args.graph.now in
    let nodes = c.args.nodes.now in
    let positions = c.args.positions.now in
    let cover = c.args.cover.now in
    let n = c.loop-position.position in
    let end = c.args.end in
    let targets : c.edges-targets.result.now ≡ edges (get_or nodes n 0) =
    c.edges-targets.ensures.edges in
    let merged = c.in_ok-merge_targets.ensures in
    let from : length c.args.cover.now.members.items ≤ n =
    omega (
      arith,
      c.loop-position.auto.position,
      c.len-position.ensures,
      c.args.cover.now.members.ok.0,
    ) in
    record {
      before = λ p i start below in'. elim (cases_lt p n) [
        | inl earlier ↦ c.loop-position.invariant.before p i start earlier in'
        | inr here ↦
            let same : n ≡ p = omega (arith, below, here) in
            let at : i < length (edges (get_or nodes n 0))
            → get_or positions (get_or (edges (get_or nodes n 0)) i 0) 0 < end =
            subst (λ (ts : List ℕ). i < length ts → get_or positions (get_or ts i 0) 0 < end)
            targets (merged.before c.if-not-branch.false i) in
            subst (λ k. i < length (edges (get_or nodes k 0))
            → get_or positions (get_or (edges (get_or nodes k 0)) i 0) 0 < end) same at in'
      ];
      adds = AddsTo-member edges nodes c.args.self.now.greatest.items
          c.loop-position.self.greatest.items c.merge_targets.new.self.greatest.items
          (lists_of cover) positions n from c.loop-position.invariant.adds
          (subst (λ (ts : List ℕ). AddsTo c.loop-position.self.greatest.items
          c.merge_targets.new.self.greatest.items
          (IsTargetEntry (lists_of cover) positions ts (length ts))) targets
          (merged.adds c.if-not-branch.false));
      paths = merged.paths;
    }

pub returns-clause-adds : goal.returns-clause-adds
returns-clause-adds c = λ _.
    let same : c.loop-position.position ≡ c.args.end =
    omega (
      arith,
      c.loop-position-test.false,
      c.loop-position.auto.position-end,
      c.len-position.ensures,
      c.args.cover.now.members.ok.0,
      c.requires.start,
    ) in
    subst (λ n. AddsTo c.args.self.now.greatest.items c.loop-position.self.greatest.items
    (IsMemberEntry (edges_of c.args.graph.now) c.args.nodes.now (lists_of c.args.cover.now)
    c.args.positions.now n)) same c.loop-position.invariant.adds
