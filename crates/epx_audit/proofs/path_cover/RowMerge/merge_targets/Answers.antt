use Rattle.std.proofs.Common.{◌≡◌, inl, inr, get_or, ap, arith}
use Rattle.epx_types.proofs.Common.{cases_lt}
use Rattle.epx_audit.specs.inner.PathCovers.{lists_of}
use Rattle.epx_audit.proofs.RowMergeLemmas.{AddsTo-target}
use Rattle.epx_audit.proofs.path_cover.RowMerge.merge_targets.Goals as goal

pub loop-target-preserved : goal.loop-target-preserved
loop-target-preserved c =
    let targets = c.args.targets.now in
    let positions = c.args.positions.now in
    let n = c.loop-target.target-index in
    record {
      before = λ i below. elim (cases_lt i n) [
        | inl earlier ↦ c.loop-target.invariant.before i earlier
        | inr here ↦
            let same : i ≡ n = omega (arith, below, here) in
            omega (
              arith,
              c.if-position-end.false,
              ap (λ k. get_or positions (get_or targets k 0) 0) same,
            )
      ];
      adds = AddsTo-target c.args.self.now.greatest.items c.loop-target.self.greatest.items
          c.merge_row.new.self.greatest.items (lists_of c.args.cover.now) positions targets n
          c.loop-target.invariant.adds (c.in_ok-merge_row.ensures.adds c.if-not-branch.false);
      paths = c.in_ok-merge_row.ensures.paths;
    }
