use Rattle.epx_neighbours.specs.contracts.uncovered_row.UncoveredRowPartialEq.TheImpl as row_eq
use Rattle.epx_neighbours.specs.inner.UncoveredRows.{row_cmp}
use Rattle.epx_neighbours.proofs.RowOrderLemmas.{row_cmp-IsTotalOrder, row_cmp-IsAntisymmetric}
use Rattle.epx_neighbours.proofs.RowOrderLemmas.{row_eq-by_cmp}
use Rattle.epx_neighbours.proofs.UniqueListLemmas.{AllPairs-kept}
use Rattle.epx_neighbours.proofs.uncovered_row.rows_of.Goals as goal

pub returns : goal.returns
returns c =
    let kept = AllPairs-kept row_cmp row_cmp-IsTotalOrder row_cmp-IsAntisymmetric row_eq.eq-value.it
    row_eq-by_cmp
    c.in_ok-rows.rows.items c.sort_unstable.new.self.items c.dedup.new.self.items
    c.sort_unstable.ensures.permutation c.sort_unstable.ensures.sorted c.dedup.ensures.filtered in
    record {
      exact = λ r. (
        λ h. (c.in_ok-rows.ensures r).0 ((kept.1 r).0 h),
        λ h. (kept.1 r).1 ((c.in_ok-rows.ensures r).1 h),
      );
      rising = kept.0;
    }
