-- The orders of rows and of pairs.
use Rattle.std.proofs.Common.{◌≡◌, arith}
use Rattle.std.specs.Cmp.{IsTotalOrder, nat_cmp_total, on_total, then_total}
use Rattle.std.specs.FinMap.{IsAntisymmetric, nat_cmp-IsAntisymmetric}
use Rattle.std.specs.Ordering.{eq_by_cmp}
use Rattle.epx_types.proofs.Common.{ordering_then-first_equal, ordering_then-second_equal}
use Rattle.epx_types.proofs.Common.{nat_tests, id_cmp-IsTotalOrder}
use Rattle.epx_types.proofs.Common.{id_cmp-IsAntisymmetric, key_cmp-IsTotalOrder}
use Rattle.epx_types.proofs.Common.{key_cmp-IsAntisymmetric}
use Rattle.epx_neighbours.specs.contracts.uncovered_row.UncoveredRowPartialEq.TheImpl as row_eq
use Rattle.epx_neighbours.specs.declared.uncovered_row.UncoveredRow.{UncoveredRow}
use Rattle.epx_neighbours.specs.inner.UncoveredRows.{row_cmp}
use Rattle.epx_neighbours.specs.UncoveredNeighbours.{pair_cmp}

pub row_cmp-IsTotalOrder : IsTotalOrder row_cmp
row_cmp-IsTotalOrder = then_total (on_total (λ r. r.before) id_cmp-IsTotalOrder)
    (then_total (on_total (λ r. r.after) id_cmp-IsTotalOrder) (on_total (λ r. r.key) nat_cmp_total))

-- rows that compare as equal are equal
pub row_cmp-IsAntisymmetric : IsAntisymmetric row_cmp
row_cmp-IsAntisymmetric a b e =
    let rest = ordering_then-second_equal _ _ e in
    let before = id_cmp-IsAntisymmetric a.before b.before (ordering_then-first_equal _ _ e) in
    let after = id_cmp-IsAntisymmetric a.after b.after (ordering_then-first_equal _ _ rest) in
    let key = nat_cmp-IsAntisymmetric a.key b.key (ordering_then-second_equal _ _ rest) in
    λ i. record { before = before i; after = after i; key = key i }

pub row_eq-by_cmp : (a b : UncoveredRow) → row_eq.eq-value.it a b ≡ eq_by_cmp row_cmp a b
row_eq-by_cmp a b = grind (arith, nat_tests)

pub pair_cmp-IsTotalOrder : IsTotalOrder pair_cmp
pair_cmp-IsTotalOrder = then_total (on_total (λ n. n.before) id_cmp-IsTotalOrder)
    (then_total (on_total (λ n. n.after) id_cmp-IsTotalOrder)
    (on_total (λ n. n.key) key_cmp-IsTotalOrder))

-- pairs that compare as equal are equal
pub pair_cmp-IsAntisymmetric : IsAntisymmetric pair_cmp
pair_cmp-IsAntisymmetric a b e =
    let rest = ordering_then-second_equal _ _ e in
    let before = id_cmp-IsAntisymmetric a.before b.before (ordering_then-first_equal _ _ e) in
    let after = id_cmp-IsAntisymmetric a.after b.after (ordering_then-first_equal _ _ rest) in
    let key = key_cmp-IsAntisymmetric a.key b.key (ordering_then-second_equal _ _ rest) in
    λ i. record { before = before i; after = after i; key = key i }
