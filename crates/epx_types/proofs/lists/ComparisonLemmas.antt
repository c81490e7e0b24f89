-- The orders of Ids, places and ranks are total, and only equal values compare as equal.
use Rattle.std.proofs.Common.{◌≡◌, ◌∙◌, Ordering, Less, Equal, Greater, refl, sym, ap}
use Rattle.std.specs.Bool.{Decides}
use Rattle.std.specs.Ordering.{nat_cmp, ordering_then, is_eq, eq_by_cmp}
use Rattle.std.specs.Cmp.{IsTotalOrder, nat_cmp_total, on_total, then_total, Equal-is, tied_itself}
use Rattle.std.specs.FinMap.{IsAntisymmetric, nat_cmp-IsAntisymmetric}
use Rattle.epx_types.specs.declared.id.Id.{Id}
use Rattle.epx_types.specs.Ids.{id_cmp}
use Rattle.epx_types.specs.PlacedLines.{place_cmp}
use Rattle.epx_types.specs.ExecutionOrder.{rank_cmp}

-- both comparisons are equal
pub ordering_then-first_equal : (r s : Ordering) → ordering_then r s ≡ Equal → r ≡ Equal
ordering_then-first_equal Less s e = cc e
ordering_then-first_equal Equal s e = refl
ordering_then-first_equal Greater s e = cc e

pub ordering_then-second_equal : (r s : Ordering) → ordering_then r s ≡ Equal → s ≡ Equal
ordering_then-second_equal Less s e = absurd (cc e)
ordering_then-second_equal Equal s e = e
ordering_then-second_equal Greater s e = absurd (cc e)

-- the order of Ids is total
pub id_cmp-IsTotalOrder : IsTotalOrder id_cmp
id_cmp-IsTotalOrder = then_total (on_total (λ x. x.replica) nat_cmp_total)
    (on_total (λ x. x.number) nat_cmp_total)

-- Ids that compare as equal are equal
pub id_cmp-IsAntisymmetric : IsAntisymmetric id_cmp
id_cmp-IsAntisymmetric x y e =
    let replica = nat_cmp-IsAntisymmetric x.replica y.replica (ordering_then-first_equal _ _ e) in
    let number = nat_cmp-IsAntisymmetric x.number y.number (ordering_then-second_equal _ _ e) in
    λ i. record { replica = replica i; number = number i }

-- so the test for `Equal` decides equality
pub id_cmp-Decides : (x y : Id) → Decides (eq_by_cmp id_cmp x y) (x ≡ y)
id_cmp-Decides x y = (
  λ e. id_cmp-IsAntisymmetric x y ((Equal-is (id_cmp x y)).0 e),
  λ e. ap (λ z. is_eq (id_cmp x z)) (sym e) ∙ ap is_eq (tied_itself id_cmp-IsTotalOrder x),
)

-- the order of places is total
pub place_cmp-IsTotalOrder : IsTotalOrder place_cmp
place_cmp-IsTotalOrder = then_total (on_total (λ p. p.log) nat_cmp_total)
    (on_total (λ p. p.line) nat_cmp_total)

-- places that compare as equal are equal
pub place_cmp-IsAntisymmetric : IsAntisymmetric place_cmp
place_cmp-IsAntisymmetric p q e =
    let log = nat_cmp-IsAntisymmetric p.log q.log (ordering_then-first_equal _ _ e) in
    let line = nat_cmp-IsAntisymmetric p.line q.line (ordering_then-second_equal _ _ e) in
    λ i. record { log = log i; line = line i }

-- the order of ranks is total
pub rank_cmp-IsTotalOrder : IsTotalOrder rank_cmp
rank_cmp-IsTotalOrder = then_total (on_total (λ r. r.depth) nat_cmp_total)
    (then_total (on_total (λ r. r.leader) id_cmp-IsTotalOrder)
    (then_total (on_total (λ r. r.seq) nat_cmp_total) (on_total (λ r. r.id) id_cmp-IsTotalOrder)))

-- ranks that compare as equal are equal
pub rank_cmp-IsAntisymmetric : IsAntisymmetric rank_cmp
rank_cmp-IsAntisymmetric a b e =
    let rest = ordering_then-second_equal (nat_cmp a.depth b.depth) _ e in
    let last = ordering_then-second_equal (id_cmp a.leader b.leader) _ rest in
    let depth = nat_cmp-IsAntisymmetric a.depth b.depth (ordering_then-first_equal _ _ e) in
    let leader = id_cmp-IsAntisymmetric a.leader b.leader (ordering_then-first_equal _ _ rest) in
    let seq = nat_cmp-IsAntisymmetric a.seq b.seq (ordering_then-first_equal _ _ last) in
    let id = id_cmp-IsAntisymmetric a.id b.id (ordering_then-second_equal _ _ last) in
    λ i. record { id = id i; seq = seq i; leader = leader i; depth = depth i }
