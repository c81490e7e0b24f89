-- An execution order has no more instances than its map.
use Rattle.std.proofs.Common.{◌≢◌, ◌≤◌, List, length, Contains, AllPairs, arith}
use Rattle.std.proofs.lemmas.Cmp.{eq_by_cmp_equiv}
use Rattle.std.proofs.lemmas.List.{length-map}
use Rattle.std.proofs.lemmas.Map.Made.{length-le_from_is_member, is_member-Decides}
use Rattle.std.proofs.lemmas.Map.Made.{IsDistinct-from_AllPairs}
use Rattle.epx_types.specs.declared.id.Id.{Id}
use Rattle.epx_types.specs.Instances.{Instance}
use Rattle.epx_types.specs.CommittedMap.{ids_of}
use Rattle.epx_types.specs.ExecutionOrder.{Ranked, IsExecutionOrder, ranked_ids}
use Rattle.epx_types.proofs.lists.ComparisonLemmas.{id_cmp-IsTotalOrder, id_cmp-Decides}
use Rattle.epx_types.proofs.orders.ExecutionOrderLemmas.{IsExecutionOrder-IsLawful}

-- a list of distinct Ids that are all in another list is not longer than that list
pub length-at_most : (xs ys : List Id) → AllPairs (λ x y. x ≢ y) xs
    → ((x : Id) → Contains xs x → Contains ys x) → length xs ≤ length ys
length-at_most xs ys once within =
    length-le_from_is_member (eq_by_cmp_equiv id_cmp-IsTotalOrder) xs ys
    (IsDistinct-from_AllPairs id_cmp-Decides xs once)
    (λ q h. (is_member-Decides id_cmp-Decides ys q).1
    (within q ((is_member-Decides id_cmp-Decides xs q).0 h)))

pub IsExecutionOrder-length : (m : List Instance) (order : List Ranked) → IsExecutionOrder m order
    → length order ≤ length m
IsExecutionOrder-length m order h =
    let lawful = IsExecutionOrder-IsLawful m order h in
    let few = length-at_most (ranked_ids order) (ids_of m) lawful.once
    (λ x there. (lawful.only x there).committed) in
    omega (
      arith,
      few,
      length-map order (λ (r : Ranked). r.id),
      length-map m (λ (e : Instance). e.id),
    )
