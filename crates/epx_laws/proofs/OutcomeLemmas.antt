-- Each committed instance is executed or waits.
use Rattle.std.proofs.Common.{◌≡◌, ◌≢◌, ◌⊎◌, ◌↔◌, ◌+◌, ◌++◌, List, length, Contains, AllPairs}
use Rattle.std.proofs.Common.{subst, inl, inr, arith}
use Rattle.epx_types.proofs.Common.{is_eq, length-map, length-append, count_by-le-length}
use Rattle.epx_types.proofs.Common.{Contains-append_left, Contains-append_right}
use Rattle.epx_types.proofs.Common.{Contains-append_cases, id_cmp, IsRising, Instance, ids_of}
use Rattle.epx_types.proofs.Common.{IsCommitted, Reaches, IsReady, WaitsFor, Ranked}
use Rattle.epx_types.proofs.Common.{IsExecutionOrder, ranked_ids, Waiting, IsWaitingList}
use Rattle.epx_types.proofs.Common.{waiting_ids, IsReady-not_waiting, AllPairs-append, Contains-map}
use Rattle.epx_types.proofs.Common.{Contains-from_map, AllPairs-rising_distinct}
use Rattle.epx_types.proofs.Common.{IsExecutionOrder-IsLawful}
use Rattle.epx_types.proofs.Common.{IsReady-or_waits, length-at_most}
use Rattle.epx_types.specs.declared.id.Id.{Id}
use Rattle.epx_laws.specs.OutcomeLaws.{EachHasOneOutcome}

-- ---- outcomes

-- an instance waits exactly if it is committed and reaches one that is not
pub WaitsFor-iff : (m : List Instance) (x : Id) → ((y : Id) × WaitsFor m x y)
    ↔ IsCommitted m x × ((z : Id) × Reaches m x z × (¬ IsCommitted m z))
WaitsFor-iff m x = (
  λ w. (w.1.committed, (w.0, w.1.reached, w.1.missing)),
  λ h. elim (IsReady-or_waits m x h.0) [
    | inl ready ↦ absurd (h.1.2 (ready.complete h.1.0 h.1.1))
    | inr waits ↦ waits
  ],
)

module _ (m : List Instance) (rising : IsRising (ids_of m)) (order : List Ranked)
    (waiting : List Waiting) (ordered : IsExecutionOrder m order)
    (listed : IsWaitingList m waiting) where
  executed_ready : (x : Id) → Contains (ranked_ids order) x → IsReady m x
  executed_ready x h = (IsExecutionOrder-IsLawful m order ordered).only x h

  waits_in : (x : Id) → Contains (waiting_ids waiting) x → (y : Id) × WaitsFor m x y
  waits_in x h = let w = Contains-from_map (λ (w : Waiting). w.id) waiting x h in
      (w.0.missing, subst (λ (z : Id). WaitsFor m z w.0.missing) w.2 (listed.waits w.0 w.1))

  apart : (x : Id) → Contains (ranked_ids order) x → ¬ Contains (waiting_ids waiting) x
  apart x h k = let w = waits_in x k in IsReady-not_waiting m x w.0 (executed_ready x h) w.1

  either_of : (x : Id) → IsCommitted m x
      → Contains (ranked_ids order) x ⊎ Contains (waiting_ids waiting) x
  either_of x committed = elim (IsReady-or_waits m x committed) [
    | inl ready ↦ inl (ordered.whole x ready)
    | inr waits ↦ inr (Contains-map (λ (w : Waiting). w.id) waiting
        (record { id = x; missing = waits.0 }) (listed.whole x waits.0 waits.1))
  ]

  committed_in : (x : Id) → Contains (ranked_ids order) x ⊎ Contains (waiting_ids waiting) x
      → IsCommitted m x
  committed_in x (inl h) = (executed_ready x h).committed
  committed_in x (inr h) = (waits_in x h).1.committed

  executed_once : AllPairs (λ x y. x ≢ y) (ranked_ids order)
  executed_once = (IsExecutionOrder-IsLawful m order ordered).once

  waiting_once : AllPairs (λ x y. x ≢ y) (waiting_ids waiting)
  waiting_once = AllPairs-rising_distinct (waiting_ids waiting) listed.rising

  both_once : AllPairs (λ x y. x ≢ y) (ranked_ids order ++ waiting_ids waiting)
  both_once = AllPairs-append (λ x y. x ≢ y) (ranked_ids order) (waiting_ids waiting)
      executed_once waiting_once
      (λ x y h k same. apart y (subst (Contains (ranked_ids order)) same h) k)

  counted : length order + length waiting ≡ length m
  counted =
      let executed = ranked_ids order in
      let waits = waiting_ids waiting in
      let up = length-at_most (executed ++ waits) (ids_of m) both_once
      (λ x h. committed_in x (Contains-append_cases executed waits x h)) in
      let down =
      length-at_most (ids_of m) (executed ++ waits) (AllPairs-rising_distinct (ids_of m) rising)
      (λ x h. elim (either_of x h) [
        | inl here ↦ Contains-append_left executed waits x here
        | inr there ↦ Contains-append_right executed waits x there
      ]) in
      omega (
        arith,
        up,
        down,
        length-append executed waits,
        length-map order (λ (r : Ranked). r.id),
        length-map waiting (λ (w : Waiting). w.id),
        length-map m (λ (e : Instance). e.id),
      )

  pub EachHasOneOutcome-holds : EachHasOneOutcome m order waiting
  EachHasOneOutcome-holds = record {
    either = λ x. (either_of x, committed_in x);
    not_both = apart;
    executed_once = executed_once;
    waiting_once = waiting_once;
    counted = counted;
    components = count_by-le-length (λ (r : Ranked). is_eq (id_cmp r.id r.leader)) order;
  }
