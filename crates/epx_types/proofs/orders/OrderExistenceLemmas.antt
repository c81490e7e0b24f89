-- Each committed map has an execution order and a waiting list.
use Rattle.std.proofs.Common.{◌≡◌, List, [], ◌∷◌, Contains, AllPairs, sym, subst, inl, inr, arith}
use Rattle.epx_types.specs.declared.id.Id.{Id}
use Rattle.epx_types.specs.Ids.{BelowAll, IsRising}
use Rattle.epx_types.specs.Instances.{Instance}
use Rattle.epx_types.specs.CommittedMap.{ids_of, IsCommitted}
use Rattle.epx_types.specs.Readiness.{IsReady, WaitsFor}
use Rattle.epx_types.specs.ExecutionOrder.{Ranked, RanksBelow, IsRanked, ranked_ids}
use Rattle.epx_types.specs.ExecutionOrder.{IsExecutionOrder}
use Rattle.epx_types.specs.WaitingLists.{Waiting, waiting_ids, IsWaitingList}
use Rattle.epx_types.proofs.lists.MembershipLemmas.{Contains-nil, Contains-head, Contains-cons}
use Rattle.epx_types.proofs.lists.MembershipLemmas.{Contains-cons_cases, Contains-map}
use Rattle.epx_types.proofs.lists.MembershipLemmas.{Contains-from_map}
use Rattle.epx_types.proofs.lists.ComparisonLemmas.{rank_cmp-IsTotalOrder, rank_cmp-IsAntisymmetric}
use Rattle.epx_types.proofs.graph.DependencyLemmas.{IsCommitted-from_Contains}
use Rattle.epx_types.proofs.graph.ReachingLemmas.{IsReady-not_waiting, WaitsFor-unique}
use Rattle.epx_types.proofs.lists.RisingListLemmas.{IsWith-exists}
use Rattle.epx_types.proofs.orders.RankExistenceLemmas.{IsReady-or_waits, IsRanked-exists}

module _ (m : List Instance) (ids_rise : IsRising (ids_of m)) where
  -- ---- the execution order

  -- the ranks of the ready instances in a list
  record IsOrderOf (es : List Instance) (order : List Ranked) : Type 0 where
    rising : AllPairs RanksBelow order
    ranked : (r : Ranked) → Contains order r → IsRanked m r
    whole : (e : Instance) → Contains es e → IsReady m e.id → Contains (ranked_ids order) e.id

  with_rank : (e : Instance) (es : List Instance) (r : Ranked) → IsRanked m r → r.id ≡ e.id
      → (order : List Ranked) → IsOrderOf es order → (now : List Ranked) × IsOrderOf (e ∷ es) now
  with_rank e es r is same order rest =
      let put =
      IsWith-exists rank_cmp-IsTotalOrder rank_cmp-IsAntisymmetric r order rest.rising in (
        put.0,
        record {
          rising = put.1.rising;
          ranked = λ s h. elim (put.1.only s h) [
            | inl new ↦ subst (IsRanked m) new is
            | inr old ↦ rest.ranked s old
          ];
          whole = λ d h ready. elim (Contains-cons_cases e es d h) [
            | inl this ↦ subst (Contains (ranked_ids put.0))
                (let P : Instance → Type 0 = λ i. r.id ≡ i.id in subst P this same)
                (Contains-map (λ (s : Ranked). s.id) put.0 r put.1.here)
            | inr later ↦
                let s = Contains-from_map (λ (s : Ranked). s.id) order d.id
                (rest.whole d later ready) in
                subst (Contains (ranked_ids put.0)) s.2
                (Contains-map (λ (s : Ranked). s.id) put.0 s.0 (put.1.kept s.0 s.1))
          ];
        },
      )

  without_rank : (e : Instance) (es : List Instance) → ¬ IsReady m e.id → (order : List Ranked)
      → IsOrderOf es order → IsOrderOf (e ∷ es) order
  without_rank e es not_ready order rest = record {
    rising = rest.rising;
    ranked = rest.ranked;
    whole = λ d h ready. elim (Contains-cons_cases e es d h) [
      | inl this ↦ absurd
          (not_ready (let P : Instance → Type 0 = λ i. IsReady m i.id in subst P (sym this) ready))
      | inr later ↦ rest.whole d later ready
    ];
  }

  order_of : (es : List Instance) → ((e : Instance) → Contains es e → Contains m e)
      → (order : List Ranked) × IsOrderOf es order
  order_of [] within = (
    [],
    record {
      rising = λ i j d l k. absurd (omega arith);
      ranked = λ r h. absurd (Contains-nil r h);
      whole = λ e h ready. absurd (Contains-nil e h);
    },
  )
  order_of (e ∷ es) within =
      let rest = order_of es (λ d h. within d (Contains-cons e es d h)) in
      let in_e = within e (Contains-head e es) in
      elim (IsReady-or_waits m e.id (IsCommitted-from_Contains m e in_e)) [
        | inl ready ↦ let r = IsRanked-exists m ids_rise e in_e ready in
            with_rank e es r.0 r.1 r.2 rest.0 rest.1
        | inr waits ↦ (
          rest.0,
          without_rank e es
              (λ ready. IsReady-not_waiting m e.id waits.0 ready waits.1) rest.0 rest.1,
        )
      ]

  pub IsExecutionOrder-exists : (order : List Ranked) × IsExecutionOrder m order
  IsExecutionOrder-exists =
      let found = order_of m (λ e h. h) in (
        found.0,
        record {
          ranked = found.1.ranked;
          whole = λ x ready. let e = Contains-from_map (λ (e : Instance). e.id) m x
              ready.committed in
              subst (Contains (ranked_ids found.0)) e.2
              (found.1.whole e.0 e.1 (subst (IsReady m) (sym e.2) ready));
          rising = found.1.rising;
        },
      )

  -- ---- the waiting list

  -- the waiting ones of some Ids, by rising Id
  record IsWaitingOf (ids : List Id) (ws : List Waiting) : Type 0 where
    waits : (w : Waiting) → Contains ws w → WaitsFor m w.id w.missing
    whole : (x y : Id) → Contains ids x → WaitsFor m x y
        → Contains ws (record { id = x; missing = y })
    rising : IsRising (waiting_ids ws)
    above : (z : Id) → BelowAll z ids → BelowAll z (waiting_ids ws)

  with_waiting : (x : Id) (ids : List Id) (y : Id) → WaitsFor m x y → BelowAll x ids
      → (ws : List Waiting) → IsWaitingOf ids ws
      → IsWaitingOf (x ∷ ids) (record { id = x; missing = y } ∷ ws)
  with_waiting x ids y this below ws rest = record {
    waits = λ w h. elim (Contains-cons_cases (record { id = x; missing = y }) ws w h) [
      | inl same ↦ let P : Waiting → Type 0 = λ w. WaitsFor m w.id w.missing in subst P same this
      | inr later ↦ rest.waits w later
    ];
    whole = λ v w h waits. elim (Contains-cons_cases x ids v h) [
      | inl same ↦
          let missing : y ≡ w = WaitsFor-unique m v y w
          (subst (λ (u : Id). WaitsFor m u y) same this) waits in
          let first : Waiting = record { id = x; missing = y } in
          let e : first ≡ record { id = v; missing = w } =
          λ i. record { id = same i; missing = missing i } in
          subst (Contains (first ∷ ws)) e (Contains-head first ws)
      | inr later ↦ Contains-cons (record { id = x; missing = y }) ws
          (record { id = v; missing = w }) (rest.whole v w later waits)
    ];
    rising = (rest.above x below, rest.rising);
    above = λ z h. (h.0, rest.above z h.1);
  }

  without_waiting : (x : Id) (ids : List Id) → IsReady m x → (ws : List Waiting)
      → IsWaitingOf ids ws → IsWaitingOf (x ∷ ids) ws
  without_waiting x ids ready ws rest = record {
    waits = rest.waits;
    whole = λ v w h waits. elim (Contains-cons_cases x ids v h) [
      | inl same ↦ absurd (IsReady-not_waiting m v w (subst (IsReady m) same ready) waits)
      | inr later ↦ rest.whole v w later waits
    ];
    rising = rest.rising;
    above = λ z h. rest.above z h.1;
  }

  waiting_of : (ids : List Id) → IsRising ids → ((x : Id) → Contains ids x → IsCommitted m x)
      → (ws : List Waiting) × IsWaitingOf ids ws
  waiting_of [] up within = (
    [],
    record {
      waits = λ w h. absurd (Contains-nil w h);
      whole = λ x y h waits. absurd (Contains-nil x h);
      rising = tt;
      above = λ z h. tt;
    },
  )
  waiting_of (x ∷ ids) up within =
      let rest = waiting_of ids up.1 (λ y h. within y (Contains-cons x ids y h)) in
      elim (IsReady-or_waits m x (within x (Contains-head x ids))) [
        | inl ready ↦ (rest.0, without_waiting x ids ready rest.0 rest.1)
        | inr waits ↦ (
          record { id = x; missing = waits.0 } ∷ rest.0,
          with_waiting x ids waits.0 waits.1 up.0 rest.0 rest.1,
        )
      ]

  pub IsWaitingList-exists : (ws : List Waiting) × IsWaitingList m ws
  IsWaitingList-exists =
      let found = waiting_of (ids_of m) ids_rise (λ x h. h) in (
        found.0,
        record {
          waits = found.1.waits;
          whole = λ x y waits. found.1.whole x y waits.committed waits;
          rising = found.1.rising;
        },
      )
