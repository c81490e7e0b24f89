-- A list of instances is a lawful order, or has a fault.
use Rattle.std.proofs.Common.{◌≡◌, ◌≢◌, ◌⊎◌, ◌<◌, ℕ, zero, suc, Bool, true, List, length, slice_get}
use Rattle.std.proofs.Common.{Option, Some, None, Contains, refl, sym, ap, ◌∙◌, subst, inl, inr}
use Rattle.std.proofs.Common.{is_lt, nat_cmp, arith}
use Rattle.epx_types.proofs.Common.{ordering_then, cases_lt, cases_Bool, slice_get_within, IsRising}
use Rattle.epx_types.proofs.Common.{id_cmp, ids_of, Instance, SequenceBefore, IsLawful, Reaches}
use Rattle.epx_types.proofs.Common.{IsReady, InOneComponent, Contains-some_or_none}
use Rattle.epx_types.proofs.Common.{IsLeastOf-or_none}
use Rattle.epx_types.proofs.Common.{IsReady-or_waits, both-cases, negation-cases, Reaches-cases}
use Rattle.epx_types.proofs.Common.{InOneComponent-cases, Id-cases, Contains-Id_cases}
use Rattle.epx_types.specs.declared.id.Id.{Id}
use Rattle.epx_ranking.specs.OrderFaults.{IsStrangerAt, IsRepeatAt, IsEarlyAt, IsOvertakenAt}
use Rattle.epx_ranking.specs.OrderFaults.{ReadyOnce, HasAllReady, InOrder, IsListOfReady}
use Rattle.epx_ranking.specs.OrderFaults.{IsOrderFault}
use Rattle.epx_ranking.specs.declared.order_fault.OrderFault.{OrderFault}
use Rattle.epx_ranking.specs.declared.order_fault.OrderFault.TheVariants.{Memory, Stranger, Repeat}
use Rattle.epx_ranking.specs.declared.order_fault.OrderFault.TheVariants.{Missing, Early, Sequence}
use Rattle.epx_ranking.proofs.LawfulOrderLemmas.{IsLawful-from_order}

-- ---- decidable facts

abbrev pub Decided : Type 0 → Type 0
Decided A = A ⊎ (¬ A)

pub Decided-less : (i j : ℕ) → Decided (i < j)
Decided-less i j = elim (cases_lt i j) [ inl l ↦ inl l | inr k ↦ inr (λ l. omega (arith, k, l)) ]

true_cases : (b : Bool) → Decided (b ≡ true)
true_cases b = elim (cases_Bool b) [ inl t ↦ inl t | inr f ↦ inr (λ t. cc (t, f)) ]

pub Decided-either : {A B : Type 0} → Decided A → Decided B → Decided (A ⊎ B)
Decided-either (inl a) b = inl (inl a)
Decided-either (inr no_a) (inl b) = inl (inr b)
Decided-either (inr no_a) (inr no_b) = inr (λ h. elim h [ inl a ↦ no_a a | inr b ↦ no_b b ])

pub Decided-equivalent : {A B : Type 0} → Decided A → (A → B) → (B → A) → Decided B
Decided-equivalent (inl a) there back = inl (there a)
Decided-equivalent (inr none) there back = inr (λ b. none (back b))

pub Decided-element : {X : Type 0} (P : X → Type 0) → ((x : X) → Decided (P x)) → (xs : List X)
    → Decided ((x : X) × Contains xs x × P x)
Decided-element P decide xs = elim (Contains-some_or_none P decide xs)
    [ inl found ↦ inl found | inr none ↦ inr (λ h. none h.0 h.1 h.2) ]

-- the least number below n that has the fact, or none has it
abbrev pub LeastOrNone : (ℕ → Type 0) → ℕ → Type 0
LeastOrNone P n = ((k : ℕ) × (k < n) × P k × ((j : ℕ) → j < k → ¬ P j)) ⊎ ((j : ℕ) → j < n → ¬ P j)

pub LeastOrNone-holds : (P : ℕ → Type 0) → ((k : ℕ) → Decided (P k)) → (n : ℕ) → LeastOrNone P n
LeastOrNone-holds P decide zero = inr (λ j l. absurd (omega (arith, l)))
LeastOrNone-holds P decide (suc n) =
    elim (LeastOrNone-holds P decide n) [
      | inl least ↦ inl (least.0, omega (arith, least.1), least.2, least.3)
      | inr none ↦ elim (decide n) [
        | inl here ↦ inl (n, omega arith, here, none)
        | inr not_here ↦ inr
            (λ j l p. elim (cases_lt j n) [
              | inl lower ↦ none j lower p
              | inr last ↦ let same : j ≡ n = omega (arith, l, last) in not_here (subst P same p)
            ])
      ]
    ]

module _ (ids : List Id) where
  -- the Id at a place has the fact
  abbrev pub HasAt : (Id → Type 0) → ℕ → Type 0
  HasAt P k = (x : Id) × (slice_get ids k ≡ Some x) × P x

  pub Decided-has_at : (P : Id → Type 0) → ((x : Id) → Decided (P x)) → (k : ℕ)
      → Decided (HasAt P k)
  Decided-has_at P decide k = by (slice_get ids k) refl where
    by : (o : Option Id) → slice_get ids k ≡ o → Decided (HasAt P k)
    by None e = inr (λ h. let at = h.1 in cc (e, at))
    by (Some x) e = Decided-equivalent (decide x) (λ p. (x, e, p))
        (λ h. let at = h.1 in let same : h.0 ≡ x = cc (e, at) in subst P same h.2)

  -- so does the Id at some place for which R holds
  pub Decided-place : (R : ℕ → Type 0) (P : Id → Type 0) → ((k : ℕ) → Decided (R k))
      → ((x : Id) → Decided (P x)) → Decided ((k : ℕ) × R k × HasAt P k)
  Decided-place R P among decide =
      elim (LeastOrNone-holds (λ k. R k × HasAt P k)
      (λ k. both-cases (among k) (Decided-has_at P decide k))
      (length ids)) [
        | inl found ↦ inl (found.0, found.2.0, found.2.1)
        | inr none ↦ inr (λ h. none h.0 (slice_get_within ids h.0 h.2.0 h.2.1) (h.1, h.2))
      ]

module _ (m : List Instance) (ids : List Id) where
  pub Decided-ready : (x : Id) → Decided (IsReady m x)
  Decided-ready x =
      elim (Contains-Id_cases (ids_of m) x) [
        | inl committed ↦ elim (IsReady-or_waits m x committed) [
          | inl ready ↦ inl ready
          | inr waits ↦ inr (λ ready. waits.1.missing (ready.complete waits.0 waits.1.reached))
        ]
        | inr none ↦ inr (λ ready. none ready.committed)
      ]

  -- the instance comes after d by sequence, as y comes after x
  abbrev Follows : Id → Id → Instance → Instance → Type 0
  Follows x y d e = (e.id ≡ y) × (is_lt (ordering_then (nat_cmp d.seq e.seq) (id_cmp x y)) ≡ true)

  pub Decided-sequence : (x y : Id) → Decided (SequenceBefore m x y)
  Decided-sequence x y =
      Decided-equivalent
      (Decided-element (λ (d : Instance). (d.id ≡ x)
      × ((e : Instance) × Contains m e × Follows x y d e))
      (λ d. both-cases (Id-cases d.id x)
      (Decided-element (Follows x y d) (λ e. both-cases (Id-cases e.id y) (true_cases _)) m)) m)
      (λ h. record {
        first = h.0;
        second = h.2.1.0;
        first_in = h.1;
        first_is = h.2.0;
        second_in = h.2.1.1;
        second_is = h.2.1.2.0;
        lower = h.2.1.2.1;
      })
      (λ h. (h.first, h.first_in, (h.first_is, (h.second, h.second_in, (h.second_is, h.lower)))))

  stranger_cases : (k : ℕ) → Decided (IsStrangerAt m ids k)
  stranger_cases k =
      Decided-equivalent
      (Decided-has_at ids (λ x. ¬ IsReady m x) (λ x. negation-cases (Decided-ready x)) k)
      (λ h. record { id = h.0; here = h.1; waits = h.2 })
      (λ h. (h.id, h.here, h.waits))

  repeat_cases : (k : ℕ) → Decided (IsRepeatAt m ids k)
  repeat_cases k =
      Decided-equivalent
      (Decided-has_at ids (λ x. IsReady m x × ((i : ℕ) × (i < k) × HasAt ids (λ y. x ≡ y) i))
      (λ x. both-cases (Decided-ready x)
      (Decided-place ids (λ i. i < k) (λ y. x ≡ y) (λ i. Decided-less i k) (Id-cases x))) k)
      (λ h. record {
        id = h.0;
        here = h.1;
        ready = h.2.0;
        earlier = h.2.1.0;
        is_earlier = h.2.1.1;
        there = h.2.1.2.1 ∙ ap Some (sym h.2.1.2.2);
      })
      (λ h. (h.id, h.here, (h.ready, (h.earlier, h.is_earlier, (h.id, h.there, refl)))))

  early_cases : (k : ℕ) → Decided (IsEarlyAt m ids k)
  early_cases k =
      Decided-equivalent
      (Decided-has_at ids (λ x. (j : ℕ) × (k < j)
      × HasAt ids (λ y. Reaches m x y × ¬ Reaches m y x) j)
      (λ x. Decided-place ids (λ j. k < j) (λ y. Reaches m x y × ¬ Reaches m y x) (Decided-less k)
      (λ y. both-cases (Reaches-cases m x y) (negation-cases (Reaches-cases m y x)))) k)
      (λ h. record {
        id = h.0;
        reached = h.2.2.0;
        here = h.1;
        reaches = h.2.2.2.0;
        outside = h.2.2.2.1;
        later = h.2.0;
        is_later = h.2.1;
        there = h.2.2.1;
      })
      (λ h. (h.id, h.here, (h.later, h.is_later, (h.reached, h.there, (h.reaches, h.outside)))))

  pub Decided-overtaken : (k : ℕ) → Decided (IsOvertakenAt m ids k)
  Decided-overtaken k =
      Decided-equivalent
      (Decided-has_at ids (λ x. (j : ℕ) × (j < k)
      × HasAt ids (λ y. InOneComponent m x y × SequenceBefore m x y) j)
      (λ x. Decided-place ids (λ j. j < k) (λ y. InOneComponent m x y × SequenceBefore m x y)
      (λ j. Decided-less j k)
      (λ y. both-cases (InOneComponent-cases m x y) (Decided-sequence x y))) k)
      (λ h. record {
        id = h.0;
        follower = h.2.2.0;
        here = h.1;
        one_component = h.2.2.2.0;
        by_sequence = h.2.2.2.1;
        earlier = h.2.0;
        is_earlier = h.2.1;
        there = h.2.2.1;
      })
      (λ h. (
        h.id,
        h.here,
        (h.earlier, h.is_earlier, (h.follower, h.there, (h.one_component, h.by_sequence))),
      ))

  -- ---- the first fault

  abbrev HasFault : Type 0
  HasFault = (fault : OrderFault) × (fault ≢ Memory) × IsOrderFault m ids fault

  once_below : (n : ℕ) → ((k : ℕ) → k < n → ¬ (IsStrangerAt m ids k ⊎ IsRepeatAt m ids k))
      → ReadyOnce m ids n
  once_below n none i x l at =
      elim (Decided-ready x) [
        | inl ready ↦ (
          ready,
          λ j lower there. none i l
              (inr (record {
                id = x;
                here = at;
                ready = ready;
                earlier = j;
                is_earlier = lower;
                there = there;
              })),
        )
        | inr waits ↦ absurd (none i l (inl (record { id = x; here = at; waits = waits })))
      ]

  missing_or_whole : ReadyOnce m ids (length ids) → HasFault ⊎ HasAllReady m ids
  missing_or_whole once =
      elim (IsLeastOf-or_none (λ x. IsReady m x × ¬ Contains ids x)
      (λ x. both-cases (Decided-ready x) (negation-cases (Contains-Id_cases ids x))) (ids_of m)) [
        | inl least ↦ inl (
          Missing least.0,
          (λ same. cc same),
          (
            once,
            least.1.0.0,
            least.1.0.1,
            λ y ready out.
                least.1.1 y ready.committed (ready, out),
          ),
        )
        | inr none ↦ inr (λ x ready. elim (Contains-Id_cases ids x)
            [ inl there ↦ there | inr out ↦ absurd (none x ready.committed (ready, out)) ])
      ]

  fault_or_order : IsListOfReady m ids → HasFault ⊎ InOrder m ids (length ids)
  fault_or_order listed =
      elim (LeastOrNone-holds (λ k. IsEarlyAt m ids k ⊎ IsOvertakenAt m ids k)
      (λ k. Decided-either (early_cases k) (Decided-overtaken k)) (length ids)) [
        | inl least ↦
            let before : InOrder m ids least.0 =
            λ i l. (
              (λ early. least.3 i l (inl early)),
              (λ overtaken. least.3 i l (inr overtaken)),
            ) in
            elim (early_cases least.0) [
              | inl early ↦ inl (Early least.0, (λ same. cc same), (listed, early, before))
              | inr not_early ↦ elim least.2 [
                | inl early ↦ absurd (not_early early)
                | inr overtaken ↦ inl (
                  Sequence least.0,
                  (λ same. cc same),
                  (listed, overtaken, not_early, before),
                )
              ]
            ]
        | inr none ↦ inr
            (λ i l. ((λ early. none i l (inl early)), (λ overtaken. none i l (inr overtaken))))
      ]

  -- the least stranger or repeat
  abbrev pub HasWrongPlace : Type 0
  HasWrongPlace = (k : ℕ) × (IsStrangerAt m ids k ⊎ IsRepeatAt m ids k) × ReadyOnce m ids k

  pub HasWrongPlace-or_once : HasWrongPlace ⊎ ReadyOnce m ids (length ids)
  HasWrongPlace-or_once =
      elim (LeastOrNone-holds (λ k. IsStrangerAt m ids k ⊎ IsRepeatAt m ids k)
      (λ k. Decided-either (stranger_cases k) (repeat_cases k)) (length ids)) [
        | inl least ↦ inl (least.0, least.2, once_below least.0 least.3)
        | inr none ↦ inr (once_below (length ids) none)
      ]

  fault_or_once : HasFault ⊎ ReadyOnce m ids (length ids)
  fault_or_once =
      elim HasWrongPlace-or_once [
        | inl (k, inl stranger, once) ↦ inl (Stranger k, (λ same. cc same), (stranger, once))
        | inl (k, inr again, once) ↦ inl (Repeat k, (λ same. cc same), (again, once))
        | inr once ↦ inr once
      ]

  pub IsLawful-or_fault : IsRising (ids_of m) → IsLawful m ids ⊎ HasFault
  IsLawful-or_fault rising =
      elim fault_or_once [
        | inl fault ↦ inr fault
        | inr once ↦ elim (missing_or_whole once) [
          | inl fault ↦ inr fault
          | inr whole ↦ elim (fault_or_order (once, whole)) [
            | inl fault ↦ inr fault
            | inr order ↦ inl (IsLawful-from_order m rising ids (once, whole) order)
          ]
        ]
      ]
