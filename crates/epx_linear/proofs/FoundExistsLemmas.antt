-- What is found of late calls exists: of the calls from which a chain of conflicts leads to a
-- position, one is the latest.
use Rattle.std.proofs.Common.{◌≡◌, ◌⊎◌, inl, inr, ℕ, zero, suc, ◌<◌, List, [], ◌∷◌, ◌++◌}
use Rattle.std.proofs.Common.{length, Option, Some, None, slice_get, slice_index_or, refl, sym, ap}
use Rattle.std.proofs.Common.{subst, ◌∙◌, arith}
use Rattle.epx_types.proofs.Common.{is_lt-cases, is_lt-trans, cases_lt, get_or_append_left}
use Rattle.epx_types.proofs.Common.{get_or_push, id_cmp-IsAntisymmetric, id_cmp-IsTotalOrder}
use Rattle.epx_types.proofs.Common.{length_push}
use Rattle.epx_types.proofs.Common.{Below, Conflict-cases, ConflictAt, UpTo}
use Rattle.epx_types.specs.declared.id.Id.{Id}
use Rattle.epx_types.specs.declared.op.Op.{Op}
use Rattle.epx_linear.specs.declared.client_call.ClientCall.{ClientCall}
use Rattle.epx_linear.specs.ClientCalls.{HasCall, IsInvokedUpTo}
use Rattle.epx_linear.specs.LateCalls.{AreFoundLate, ConflictsUpTo, IsFoundLate, IsLate}
use Rattle.epx_linear.proofs.LatestLemmas.{ConflictsUpTo-cases, ConflictsUpTo-push}
use Rattle.epx_linear.proofs.LatestLemmas.{ConflictsUpTo-refl}

-- ---- which of two calls is the later one

up_to-trans : (x y z : Id) → UpTo x y → UpTo y z → UpTo x z
up_to-trans x y z (inl same) q = subst (λ w. UpTo w z) (sym same) q
up_to-trans x y z (inr less) (inl same) = inr (subst (Below x) same less)
up_to-trans x y z (inr less) (inr more) = inr (is_lt-trans id_cmp-IsTotalOrder x y z less more)

invoked-trans : (a b c : ClientCall) → IsInvokedUpTo a b → IsInvokedUpTo b c → IsInvokedUpTo a c
invoked-trans a b c (inl p) (inl q) = inl (omega (arith, p, q))
invoked-trans a b c (inl p) (inr q) = inl (omega (arith, p, q.0))
invoked-trans a b c (inr p) (inl q) = inl (omega (arith, p.0, q))
invoked-trans a b c (inr p) (inr q) =
    inr (p.0 ∙ q.0, up_to-trans c.id b.id a.id q.1 p.1)

invoked-total : (a b : ClientCall) → IsInvokedUpTo a b ⊎ IsInvokedUpTo b a
invoked-total a b = elim (cases_lt a.invoked b.invoked) [
  | inl less ↦ inl (inl less)
  | inr least ↦ elim (cases_lt b.invoked a.invoked) [
    | inl less ↦ inr (inl less)
    | inr most ↦
        let same : a.invoked ≡ b.invoked = omega (arith, least, most) in
        elim (is_lt-cases id_cmp-IsTotalOrder id_cmp-IsAntisymmetric a.id b.id) [
          | inl below ↦ inr (inr (sym same, inr below))
          | inr (inl tied) ↦ inl (inr (same, inl (sym tied)))
          | inr (inr above) ↦ inl (inr (same, inr above))
        ]
  ]
]

-- ---- the latest call of some positions

module _ (calls : List (Option ClientCall)) where
  -- no call is at such a position, or one of them is the latest
  abbrev HasLatest : (ℕ → Type 0) → Type 0
  HasLatest S = ((i : ℕ) (c : ClientCall) → S i → ¬ HasCall calls i c)
      ⊎ ((b : ClientCall) × ((i : ℕ) × S i × HasCall calls i b)
      × ((i : ℕ) (c : ClientCall) → S i → HasCall calls i c → IsInvokedUpTo c b))

  latest_of_same : (S T : ℕ → Type 0) → ((i : ℕ) → S i → T i) → ((i : ℕ) → T i → S i)
      → HasLatest S → HasLatest T
  latest_of_same S T to from (inl none) = inl (λ i c t. none i c (from i t))
  latest_of_same S T to from (inr (b, (i, s, at), up)) =
      inr (b, (i, to i s, at), λ k c t. up k c (from k t))

  latest_of_both : (S T : ℕ → Type 0) → HasLatest S → HasLatest T → HasLatest (λ i. S i ⊎ T i)
  latest_of_both S T (inl none) (inl neither) =
      inl (λ i c h. elim h [ inl s ↦ none i c s | inr t ↦ neither i c t ])
  latest_of_both S T (inl none) (inr (b, (i, t, at), up)) = inr (
    b,
    (i, inr t, at),
    λ k c h here. elim h [ inl s ↦ absurd (none k c s here) | inr u ↦ up k c u here ],
  )
  latest_of_both S T (inr (a, (i, s, at), up)) (inl none) = inr (
    a,
    (i, inl s, at),
    λ k c h here. elim h [ inl u ↦ up k c u here | inr t ↦ absurd (none k c t here) ],
  )
  latest_of_both S T (inr (a, (i, s, at), up)) (inr (b, (j, t, to), on)) =
      elim (invoked-total a b) [
        | inl later ↦ inr (
          b,
          (j, inr t, to),
          λ k c h here. elim h [
            | inl u ↦ invoked-trans c a b (up k c u here) later
            | inr u ↦ on k c u here
          ],
        )
        | inr later ↦ inr (
          a,
          (i, inl s, at),
          λ k c h here. elim h [
            | inl u ↦ up k c u here
            | inr u ↦ invoked-trans c b a (on k c u here) later
          ],
        )
      ]

  latest_at : (j : ℕ) → HasLatest (λ i. i ≡ j)
  latest_at j = by_call (slice_get calls j) refl
    where
      by_call : (o : Option (Option ClientCall)) → slice_get calls j ≡ o → HasLatest (λ i. i ≡ j)
      by_call None is = inl (λ i c here at.
          let none : None ≡ Some (Some c) = sym is ∙ ap (slice_get calls) (sym here) ∙ at in
          cc none)
      by_call (Some None) is = inl (λ i c here at.
          let none : Some None ≡ Some (Some c) =
          sym is ∙ ap (slice_get calls) (sym here) ∙ at in
          cc none)
      by_call (Some (Some b)) is = inr (
        b,
        (j, refl, is),
        λ i c here at.
            let one : Some (Some c) ≡ Some (Some b) =
            sym at ∙ ap (slice_get calls) here ∙ is in
            let same : c ≡ b = cc one in
            inr (
              ap (λ (d : ClientCall). d.invoked) same,
              inl (ap (λ (d : ClientCall). d.id) (sym same)),
            ),
      )

-- ---- the latest call that leads to a position

module _ (commands : List (List Op)) (calls : List (Option ClientCall)) where
  -- by a conflict with one of the first n commands
  leads_by : (j n : ℕ) → ((k : ℕ) → k < n → HasLatest calls (λ i. ConflictsUpTo commands i k))
      → HasLatest calls (λ i. (k : ℕ) × (k < n) × ConflictAt commands k j
      × ConflictsUpTo commands i k)
  leads_by j zero latest = inl (λ i c h. absurd (omega (arith, h.1)))
  leads_by j (suc n) latest =
      let Beside : ℕ → Type 0 = λ i. (k : ℕ) × (k < n) × ConflictAt commands k j
      × ConflictsUpTo commands i k in
      let Within : ℕ → Type 0 = λ i. (k : ℕ) × (k < suc n) × ConflictAt commands k j
      × ConflictsUpTo commands i k in
      let earlier = leads_by j n (λ k l. latest k (omega (arith, l))) in
      elim (Conflict-cases (slice_index_or commands n []) (slice_index_or commands j [])) [
        | inl meets ↦ latest_of_same calls (λ i. Beside i ⊎ ConflictsUpTo commands i n) Within
            (λ i h. elim h [
              | inl (k, l, conflict, up) ↦ (k, omega (arith, l), conflict, up)
              | inr up ↦ (n, omega arith, meets, up)
            ])
            (λ i (k, l, conflict, up). elim (cases_lt k n) [
              | inl less ↦ inl (k, less, conflict, up)
              | inr more ↦
                  let here : k ≡ n = omega (arith, l, more) in
                  inr (subst (ConflictsUpTo commands i) here up)
            ])
            (latest_of_both calls Beside (λ i. ConflictsUpTo commands i n) earlier
            (latest n (omega arith)))
        | inr apart ↦ latest_of_same calls Beside Within
            (λ i (k, l, conflict, up). (k, omega (arith, l), conflict, up))
            (λ i (k, l, conflict, up). elim (cases_lt k n) [
              | inl less ↦ (k, less, conflict, up)
              | inr more ↦
                  let here : k ≡ n = omega (arith, l, more) in
                  absurd (apart (subst (λ p. ConflictAt commands p j) here conflict))
            ])
            earlier
      ]

  leads_to : (n j : ℕ) → j < n → HasLatest calls (λ i. ConflictsUpTo commands i j)
  leads_to zero j l = absurd (omega (arith, l))
  leads_to (suc n) j l =
      let Beside : ℕ → Type 0 = λ i. (k : ℕ) × (k < j) × ConflictAt commands k j
      × ConflictsUpTo commands i k in
      latest_of_same calls (λ i. (i ≡ j) ⊎ Beside i) (λ i. ConflictsUpTo commands i j)
      (λ i h. elim h [
        | inl here ↦ subst (λ k. ConflictsUpTo commands k j) (sym here)
            (ConflictsUpTo-refl commands j)
        | inr (k, less, conflict, up) ↦ ConflictsUpTo-push commands i k j up less conflict
      ])
      (λ i up. ConflictsUpTo-cases commands i j up)
      (latest_of_both calls (λ i. i ≡ j) Beside (latest_at calls j)
      (leads_by j j (λ k less. leads_to n k (omega (arith, l, less)))))

  -- ---- what is found

  -- where there is no call, or it did not return, it is not late
  not_late : (j : ℕ) → ((a : ClientCall) (t : ℕ) → HasCall calls j a → ¬ (a.returned ≡ Some t))
      → (i : ℕ) → ¬ IsLate commands calls j i
  not_late j none i (a, b, at_j, at_i, up, (t, returned, less)) = none a t at_j returned

  found_of_call : (j : ℕ) (a : ClientCall) → HasCall calls j a → (t : ℕ) → a.returned ≡ Some t
      → (o : Option Id) × IsFoundLate commands calls j o
  found_of_call j a at t returned = elim (leads_to (suc j) j (omega arith)) [
    | inl none ↦ absurd (none j a (ConflictsUpTo-refl commands j) at)
    | inr (b, among, latest) ↦ elim (cases_lt t b.invoked) [
      | inl less ↦ (
        Some b.id,
        (a, b, at, record { among = among; latest = latest }, (t, returned, less), refl),
      )
      | inr more ↦ (
        None,
        λ i (a', b', at_j, at_i, up, (t', returned', less)).
            let one : Some (Some a') ≡ Some (Some a) = sym at_j ∙ at in
            let same : a' ≡ a = cc one in
            let time : Some t' ≡ Some t =
            sym returned' ∙ ap (λ (c : ClientCall). c.returned) same ∙ returned in
            let times : t' ≡ t = cc time in
            elim (latest i b' up at_i) [
              | inl lower ↦ absurd (omega (arith, lower, more, less, times))
              | inr tied ↦ absurd (omega (arith, tied.0, more, less, times))
            ],
      )
    ]
  ]

  found_at : (j : ℕ) → (o : Option Id) × IsFoundLate commands calls j o
  found_at j = by_call (slice_get calls j) refl
    where
      by_return : (a : ClientCall) → HasCall calls j a → (r : Option ℕ) → a.returned ≡ r
          → (o : Option Id) × IsFoundLate commands calls j o
      by_return a at None is = (
        None,
        not_late j (λ c t here returned.
            let one : Some (Some c) ≡ Some (Some a) = sym here ∙ at in
            let same : c ≡ a = cc one in
            let none : None ≡ Some t =
            sym is ∙ ap (λ (d : ClientCall). d.returned) (sym same) ∙ returned in cc none),
      )
      by_return a at (Some t) is = found_of_call j a at t is

      by_call : (o : Option (Option ClientCall)) → slice_get calls j ≡ o
          → (o : Option Id) × IsFoundLate commands calls j o
      by_call None is = (
        None,
        not_late j (λ c t here returned.
            let none : None ≡ Some (Some c) = sym is ∙ here in cc none),
      )
      by_call (Some None) is = (
        None,
        not_late j (λ c t here returned.
            let none : Some None ≡ Some (Some c) = sym is ∙ here in cc none),
      )
      by_call (Some (Some a)) is = by_return a is a.returned refl

  found_below : (n : ℕ) → (found : List (Option Id)) × (length found ≡ n)
      × ((j : ℕ) → j < n → IsFoundLate commands calls j (slice_index_or found j None))
  found_below zero = ([], refl, λ j l. absurd (omega (arith, l)))
  found_below (suc n) =
      let (found, count, each) = found_below n in
      let o = found_at n in (
        found ++ o.0 ∷ [],
        omega (arith, length_push found o.0, count),
        λ j l. elim (cases_lt j n) [
          | inl old ↦ subst (IsFoundLate commands calls j)
              (sym (get_or_append_left found (o.0 ∷ []) None j (omega (arith, old, count))))
              (each j old)
          | inr new ↦
              let here : n ≡ j = omega (arith, l, new) in
              subst (IsFoundLate commands calls j)
              (sym (get_or_push found o.0 None j (count ∙ here)))
              (subst (λ k. IsFoundLate commands calls k o.0) here o.1)
        ],
      )

  pub AreFoundLate-exists : (found : List (Option Id)) × AreFoundLate commands calls found
  AreFoundLate-exists =
      let (found, count, each) = found_below (length commands) in
      (found, record { whole = count; each = each })
