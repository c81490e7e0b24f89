-- A committed map has a text of its uncovered neighbours.
use Rattle.std.proofs.Common.{◌≡◌, ◌⊎◌, inl, inr, ℕ, List, [], flat_map, map, get_or, Contains}
use Rattle.std.proofs.Common.{Some}
use Rattle.std.proofs.Common.{slice_get, refl, subst₂, arith}
use Rattle.epx_types.specs.declared.id.Id.{Id}
use Rattle.epx_types.specs.declared.op.Op.{Op}
use Rattle.epx_types.proofs.Common.{Instance, Ranked, IsExecutionOrder, ranked_ids}
use Rattle.epx_types.proofs.Common.{commands_in, touched_keys, Reaches-cases, both-cases}
use Rattle.epx_types.proofs.Common.{negation-cases}
use Rattle.epx_types.proofs.Common.{Contains-Id_cases, slice_get-from_Contains, Contains-slice_get}
use Rattle.epx_types.proofs.Common.{IsExecutionOrder-once, AllPairs-slice_get, cases_lt}
use Rattle.epx_types.proofs.Common.{Contains-flat_map, Contains-map, AreThose-exists}
use Rattle.epx_types.proofs.Common.{IsExecutionOrder-exists}
use Rattle.epx_types.proofs.lists.SearchLemmas.{Contains-cases}
use Rattle.epx_neighbours.specs.Neighbours.{AreNeighbours, TouchesAt, WritesAt}
use Rattle.epx_neighbours.specs.UncoveredLines.{pairs_text}
use Rattle.epx_neighbours.specs.UncoveredNeighbours.{NeighbourPair, IsUncoveredPair}
use Rattle.epx_neighbours.specs.UncoveredNeighbours.{AreUncoveredPairs}
use Rattle.epx_neighbours.specs.UncoveredTextLaws.{UncoveredTextExists}
use Rattle.epx_neighbours.specs.inner.KeyNumbers.{keys_in}
use Rattle.epx_neighbours.proofs.CoverLemmas.{ConflictOn, key_cmp-decides, WritesAt-cases}
use Rattle.epx_neighbours.proofs.CoverLemmas.{between-cases}
use Rattle.epx_neighbours.proofs.RowOrderLemmas.{pair_cmp-IsTotalOrder, pair_cmp-IsAntisymmetric}
use Rattle.epx_neighbours.proofs.TouchLemmas.{keys_in-touched}

TouchesAt-cases : (commands : List (List Op)) (p : ℕ) (k : List ℕ)
    → TouchesAt commands p k ⊎ (¬ TouchesAt commands p k)
TouchesAt-cases commands p k =
    Contains-cases key_cmp-decides (touched_keys (get_or commands p [])) k

ConflictOn-cases : (commands : List (List Op)) (p q : ℕ) (k : List ℕ)
    → ConflictOn commands p q k ⊎ (¬ ConflictOn commands p q k)
ConflictOn-cases commands p q k =
    elim (both-cases (WritesAt-cases commands p k) (TouchesAt-cases commands q k)) [
      | inl first ↦ inl (inl first)
      | inr not_first ↦
          elim (both-cases (TouchesAt-cases commands p k) (WritesAt-cases commands q k)) [
            | inl second ↦ inl (inr second)
            | inr not_second ↦ inr (λ one. elim one [
              | inl c ↦ not_first c
              | inr c ↦ not_second c
            ])
          ]
    ]

-- whether two commands are neighbours on a key is decidable
AreNeighbours-cases : (commands : List (List Op)) (p q : ℕ) (k : List ℕ)
    → AreNeighbours commands p q k ⊎ (¬ AreNeighbours commands p q k)
AreNeighbours-cases commands p q k = elim (cases_lt p q) [
  | inr upto ↦ inr (λ are. omega (arith, upto, are.rises))
  | inl less ↦ elim (ConflictOn-cases commands p q k) [
    | inr apart ↦ inr (λ are. apart are.conflict)
    | inl one ↦ elim (between-cases (λ r. WritesAt commands r k)
        (λ r. WritesAt-cases commands r k) p q) [
          | inl (r, after, before, wrote) ↦ inr (λ are. are.next r after before wrote)
          | inr clear ↦ inl (record { rises = less; conflict = one; next = clear })
        ]
  ]
]

module _ (m : List Instance) (order : List Ranked) (orders : IsExecutionOrder m order) where
  abbrev ids : List Id
  ids = ranked_ids order

  abbrev commands : List (List Op)
  commands = commands_in m ids

  one_position : (p q : ℕ) (x : Id) → slice_get ids p ≡ Some x → slice_get ids q ≡ Some x → p ≡ q
  one_position p q x at_p at_q = elim (cases_lt p q) [
    | inl l ↦ absurd (AllPairs-slice_get (λ v w. ¬ (v ≡ w)) ids
        (IsExecutionOrder-once m order orders) p q x x l at_p at_q refl)
    | inr upto ↦ elim (cases_lt q p) [
      | inl l ↦ absurd (AllPairs-slice_get (λ v w. ¬ (v ≡ w)) ids
          (IsExecutionOrder-once m order orders) q p x x l at_q at_p refl)
      | inr level ↦ omega arith
    ]
  ]

  at_positions : (n : NeighbourPair) (p q : ℕ) → slice_get ids p ≡ Some n.before
      → slice_get ids q ≡ Some n.after
      → IsUncoveredPair m order n ⊎ (¬ IsUncoveredPair m order n)
  at_positions n p q at_p at_q = elim (AreNeighbours-cases commands p q n.key) [
    | inr none ↦ inr (λ u. none (subst₂ (λ v w. AreNeighbours commands v w n.key)
        (one_position u.first p n.before u.before at_p)
        (one_position u.second q n.after u.after at_q) u.neighbours))
    | inl are ↦ elim (both-cases (negation-cases (Reaches-cases m n.before n.after))
        (negation-cases (Reaches-cases m n.after n.before))) [
          | inl apart ↦ inl (record {
            first = p;
            second = q;
            before = at_p;
            after = at_q;
            neighbours = are;
            apart = apart;
          })
          | inr related ↦ inr (λ u. related u.apart)
        ]
  ]

  IsUncoveredPair-cases : (n : NeighbourPair)
      → IsUncoveredPair m order n ⊎ (¬ IsUncoveredPair m order n)
  IsUncoveredPair-cases n = elim (Contains-Id_cases ids n.before) [
    | inr none ↦ inr (λ u. none (Contains-slice_get ids u.first n.before u.before))
    | inl first ↦ elim (Contains-Id_cases ids n.after) [
      | inr none ↦ inr (λ u. none (Contains-slice_get ids u.second n.after u.after))
      | inl second ↦
          let p = slice_get-from_Contains ids n.before first in
          let q = slice_get-from_Contains ids n.after second in
          at_positions n p.0 q.0 p.1 q.1
    ]
  ]

  -- all pairs of instances, with each key
  pairs_with : Id → Id → List NeighbourPair
  pairs_with x y =
      map (λ k. record { before = x; after = y; key = k }) (keys_in commands)

  pairs_from : Id → List NeighbourPair
  pairs_from x = flat_map (pairs_with x) ids

  in_pairs : (n : NeighbourPair) → IsUncoveredPair m order n
      → Contains (flat_map pairs_from ids) n
  unfolding pairs_with pairs_from
  in_pairs n u =
      let key : Contains (keys_in commands) n.key = elim u.neighbours.conflict [
        | inl c ↦ keys_in-touched commands u.second n.key c.1
        | inr c ↦ keys_in-touched commands u.first n.key c.0
      ] in
      Contains-flat_map pairs_from ids n.before n
      (Contains-slice_get ids u.first n.before u.before)
      (Contains-flat_map (pairs_with n.before) ids n.after n
      (Contains-slice_get ids u.second n.after u.after)
      (Contains-map (λ k. record { before = n.before; after = n.after; key = k })
      (keys_in commands) n.key key))

  pub AreUncoveredPairs-exists : (pairs : List NeighbourPair) × AreUncoveredPairs m order pairs
  AreUncoveredPairs-exists =
      let those =
      AreThose-exists pair_cmp-IsTotalOrder pair_cmp-IsAntisymmetric (IsUncoveredPair m order)
      IsUncoveredPair-cases (flat_map pairs_from ids) in (
        those.0,
        record {
          exact = λ n. (
            λ h. (those.1.elements_only n h).1,
            λ u. those.1.elements_all n (in_pairs n u) u,
          );
          rising = those.1.elements_rise;
        },
      )

pub UncoveredTextExists-holds : UncoveredTextExists
UncoveredTextExists-holds m rising =
    let order = IsExecutionOrder-exists m rising in
    let pairs = AreUncoveredPairs-exists m order.0 order.1 in (
      pairs_text pairs.0,
      record {
        order = order.0;
        pairs = pairs.0;
        executed = order.1;
        listed = pairs.1;
        printed = refl;
      },
    )
