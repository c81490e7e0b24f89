-- A map whose neighbours are all related is covered, and no other one is.
use Rattle.std.proofs.Common.{◌≡◌, ◌≢◌, ◌⊎◌, inl, inr, ℕ, zero, suc, ◌+◌, ◌<◌, ◌≤◌, List, []}
use Rattle.std.proofs.Common.{get_or, Contains, Some, slice_get, refl, sym, ap, subst}
use Rattle.std.proofs.Common.{◌∙◌, arith}
use Rattle.epx_types.specs.declared.id.Id.{Id}
use Rattle.epx_types.specs.declared.op.Op.{Op}
use Rattle.epx_types.proofs.Common.{Instance, Ranked, IsExecutionOrder, IsRising, ids_of}
use Rattle.epx_types.proofs.Common.{ranked_ids, commands_in, instance_of, ops_or_empty, IsCovered}
use Rattle.epx_types.proofs.Common.{Conflict, IsReady, Reaches, Reaches-cases, Reaches-trans}
use Rattle.epx_types.proofs.Common.{IsExecutionOrder-once, AllPairs-slice_get, cases_lt}
use Rattle.epx_types.proofs.Common.{Contains-slice_get, slice_get-from_Contains, slice_get_within}
use Rattle.epx_types.proofs.Common.{slice_get-from_map, Contains-from_map, get_or_from_slice_get}
use Rattle.epx_types.proofs.Common.{slice_get-get_or, instance_of-iff_contains}
use Rattle.epx_types.proofs.Common.{written_keys-touched}
use Rattle.epx_types.proofs.Common.{key_cmp-cases, written_keys, touched_keys}
use Rattle.epx_types.proofs.lists.ListPositionLemmas.{slice_get-map}
use Rattle.epx_types.proofs.lists.SearchLemmas.{Contains-cases}
use Rattle.epx_neighbours.specs.Neighbours.{AreNeighbours, TouchesAt, WritesAt}
use Rattle.epx_neighbours.specs.UncoveredNeighbours.{NeighbourPair, IsUncoveredPair}
use Rattle.epx_neighbours.proofs.UncoveredPairLemmas.{Reaches-back}

-- one of the two commands writes the key, and the other touches it
abbrev pub ConflictOn : List (List Op) → ℕ → ℕ → List ℕ → Type 0
ConflictOn commands p q k = (WritesAt commands p k × TouchesAt commands q k)
    ⊎ (TouchesAt commands p k × WritesAt commands q k)

pub key_cmp-decides : (k j : List ℕ) → (k ≡ j) ⊎ (¬ (k ≡ j))
key_cmp-decides k j = elim (key_cmp-cases k j) [ inl same ↦ inl same.1 | inr other ↦ inr other.1 ]

pub WritesAt-cases : (commands : List (List Op)) (p : ℕ) (k : List ℕ)
    → WritesAt commands p k ⊎ (¬ WritesAt commands p k)
WritesAt-cases commands p k = Contains-cases key_cmp-decides (written_keys (get_or commands p [])) k

-- a number between two others has the property, or none has it
pub between-cases : (P : ℕ → Type 0) → ((r : ℕ) → P r ⊎ (¬ P r)) → (p n : ℕ)
    → ((r : ℕ) × (p < r) × (r < n) × P r) ⊎ ((r : ℕ) → p < r → r < n → ¬ P r)
between-cases P decide p zero = inr (λ r after before h. omega arith)
between-cases P decide p (suc n) =
    elim (between-cases P decide p n) [
      | inl found ↦ inl (found.0, found.1, omega (arith, found.2), found.3)
      | inr none ↦ elim (cases_lt p n) [
        | inl less ↦ elim (decide n) [
          | inl here ↦ inl (n, less, omega arith, here)
          | inr not_here ↦ inr (λ r after before h. elim (cases_lt r n) [
            | inl past ↦ none r after past h
            | inr last ↦ let same : r ≡ n = omega arith in not_here (subst P same h)
          ])
        ]
        | inr upto ↦ inr (λ r after before h. omega arith)
      ]
    ]

module _ (m : List Instance) (order : List Ranked) (orders : IsExecutionOrder m order) where
  abbrev ids : List Id
  ids = ranked_ids order

  abbrev commands : List (List Op)
  commands = commands_in m ids

  touches : (p : ℕ) (k : List ℕ) → WritesAt commands p k → TouchesAt commands p k
  touches p k = written_keys-touched (get_or commands p []) k

  -- two neighbours are uncovered, or the later one reaches the earlier one
  pub IsUncoveredPair-or_reaches : (p q : ℕ) (x y : Id) (k : List ℕ) → slice_get ids p ≡ Some x
      → slice_get ids q ≡ Some y → AreNeighbours commands p q k
      → IsUncoveredPair m order (record { before = x; after = y; key = k }) ⊎ Reaches m y x
  IsUncoveredPair-or_reaches p q x y k at_p at_q are = elim (Reaches-cases m y x) [
    | inl back ↦ inr back
    | inr no_back ↦ inl (record {
      first = p;
      second = q;
      before = at_p;
      after = at_q;
      neighbours = are;
      apart = (
        λ there. no_back (Reaches-back m order orders p q x y are.rises at_p at_q there),
        no_back,
      );
    })
  ]

  -- where no neighbours are uncovered, the later one reaches the earlier one
  step : ((n : NeighbourPair) → ¬ IsUncoveredPair m order n) → (p q : ℕ) (x y : Id) (k : List ℕ)
      → slice_get ids p ≡ Some x → slice_get ids q ≡ Some y → AreNeighbours commands p q k
      → Reaches m y x
  step none p q x y k at_p at_q are = elim (IsUncoveredPair-or_reaches p q x y k at_p at_q are) [
    | inl uncovered ↦ absurd (none (record { before = x; after = y; key = k }) uncovered)
    | inr back ↦ back
  ]

  module _ (R : Id → Id → Type 0) (chains : (x y z : Id) → R x y → R y z → R x z)
      (follows : (p q : ℕ) (x y : Id) (k : List ℕ) → slice_get ids p ≡ Some x
      → slice_get ids q ≡ Some y → AreNeighbours commands p q k → R y x) where
    -- a chain of neighbours leads from the later command to the earlier one
    chain : (gap p q : ℕ) (x y : Id) (k : List ℕ) → p < q → q ≤ p + gap
        → slice_get ids p ≡ Some x → slice_get ids q ≡ Some y → ConflictOn commands p q k
        → R y x
    chain zero p q x y k l near at_p at_q one = absurd (omega arith)
    chain (suc gap) p q x y k l near at_p at_q one =
        elim (between-cases (λ r. WritesAt commands r k) (λ r. WritesAt-cases commands r k)
        p q) [
          | inr clear ↦ follows p q x y k at_p at_q
              (record { rises = l; conflict = one; next = clear })
          | inl (r, after, before, wrote) ↦
              let within = slice_get_within ids q y at_q in
              let z = get_or ids r x in
              let at_r : slice_get ids r ≡ Some z =
              slice_get-get_or ids r x (omega (arith, before, within)) in
              let first : TouchesAt commands p k =
              elim one [ inl c ↦ touches p k c.0 | inr c ↦ c.0 ] in
              let second : TouchesAt commands q k =
              elim one [ inl c ↦ c.1 | inr c ↦ touches q k c.1 ] in
              chains y z x
              (chain gap r q z y k before (omega (arith, after, near)) at_r at_q
              (inl (wrote, second)))
              (chain gap p r x z k after (omega (arith, before, near)) at_p at_r
              (inr (first, wrote)))
        ]

  module _ (rising : IsRising (ids_of m)) where
    -- the command of an instance, at the position of the instance
    command_at : (p : ℕ) (d : Instance) → Contains m d → slice_get ids p ≡ Some d.id
        → get_or commands p [] ≡ d.ops
    command_at p d in_m at =
        get_or_from_slice_get commands p (ops_or_empty (instance_of m d.id)) []
        (slice_get-map (λ x. ops_or_empty (instance_of m x)) ids p d.id at)
        ∙ ap ops_or_empty ((instance_of-iff_contains m rising d.id d).1 (in_m, refl))

    at_ready : (d : Instance) → IsReady m d.id → (p : ℕ) × (slice_get ids p ≡ Some d.id)
    at_ready d ready = slice_get-from_Contains ids d.id (orders.whole d.id ready)

    conflict_on : (d e : Instance) (p q : ℕ) → Contains m d → Contains m e
        → slice_get ids p ≡ Some d.id → slice_get ids q ≡ Some e.id → (c : Conflict d.ops e.ops)
        → ConflictOn commands p q c.0
    conflict_on d e p q in_d in_e at_p at_q (k, inl (a, b)) = inl (
      subst (λ ops. Contains (written_keys ops) k) (sym (command_at p d in_d at_p)) a,
      subst (λ ops. Contains (touched_keys ops) k) (sym (command_at q e in_e at_q)) b,
    )
    conflict_on d e p q in_d in_e at_p at_q (k, inr (a, b)) = inr (
      subst (λ ops. Contains (touched_keys ops) k) (sym (command_at p d in_d at_p)) a,
      subst (λ ops. Contains (written_keys ops) k) (sym (command_at q e in_e at_q)) b,
    )

    -- of two ready instances that conflict, one leads to the other
    pub AreNeighbours-chain : (R : Id → Id → Type 0) → ((x y z : Id) → R x y → R y z → R x z)
        → ((p q : ℕ) (x y : Id) (k : List ℕ) → slice_get ids p ≡ Some x
        → slice_get ids q ≡ Some y → AreNeighbours commands p q k → R y x) → (d e : Instance)
        → Contains m d → Contains m e → d.id ≢ e.id → IsReady m d.id → IsReady m e.id
        → Conflict d.ops e.ops → R d.id e.id ⊎ R e.id d.id
    AreNeighbours-chain R chains follows d e in_d in_e differ d_ready e_ready conflict =
        let p = at_ready d d_ready in
        let q = at_ready e e_ready in
        let one = conflict_on d e p.0 q.0 in_d in_e p.1 q.1 conflict in
        elim (cases_lt p.0 q.0) [
          | inl l ↦ inr
              (chain R chains follows q.0 p.0 q.0 d.id e.id conflict.0 l (omega arith) p.1 q.1 one)
          | inr upto ↦ elim (cases_lt q.0 p.0) [
            | inl l ↦ inl
                (chain R chains follows p.0 q.0 p.0 e.id d.id conflict.0 l (omega arith) q.1 p.1
                (elim one [ inl c ↦ inr (c.1, c.0) | inr c ↦ inl (c.1, c.0) ]))
            | inr level ↦
                let same : p.0 ≡ q.0 = omega arith in
                let one_id : Some d.id ≡ Some e.id = sym p.1 ∙ ap (slice_get ids) same ∙ q.1 in
                absurd (differ (cc one_id))
          ]
        ]

    pub IsCovered-without_pairs : ((n : NeighbourPair) → ¬ IsUncoveredPair m order n) → IsCovered m
    IsCovered-without_pairs none = AreNeighbours-chain (Reaches m) (Reaches-trans m) (step none)

    -- an instance of the order
    instance_at : (p : ℕ) (x : Id) → slice_get ids p ≡ Some x
        → (d : Instance) × Contains m d × (d.id ≡ x) × IsReady m x
    instance_at p x at =
        let r = slice_get-from_map (λ (r : Ranked). r.id) order p x at in
        let ready = subst (IsReady m) r.2
        (orders.ranked r.0 (Contains-slice_get order p r.0 r.1)).ready in
        let d = Contains-from_map (λ (e : Instance). e.id) m x ready.committed in
        (d.0, d.1, d.2, ready)

    pub IsCovered-not_if_pair : (n : NeighbourPair) → IsUncoveredPair m order n → ¬ IsCovered m
    IsCovered-not_if_pair n u covered =
        let d = instance_at u.first n.before u.before in
        let e = instance_at u.second n.after u.after in
        let at_p : slice_get ids u.first ≡ Some d.0.id = u.before ∙ ap Some (sym d.2) in
        let at_q : slice_get ids u.second ≡ Some e.0.id = u.after ∙ ap Some (sym e.2) in
        let command_p = command_at u.first d.0 d.1 at_p in
        let command_q = command_at u.second e.0 e.1 at_q in
        let differ : d.0.id ≢ e.0.id = AllPairs-slice_get (λ v w. ¬ (v ≡ w)) ids
        (IsExecutionOrder-once m order orders) u.first u.second d.0.id e.0.id u.neighbours.rises
        at_p at_q in
        let conflict : Conflict d.0.ops e.0.ops = (
          n.key,
          elim u.neighbours.conflict [
            | inl (a, b) ↦ inl (
              subst (λ ops. Contains (written_keys ops) n.key) command_p a,
              subst (λ ops. Contains (touched_keys ops) n.key) command_q b,
            )
            | inr (a, b) ↦ inr (
              subst (λ ops. Contains (touched_keys ops) n.key) command_p a,
              subst (λ ops. Contains (written_keys ops) n.key) command_q b,
            )
          ],
        ) in
        elim (covered d.0 e.0 d.1 e.1 differ (subst (IsReady m) (sym d.2) d.3)
        (subst (IsReady m) (sym e.2) e.3) conflict) [
          | inl there ↦ u.apart.0 (rw (d.2, e.2) at there)
          | inr back ↦ u.apart.1 (rw (d.2, e.2) at back)
        ]
