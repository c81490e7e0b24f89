-- What components collect: step by step, and in terms of what their nodes reach.
use Rattle.std.proofs.Common.{◌≡◌, ◌≢◌, ◌↔◌, ◌⊎◌, inl, inr, ℕ, zero, suc, ◌+◌, ◌<◌, List, [], ◌∷◌}
use Rattle.std.proofs.Common.{length, get_or, replicate, refl, sym, subst, ◌∙◌, ap, arith, Contains}
use Rattle.epx_types.proofs.Common.{cases_eq, cases_lt, get_or_default, get_or_past}
use Rattle.epx_types.proofs.Common.{get_or-replicate, length-replicate, Contains-get_or}
use Rattle.epx_graph.proofs.Common.{IsNodePath, NodeReaches}
use Rattle.epx_components.specs.between.Collections.{LeadsOut, LeadsDown, AreCollected}
use Rattle.epx_components.specs.between.Partitions.{ComponentParts, IsPartition, component_of}
use Rattle.epx_components.specs.between.Partitions.{node_at}
use Rattle.epx_components.proofs.NodePathLemmas.{NodeReaches-falls, NodeReaches-edge}
use Rattle.epx_components.proofs.NodePathLemmas.{NodeReaches-itself}
use Rattle.epx_components.proofs.NodePathLemmas.{NodeReaches-trans}
use Rattle.epx_components.proofs.PartitionLemmas.{node_at-within}

-- one thing more
pub iff-or_more : (F A A' D D' X : Type 0) → A ↔ (F ⊎ D) → D' ↔ (D ⊎ X) → A' ↔ (A ⊎ X)
    → A' ↔ (F ⊎ D')
iff-or_more F A A' D D' X old more new = grind arith

-- after one more target
pub LeadsOut-next : (component : List ℕ) (own : ℕ) (targets : List ℕ) (n : ℕ) (P : ℕ → Type 0)
    → LeadsOut component own targets (n + 1) P ↔ (LeadsOut component own targets n P
    ⊎ ((get_or component (get_or targets n 0) 0 ≢ own)
    × P (get_or component (get_or targets n 0) 0)))
LeadsOut-next component own targets n P = (
  λ (i, l, ne, holds). elim (cases_lt i n) [
    | inl past ↦ inl (i, past, ne, holds)
    | inr here ↦
        let same : i ≡ n = omega (arith, l) in
        let Out : ℕ → Type 0 = λ i. (get_or component (get_or targets i 0) 0 ≢ own)
        × P (get_or component (get_or targets i 0) 0) in
        inr (subst Out same (ne, holds))
  ],
  λ h. elim h [
    | inl (i, l, ne, holds) ↦ (i, omega (arith, l), ne, holds)
    | inr (ne, holds) ↦ (n, omega arith, ne, holds)
  ],
)

pub get_or-replicate_zero : (first : List ℕ) (n t c : ℕ) → first ≡ replicate n 0
    → ¬ (t < get_or first c 0)
get_or-replicate_zero first n t c zeros h = elim (cases_lt c n) [
  | inl within ↦ omega (
    arith,
    h,
    ap (λ xs. get_or xs c 0) zeros,
    get_or-replicate {A = ℕ} n c 0 0 within,
  )
  | inr past ↦ omega (
    arith,
    h,
    get_or_past first c 0 (omega (arith, ap length zeros, length-replicate {A = ℕ} n 0, past)),
  )
]

module _ (edges : ℕ → List ℕ) (p : ComponentParts) (is : IsPartition edges p) where
  -- after one more node, by which the value of its component alone has changed
  module _ {A : Type 0} (G : ℕ → A → Type 0) (old new : ℕ → A) (n : ℕ) (l : n < length p.order)
      (same : (c : ℕ) → c ≢ component_of p (node_at p n) → new c ≡ old c) where
    abbrev pub Added : ℕ → Type 0
    Added c = (component_of p (node_at p n) ≡ c)
        × LeadsOut p.component c (edges (node_at p n)) (length (edges (node_at p n)))
        (λ c. G c (old c))

    -- a component below one that was met has its old value
    lower : {c : ℕ} (q i : ℕ) → q < n + 1 → component_of p (node_at p q) ≡ c
        → i < length (edges (node_at p q)) → component_of p (get_or (edges (node_at p q)) i 0) ≢ c
        → new (component_of p (get_or (edges (node_at p q)) i 0))
        ≡ old (component_of p (get_or (edges (node_at p q)) i 0))
    lower q i lq at li ne = same _ (λ here. ne (omega (
      arith,
      at,
      here,
      is.falls (node_at p q) _ (Contains-get_or (edges (node_at p q)) i 0 li),
      is.sorted q n (omega (arith, lq)) l,
    )))

    leads_down_more : (c : ℕ) → LeadsDown edges p (n + 1) (λ c. G c (new c)) c
        ↔ (LeadsDown edges p n (λ c. G c (old c)) c ⊎ Added c)
    leads_down_more c = (
      λ (q, lq, at, (i, li, ne, g)).
          let was = subst (G _) (lower q i lq at li ne) g in
          elim (cases_lt q n) [
            | inl past ↦ inl (q, past, at, (i, li, ne, was))
            | inr here ↦
                let this : q ≡ n = omega (arith, lq) in
                let Out : ℕ → Type 0 = λ q. (component_of p (node_at p q) ≡ c)
                × LeadsOut p.component c (edges (node_at p q)) (length (edges (node_at p q)))
                (λ c. G c (old c)) in
                inr (subst Out this (at, (i, li, ne, was)))
          ],
      λ h. elim h [
        | inl (q, lq, at, (i, li, ne, g)) ↦
            let l' : q < n + 1 = omega (arith, lq) in
            (q, l', at, (i, li, ne, subst (G _) (sym (lower q i l' at li ne)) g))
        | inr (at, (i, li, ne, g)) ↦
            let l' : n < n + 1 = omega arith in
            (n, l', at, (i, li, ne, subst (G _) (sym (lower n i l' at li ne)) g))
      ],
    )

    pub AreCollected-next : (H : A → Type 0) (First : ℕ → Type 0)
        → H (new (component_of p (node_at p n)))
        ↔ (H (old (component_of p (node_at p n)))
        ⊎ LeadsOut p.component (component_of p (node_at p n)) (edges (node_at p n))
        (length (edges (node_at p n))) (λ c. G c (old c)))
        → AreCollected edges p n First (λ c. G c (old c)) (λ c. H (old c))
        → AreCollected edges p (n + 1) First (λ c. G c (new c)) (λ c. H (new c))
    AreCollected-next H First now was c =
        iff-or_more _ _ _ _ _ _ (was c) (leads_down_more c)
        (elim (cases_eq (component_of p (node_at p n)) c) [
          | inl here ↦ subst (λ c. H (new c) ↔ (H (old c) ⊎ Added c)) here (
            λ h. elim (now.0 h) [ inl before ↦ inl before | inr out ↦ inr (refl, out) ],
            λ h. now.1 (elim h [ inl before ↦ inl before | inr added ↦ inr added.1 ]),
          )
          | inr other ↦
              let kept = same c (λ e. other (sym e)) in (
                λ h. inl (subst H kept h),
                λ h. elim h [
                  | inl before ↦ subst H (sym kept) before
                  | inr added ↦ absurd (other added.0)
                ],
              )
        ])

  -- If a component gives a fact and what it has, then a component has what it or a component that
  -- it reaches had at first, and the facts of the other components that it reaches.
  module _ (First Fact Gives Has : ℕ → Type 0)
      (all : AreCollected edges p (length p.order) First Gives Has)
      (gives : (c : ℕ) → Gives c ↔ (Fact c ⊎ Has c)) where
    abbrev pub Source : ℕ → ℕ → Type 0
    Source k j = First (component_of p j)
        ⊎ (Fact (component_of p j) × (component_of p j ≢ component_of p k))

    has_source : (m k : ℕ) → component_of p k < m → k < length p.component
        → Has (component_of p k) → (j : ℕ) × NodeReaches edges k j × Source k j
    has_source zero k lm l h = absurd (omega (arith, lm))
    has_source (suc m) k lm l h = elim ((all (component_of p k)).0 h) [
      | inl first ↦ (k, NodeReaches-itself edges k k refl, inl first)
      | inr (q, lq, at, (i, li, ne, g)) ↦
          let b = node_at p q in
          let j = get_or (edges b) i 0 in
          let edge : Contains (edges b) j = Contains-get_or (edges b) i 0 li in
          let to = NodeReaches-trans edges k b j
          (is.joined k b l (node_at-within edges p is q lq) (sym at))
          (NodeReaches-edge edges b j edge) in
          let down = is.falls b j edge in
          elim ((gives (component_of p j)).0 g) [
            | inl fact ↦ (j, to, inr (fact, ne))
            | inr has ↦
                let (t, there, source) = has_source m j (omega (arith, lm, at, down, ne))
                (is.within b j edge) has in
                let further = NodeReaches-falls edges p.component is.falls j t there in (
                  t,
                  NodeReaches-trans edges k j t to there,
                  elim source [
                    | inl first ↦ inl first
                    | inr (fact, other) ↦
                        inr (fact, λ same. ne (omega (arith, same, at, down, further)))
                  ],
                )
          ]
    ]

    source_found : (k j : ℕ) (cs : List ℕ) → k < length p.component → IsNodePath edges k cs j
        → Source k j → Has (component_of p k)
    source_found k j [] l path source = elim source [
      | inl first ↦ (all _).1 (inl (subst (λ j. First (component_of p j)) (sym path) first))
      | inr (fact, other) ↦ absurd (other (ap (component_of p) (sym path)))
    ]
    source_found k j (c ∷ cs) l (edge, path) source =
        let from : Source c j → Has (component_of p c) =
        source_found c j cs (is.within k c edge) path in
        elim (cases_eq (component_of p c) (component_of p k)) [
          | inl same ↦ subst Has same (from (elim source [
            | inl first ↦ inl first
            | inr (fact, other) ↦ inr (fact, λ here. other (here ∙ same))
          ]))
          | inr out ↦
              let (q, lq, of_q) = is.listed k l in
              let at : node_at p q ≡ k = get_or_default p.order q 0 k lq ∙ of_q in
              let (i, li, of_i) = edge in
              let target : get_or (edges k) i 0 ≡ c = get_or_default (edges k) i 0 c li ∙ of_i in
              let g : Gives (component_of p c) = (gives _).1 (elim source [
                | inl first ↦ inr (from (inl first))
                | inr (fact, other) ↦ elim (cases_eq (component_of p j) (component_of p c)) [
                  | inl last ↦ inl (subst Fact last fact)
                  | inr on ↦ inr (from (inr (fact, on)))
                ]
              ]) in
              let Down : ℕ → Type 0 = λ b. LeadsOut p.component (component_of p k) (edges b)
              (length (edges b)) Gives in
              (all _).1 (inr (
                q,
                lq,
                ap (component_of p) at,
                subst Down (sym at) (i, li, rw target out, rw target g),
              ))
        ]

    pub AreCollected-from_reached : (k : ℕ) → k < length p.component
        → Has (component_of p k) ↔ ((j : ℕ) × NodeReaches edges k j × Source k j)
    AreCollected-from_reached k l = (
      has_source (component_of p k + 1) k (omega arith) l,
      λ (j, there, source). source_found k j there.0 l there.1 source,
    )

  -- If a component gives what it has, then a component has what it or a component that it reaches
  -- had at first.
  pub AreCollected-same : (First Has : ℕ → Type 0)
      → AreCollected edges p (length p.order) First Has Has → (k : ℕ) → k < length p.component
      → Has (component_of p k) ↔ ((j : ℕ) × NodeReaches edges k j × First (component_of p j))
  AreCollected-same First Has all k l =
      let both = AreCollected-from_reached First (λ _. ⊥) Has Has all
      (λ c. (inr, λ h. elim h [ inl never ↦ absurd never | inr has ↦ has ])) k l in (
        λ h.
            let (j, there, source) = both.0 h in
            (j, there, elim source [ inl first ↦ first | inr (never, other) ↦ absurd never ]),
        λ (j, there, first). both.1 (j, there, inl first),
      )

  -- If a component gives a fact and what it has, and no component had anything at first, then a
  -- component has the facts of the other components that it reaches.
  pub AreCollected-from_others : (first : List ℕ) (n t : ℕ) (Fact Gives Has : ℕ → Type 0)
      → first ≡ replicate n 0
      → AreCollected edges p (length p.order) (λ c. t < get_or first c 0) Gives Has
      → ((c : ℕ) → Gives c ↔ (Fact c ⊎ Has c)) → (k : ℕ) → k < length p.component
      → Has (component_of p k) ↔ ((j : ℕ) × NodeReaches edges k j × Fact (component_of p j)
      × (component_of p j ≢ component_of p k))
  AreCollected-from_others first n t Fact Gives Has zeros all gives k l =
      let both =
      AreCollected-from_reached (λ c. t < get_or first c 0) Fact Gives Has all gives k l in (
        λ h.
            let (j, there, source) = both.0 h in
            elim source [
              | inl never ↦ absurd (get_or-replicate_zero first n t _ zeros never)
              | inr (fact, other) ↦ (j, there, fact, other)
            ],
        λ (j, there, fact, other). both.1 (j, there, inr (fact, other)),
      )
