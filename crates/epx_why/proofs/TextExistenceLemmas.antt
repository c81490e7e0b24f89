-- Each instance has a text that says why, and each two have a text of a path.
use Rattle.std.proofs.Common.{◌≡◌, ◌⊎◌, inl, inr, ℕ, zero, suc, ◌+◌, ◌<◌, ◌≤◌, List, [], ◌∷◌, ◌++◌}
use Rattle.std.proofs.Common.{length, map, flat_map, codes, Contains, refl, sym, ap, subst, ◌∙◌}
use Rattle.std.proofs.Common.{arith}
use Rattle.epx_types.proofs.Common.{cases_lt, IsRising, UpTo, Instance, ids_of, IsCommitted}
use Rattle.epx_types.proofs.Common.{DependsOn, IsPath, Reaches, IsReady, WaitsFor}
use Rattle.epx_types.proofs.Common.{id_cmp-IsTotalOrder}
use Rattle.epx_types.proofs.Common.{id_cmp-IsAntisymmetric, slice_get-from_Contains, Contains-nil}
use Rattle.epx_types.proofs.Common.{Contains-head, Contains-cons, Contains-cons_cases}
use Rattle.epx_types.proofs.Common.{Contains-flat_map, Contains-from_map, IsRising-from_AllPairs}
use Rattle.epx_types.proofs.Common.{AreThose-exists, Contains-some_or_none, IsLeastOf-or_none}
use Rattle.epx_types.proofs.Common.{both-cases}
use Rattle.epx_types.proofs.Common.{Reaches-cases, DependsOn-cases, Contains-Id_cases}
use Rattle.epx_types.proofs.Common.{IsExecutionOrder-ranked, IsExecutionOrder-exists}
use Rattle.epx_types.proofs.Common.{IsReady-or_waits}
use Rattle.epx_types.specs.declared.id.Id.{Id}
use Rattle.epx_report.specs.ReportLines.{waiting_line}
use Rattle.epx_report.specs.ViewLines.{missing_line}
use Rattle.epx_why.specs.declared.need.Need.{Need}
use Rattle.epx_why.specs.Distances.{IsDistance}
use Rattle.epx_why.specs.FirstPaths.{ComesUpTo, path_ids, IsFirstPath, HasNoPath}
use Rattle.epx_why.specs.Needs.{AreNeeds, AreNeedsOf, AreNeeding}
use Rattle.epx_why.specs.WhyLaws.{WhyTextExists, PathTextExists}
use Rattle.epx_why.specs.WhyLines.{ready_line, need_line, path_line, none_line}
use Rattle.epx_why.specs.WhyTexts.{IsWhyText}
use Rattle.epx_why.proofs.MapStepLemmas.{IsPath-start_committed}
use Rattle.epx_why.proofs.UniqueTextLemmas.{IsDistance-unique}

-- the least number with a decidable property that some number has
module _ (P : ℕ → Type 0) (decide : (k : ℕ) → P k ⊎ (¬ P k)) where
  abbrev IsLeastNumber : ℕ → Type 0
  IsLeastNumber k = P k × ((j : ℕ) → P j → k ≤ j)

  least_below : (n : ℕ) → ((k : ℕ) × IsLeastNumber k) ⊎ ((j : ℕ) → j < n → ¬ P j)
  least_below zero = inr (λ j l p. omega arith)
  least_below (suc n) =
      elim (least_below n) [
        | inl found ↦ inl found
        | inr none ↦ elim (decide n) [
          | inl here ↦ inl (
            n,
            (
              here,
              λ j p. elim (cases_lt j n) [ inl l ↦ absurd (none j l p) | inr more ↦ more ],
            ),
          )
          | inr not_here ↦ inr (λ j l p. elim (cases_lt j n) [
            | inl less ↦ none j less p
            | inr more ↦ let same : j ≡ n = omega arith in not_here (subst P same p)
          ])
        ]
      ]

  least_number : (n : ℕ) → P n → (k : ℕ) × IsLeastNumber k
  least_number n p =
      elim (least_below (suc n)) [ inl found ↦ found | inr none ↦ absurd (none n (omega arith) p) ]

-- ---- paths

module _ (m : List Instance) where
  all_deps : List Id
  all_deps = flat_map (λ e. e.deps) m

  among_deps : (x y : Id) → DependsOn m x y → Contains all_deps y
  unfolding all_deps
  among_deps x y d = Contains-flat_map (λ (e : Instance). e.deps) m d.0 y d.1 d.3

  path_end : (x : Id) (via : List Id) (y : Id) → IsPath m x via y → Contains all_deps y
  path_end x [] y path = among_deps x y path
  path_end x (z ∷ via) y path = path_end z via y path.1

  path_cases : (x y : Id) → ((via : List Id) × IsPath m x via y) ⊎ HasNoPath m x y
  path_cases x y =
      elim (Contains-some_or_none (λ z. DependsOn m x z × Reaches m z y)
      (λ z. both-cases (DependsOn-cases m x z) (Reaches-cases m z y)) all_deps) [
        | inl found ↦ inl (by found.0 found.2.0 found.2.1)
        | inr none ↦ inr (no_path none)
      ]
    where
      by : (z : Id) → DependsOn m x z → Reaches m z y → (via : List Id) × IsPath m x via y
      by z d (inl same) = ([], subst (DependsOn m x) same d)
      by z d (inr path) = (z ∷ path.0, (d, path.1))

      no_path : ((z : Id) → Contains all_deps z → ¬ (DependsOn m x z × Reaches m z y))
          → HasNoPath m x y
      no_path none [] path = none y (among_deps x y path) (path, inl refl)
      no_path none (z ∷ via) path =
          none z (among_deps x z path.0) (path.0, inr (via, path.1))

  module _ (y : Id) where
    -- a path from x to y through so many Ids
    abbrev HasPathOf : ℕ → Id → Type 0
    HasPathOf n x = (via : List Id) × IsPath m x via y × (length via ≡ n)

    -- the first of these paths
    record IsFirstOf (n : ℕ) (x : Id) (via : List Id) : Type 0 where
      path : IsPath m x via y
      long : length via ≡ n
      first : (other : List Id) → IsPath m x other y → length other ≡ n
          → ComesUpTo (via ++ y ∷ []) (other ++ y ∷ [])

    -- one that begins with the least Id, and goes on as the first one
    first_more : (n : ℕ) (x z : Id) (via : List Id) → DependsOn m x z
        → ((o : Id) → DependsOn m x o → HasPathOf n o → UpTo z o) → IsFirstOf n z via
        → IsFirstOf (suc n) x (z ∷ via)
    first_more n x z via d least rest = record {
      path = (d, rest.path);
      long = ap suc rest.long;
      first = first;
    } where
      by : (o : Id) (os : List Id) → IsPath m o os y → length os ≡ n → UpTo z o
          → ComesUpTo (z ∷ via ++ y ∷ []) (o ∷ os ++ y ∷ [])
      by o os path long (inr below) = inl below
      by o os path long (inl same) =
          inr (same, rest.first os (subst (λ (w : Id). IsPath m w os y) (sym same) path) long)

      first : (other : List Id) → IsPath m x other y → length other ≡ suc n
          → ComesUpTo (z ∷ via ++ y ∷ []) (other ++ y ∷ [])
      first [] path long = absurd (omega arith)
      first (o ∷ os) path long =
          let short : length os ≡ n = omega arith in
          by o os path.1 short (least o path.0 (os, path.1, short))

    has_cases : (n : ℕ) (x : Id) → ((via : List Id) × IsFirstOf n x via) ⊎ (¬ HasPathOf n x)
        → HasPathOf n x ⊎ (¬ HasPathOf n x)
    has_cases n x (inl first) = inl (first.0, first.1.path, first.1.long)
    has_cases n x (inr none) = inr none

    first_of : (n : ℕ) (x : Id) → ((via : List Id) × IsFirstOf n x via) ⊎ (¬ HasPathOf n x)
    first_of zero x =
        elim (DependsOn-cases m x y) [
          | inl d ↦ inl ([], record { path = d; long = refl; first = first })
          | inr none ↦ inr (λ h. no_path none h.0 h.1 h.2)
        ]
      where
        first : (other : List Id) → IsPath m x other y → length other ≡ 0
            → ComesUpTo (y ∷ []) (other ++ y ∷ [])
        first [] path long = inr (refl, tt)
        first (o ∷ os) path long = absurd (omega arith)

        no_path : (¬ DependsOn m x y) → (via : List Id) → IsPath m x via y → length via ≡ 0 → ⊥
        no_path none [] path long = none path
        no_path none (z ∷ via) path long = omega arith
    first_of (suc n) x =
        elim (IsLeastOf-or_none (λ z. DependsOn m x z × HasPathOf n z)
        (λ z. both-cases (DependsOn-cases m x z) (has_cases n z (first_of n z))) all_deps) [
          | inl found ↦ elim (first_of n found.0) [
            | inl first ↦ inl (
              found.0 ∷ first.0,
              first_more n x found.0 first.0 found.1.0.0
                  (λ o d has. found.1.1 o (among_deps x o d) (d, has)) first.1,
            )
            | inr none ↦ absurd (none found.1.0.1)
          ]
          | inr none ↦ inr (λ h. no_path none h.0 h.1 h.2)
        ]
      where
        no_path : ((z : Id) → Contains all_deps z → ¬ (DependsOn m x z × HasPathOf n z))
            → (via : List Id) → IsPath m x via y → length via ≡ suc n → ⊥
        no_path none [] path long = omega arith
        no_path none (z ∷ via) path long =
            none z (among_deps x z path.0) (path.0, (via, path.1, omega arith))

    first_path_exists : (x : Id) → ((via : List Id) × IsFirstPath m x via y) ⊎ HasNoPath m x y
    first_path_exists x =
        elim (path_cases x y) [
          | inr none ↦ inr none
          | inl some ↦
              let least = least_number (λ n. HasPathOf n x) (λ n. has_cases n x (first_of n x))
              (length some.0) (some.0, some.1, refl) in
              elim (first_of least.0 x) [
                | inl first ↦ inl (
                  first.0,
                  record {
                    path = first.1.path;
                    shortest = λ other path.
                        let low = least.1.1 (length other) (other, path, refl) in
                        omega (arith, first.1.long);
                    first = λ other path long. inr
                        (refl, first.1.first other path (long ∙ first.1.long));
                  },
                )
                | inr none ↦ absurd (none least.1.0)
              ]
        ]

  -- the distance that a shortest path shows
  shortest_distance : (x y : Id) (via : List Id) → IsFirstPath m x via y
      → (n : ℕ) × IsDistance m x y n
  shortest_distance x y via first = (
    length via + 1,
    record {
      via = via;
      path = first.path;
      long = refl;
      fewest = λ other path. let low = first.shortest other path in omega arith;
    },
  )

  distance_exists : (x y : Id) → ((n : ℕ) × IsDistance m x y n)
      ⊎ ((n : ℕ) → ¬ IsDistance m x y n)
  distance_exists x y =
      elim (first_path_exists y x) [
        | inl first ↦ inl (shortest_distance x y first.0 first.1)
        | inr none ↦ inr (λ n d. none d.via d.path)
      ]

  -- where a path leads is at a distance
  pub IsDistance-exists : (x y : Id) (via : List Id) → IsPath m x via y
      → (n : ℕ) × IsDistance m x y n
  IsDistance-exists x y via path =
      elim (first_path_exists y x) [
        | inl first ↦ shortest_distance x y first.0 first.1
        | inr none ↦ absurd (none via path)
      ]

  -- ---- needs

  module _ (IsNeed : Id → ℕ → Type 0)
      (decide : (y : Id) → ((n : ℕ) × IsNeed y n) ⊎ ((n : ℕ) → ¬ IsNeed y n))
      (one : (y : Id) (n l : ℕ) → IsNeed y n → IsNeed y l → n ≡ l) where
    with_steps : (ids : List Id) → ((y : Id) → Contains ids y → (n : ℕ) × IsNeed y n)
        → (needs : List Need) × (map (λ n. n.id) needs ≡ ids)
        × ((n : Need) → Contains needs n → IsNeed n.id n.steps)
    with_steps [] each = ([], refl, λ n h. absurd (Contains-nil n h))
    with_steps (y ∷ ids) each =
        let here = each y (Contains-head y ids) in
        let first : Need = record { id = y; steps = here.0 } in
        let rest = with_steps ids (λ z h. each z (Contains-cons y ids z h)) in (
          first ∷ rest.0,
          ap (λ zs. y ∷ zs) rest.1,
          λ n h. elim (Contains-cons_cases first rest.0 n h) [
            | inl same ↦ subst (λ (w : Need). IsNeed w.id w.steps) same here.1
            | inr later ↦ rest.2 n later
          ],
        )

    needs_exist : (ids : List Id) → ((y : Id) (n : ℕ) → IsNeed y n → Contains ids y)
        → (needs : List Need) × AreNeeds IsNeed needs
    needs_exist ids within =
        let those =
        AreThose-exists id_cmp-IsTotalOrder id_cmp-IsAntisymmetric (λ y. (n : ℕ) × IsNeed y n)
        (λ y. elim (decide y) [ inl some ↦ inl some | inr none ↦ inr (λ h. none h.0 h.1) ]) ids in
        let needs = with_steps those.0 (λ y h. (those.1.elements_only y h).1) in (
          needs.0,
          record {
            only = needs.2;
            whole = λ y n is.
                let listed = those.1.elements_all y (within y n is) (n, is) in
                whole needs.0 needs.2 y n is
                (subst (λ (zs : List Id). Contains zs y) (sym needs.1) listed);
            rising = subst IsRising (sym needs.1)
                (IsRising-from_AllPairs those.0 those.1.elements_rise);
          },
        )
      where
        whole : (needs : List Need) → ((n : Need) → Contains needs n → IsNeed n.id n.steps)
            → (y : Id) (n : ℕ) → IsNeed y n → Contains (map (λ n. n.id) needs) y
            → Contains needs (record { id = y; steps = n })
        whole needs only y n is h =
            let from = Contains-from_map (λ (w : Need). w.id) needs y h in
            let w = from.0 in
            let steps : w.steps ≡ n = one y w.steps n
            (subst (λ (z : Id). IsNeed z w.steps) from.2 (only w from.1)) is in
            let same : w ≡ record { id = y; steps = n } =
            λ i. record { id = from.2 i; steps = steps i } in
            subst (Contains needs) same from.1

  needs_of_exist : (x : Id) → (needs : List Need) × AreNeedsOf m x needs
  needs_of_exist x =
      needs_exist (λ y steps. (¬ IsCommitted m y) × IsDistance m x y steps) decide
      (λ y n l p q. IsDistance-unique m x y n l p.1 q.1) all_deps
      (λ y n p. path_end x p.1.via y p.1.path)
    where
      decide : (y : Id) → ((n : ℕ) × ((¬ IsCommitted m y) × IsDistance m x y n))
          ⊎ ((n : ℕ) → ¬ ((¬ IsCommitted m y) × IsDistance m x y n))
      decide y =
          elim (Contains-Id_cases (ids_of m) y) [
            | inl there ↦ inr (λ n p. p.0 there)
            | inr missing ↦ elim (distance_exists x y) [
              | inl d ↦ inl (d.0, (missing, d.1))
              | inr none ↦ inr (λ n p. none n p.1)
            ]
          ]

  needing_exist : (y : Id) → (needing : List Need) × AreNeeding m y needing
  needing_exist y =
      needs_exist (λ x steps. IsDistance m x y steps) (λ x. distance_exists x y)
      (λ x n l p q. IsDistance-unique m x y n l p q) (ids_of m)
      (λ x n d. IsPath-start_committed m x d.via y d.path)

-- ---- texts

module _ (m : List Instance) (x : Id) (rising : IsRising (ids_of m)) where
  ready_text : IsReady m x → (text : List ℕ) × IsWhyText m x text
  ready_text ready =
      let order = IsExecutionOrder-exists m rising in
      let r = IsExecutionOrder-ranked m order.0 order.1 x ready in
      let at = slice_get-from_Contains order.0 r.0 r.1 in (
        ready_line at.0 r.0,
        inl (record {
          order = order.0;
          executed = order.1;
          position = at.0;
          ranked = r.0;
          there = at.1;
          named = r.2;
          printed = refl;
        }),
      )

  waiting_text : (y : Id) → WaitsFor m x y → (text : List ℕ) × IsWhyText m x text
  waiting_text y waits =
      let needs = needs_of_exist m x in (
        waiting_line (record { id = x; missing = y })
            ++ flat_map (need_line (codes "needs")) needs.0,
        inr (inl (record {
          missing = y;
          needs = needs.0;
          waits = waits;
          needed = needs.1;
          printed = refl;
        })),
      )

  missing_text : (¬ IsCommitted m x) → (text : List ℕ) × IsWhyText m x text
  missing_text missing =
      let needing = needing_exist m x in (
        missing_line x ++ flat_map (need_line (codes "needed")) needing.0,
        inr (inr (record {
          needing = needing.0;
          missing = missing;
          reaching = needing.1;
          printed = refl;
        })),
      )

pub WhyTextExists-holds : WhyTextExists
WhyTextExists-holds m x rising =
    elim (Contains-Id_cases (ids_of m) x) [
      | inl committed ↦ elim (IsReady-or_waits m x committed) [
        | inl ready ↦ ready_text m x rising ready
        | inr waits ↦ waiting_text m x rising waits.0 waits.1
      ]
      | inr missing ↦ missing_text m x rising missing
    ]

pub PathTextExists-holds : PathTextExists
PathTextExists-holds m x y =
    elim (first_path_exists m y x) [
      | inl found ↦ (
        path_line (path_ids x found.0 y),
        inl (record { via = found.0; first = found.1; printed = refl }),
      )
      | inr none ↦ (none_line, inr (none, refl))
    ]
