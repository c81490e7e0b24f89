-- The least distance and the next node of the targets of a node, target by target.
use Rattle.std.proofs.Common.{◌≡◌, ◌⊎◌, inl, inr, ℕ, ◌+◌, ◌<◌, min, List, [], ◌∷◌, ◌++◌, take}
use Rattle.std.proofs.Common.{length, get_or, Contains, Option, Some, None, MatchOption, sym, ap}
use Rattle.std.proofs.Common.{subst, ◌∙◌, arith}
use Rattle.epx_types.proofs.Common.{cases_lt, take_more, Contains-append_left, Contains-push}
use Rattle.epx_types.proofs.Common.{Contains-push_cases, Below, UpTo, id_cmp-IsTotalOrder}
use Rattle.epx_types.proofs.Common.{id_cmp-IsAntisymmetric, is_lt-cases, is_lt-trans}
use Rattle.epx_graph.proofs.Common.{DependencyGraph, distance_at}
use Rattle.epx_why.specs.inner.NodeWalks.{id_at, AreFewest, AreNext}

module _ (distances : List (Option ℕ)) (targets : List ℕ) (x : ℕ) where
  -- a target without a distance
  fewest_skip : (fewest : Option ℕ) → distance_at distances x ≡ None
      → AreFewest distances targets fewest → AreFewest distances (targets ++ x ∷ []) fewest
  fewest_skip None none are = λ c n h at. elim (Contains-push_cases targets x c h) [
    | inl among ↦ are c n among at
    | inr last ↦
        let has : distance_at distances x ≡ Some n = ap (distance_at distances) last ∙ at in
        absurd (cc (has, none))
  ]
  fewest_skip (Some n) none are = record {
    some = (are.some.0, Contains-append_left targets (x ∷ []) are.some.0 are.some.1, are.some.2);
    fewest = λ c l h at. elim (Contains-push_cases targets x c h) [
      | inl among ↦ are.fewest c l among at
      | inr last ↦
          let has : distance_at distances x ≡ Some l = ap (distance_at distances) last ∙ at in
          absurd (cc (has, none))
    ];
  }

  -- a target with a distance
  fewest_more : (n : ℕ) (fewest : Option ℕ) (now : ℕ) → distance_at distances x ≡ Some n
      → MatchOption fewest (now ≡ n) (λ least. now ≡ min least n)
      → AreFewest distances targets fewest → AreFewest distances (targets ++ x ∷ []) (Some now)
  fewest_more n None now at is are = record {
    some = (x, Contains-push targets x, at ∙ ap Some (sym is));
    fewest = λ c l h has. elim (Contains-push_cases targets x c h) [
      | inl among ↦ absurd (are c l among has)
      | inr last ↦
          let one : Some n ≡ Some l = sym at ∙ ap (distance_at distances) last ∙ has in
          let same : n ≡ l = cc one in
          omega arith
    ];
  }
  fewest_more n (Some least) now at is are = record {
    some = some;
    fewest = λ c l h has. elim (Contains-push_cases targets x c h) [
      | inl among ↦ let low = are.fewest c l among has in omega arith
      | inr last ↦
          let one : Some n ≡ Some l = sym at ∙ ap (distance_at distances) last ∙ has in
          let same : n ≡ l = cc one in
          omega arith
    ];
  } where
    some : (c : ℕ) × Contains (targets ++ x ∷ []) c × (distance_at distances c ≡ Some now)
    some =
        elim (cases_lt n least) [
          | inl lower ↦
              let same : n ≡ now = omega arith in
              (x, Contains-push targets x, at ∙ ap Some same)
          | inr not_lower ↦
              let same : least ≡ now = omega arith in (
                are.some.0,
                Contains-append_left targets (x ∷ []) are.some.0 are.some.1,
                are.some.2 ∙ ap Some same,
              )
        ]

  module _ (g : DependencyGraph) (n : ℕ) where
    -- a target with another distance
    next_other : (next : Option ℕ) → ¬ (distance_at distances x ≡ Some n)
        → AreNext g distances targets n next → AreNext g distances (targets ++ x ∷ []) n next
    next_other None other are = λ c h at. elim (Contains-push_cases targets x c h) [
      | inl among ↦ are c among at
      | inr last ↦ other (ap (distance_at distances) last ∙ at)
    ]
    next_other (Some best) other are = record {
      edge = Contains-append_left targets (x ∷ []) best are.edge;
      distance = are.distance;
      least = λ o h at. elim (Contains-push_cases targets x o h) [
        | inl among ↦ are.least o among at
        | inr last ↦ absurd (other (ap (distance_at distances) last ∙ at))
      ];
    }

    -- one with a higher Id
    next_later : (next : Option ℕ)
        → ¬ (MatchOption next (Unit {0}) (λ best. Below (id_at g x) (id_at g best)))
        → AreNext g distances targets n next → AreNext g distances (targets ++ x ∷ []) n next
    next_later None later are = absurd (later tt)
    next_later (Some best) later are = record {
      edge = Contains-append_left targets (x ∷ []) best are.edge;
      distance = are.distance;
      least = λ o h at. elim (Contains-push_cases targets x o h) [
        | inl among ↦ are.least o among at
        | inr last ↦ subst (λ (c : ℕ). UpTo (id_at g best) (id_at g c)) last up_to
      ];
    } where
      up_to : UpTo (id_at g best) (id_at g x)
      up_to =
          elim (is_lt-cases id_cmp-IsTotalOrder id_cmp-IsAntisymmetric (id_at g best) (id_at g x)) [
            | inl l ↦ inr l
            | inr (inl e) ↦ inl e
            | inr (inr l) ↦ absurd (later l)
          ]

    -- one with a lower Id
    next_first : (next : Option ℕ) → distance_at distances x ≡ Some n
        → MatchOption next (Unit {0}) (λ best. Below (id_at g x) (id_at g best))
        → AreNext g distances targets n next
        → AreNext g distances (targets ++ x ∷ []) n (Some x)
    next_first next at before are = record {
      edge = Contains-push targets x;
      distance = at;
      least = λ o h has. elim (Contains-push_cases targets x o h) [
        | inl among ↦ least next before are o among has
        | inr last ↦ inl (ap (id_at g) last)
      ];
    } where
      least : (next : Option ℕ)
          → MatchOption next (Unit {0}) (λ best. Below (id_at g x) (id_at g best))
          → AreNext g distances targets n next → (o : ℕ) → Contains targets o
          → distance_at distances o ≡ Some n → UpTo (id_at g x) (id_at g o)
      least None before are o among has = absurd (are o among has)
      least (Some best) before are o among has =
          elim (are.least o among has) [
            | inl same ↦ inr (subst (Below (id_at g x)) same before)
            | inr l ↦ inr
                (is_lt-trans id_cmp-IsTotalOrder (id_at g x) (id_at g best) (id_at g o) before l)
          ]

-- ---- one more of the targets

module _ (distances : List (Option ℕ)) (targets : List ℕ) (i : ℕ) (l : i < length targets) where
  next_take : take i targets ++ get_or targets i 0 ∷ [] ≡ take (i + 1) targets
  next_take = sym (take_more targets i 0 l)

  pub AreFewest-without : (fewest : Option ℕ) → distance_at distances (get_or targets i 0) ≡ None
      → AreFewest distances (take i targets) fewest
      → AreFewest distances (take (i + 1) targets) fewest
  AreFewest-without fewest none are =
      subst (λ (xs : List ℕ). AreFewest distances xs fewest) next_take
      (fewest_skip distances (take i targets) (get_or targets i 0) fewest none are)

  pub AreFewest-with : (n : ℕ) (fewest : Option ℕ) (now : ℕ)
      → distance_at distances (get_or targets i 0) ≡ Some n
      → MatchOption fewest (now ≡ n) (λ least. now ≡ min least n)
      → AreFewest distances (take i targets) fewest
      → AreFewest distances (take (i + 1) targets) (Some now)
  AreFewest-with n fewest now at is are =
      subst (λ (xs : List ℕ). AreFewest distances xs (Some now)) next_take
      (fewest_more distances (take i targets) (get_or targets i 0) n fewest now at is are)

  module _ (g : DependencyGraph) (n : ℕ) (next : Option ℕ)
      (are : AreNext g distances (take i targets) n next) where
    pub AreNext-without : (¬ (distance_at distances (get_or targets i 0) ≡ Some n))
        ⊎ (¬ (MatchOption next (Unit {0})
        (λ best. Below (id_at g (get_or targets i 0)) (id_at g best))))
        → AreNext g distances (take (i + 1) targets) n next
    AreNext-without (inl other) =
        subst (λ (xs : List ℕ). AreNext g distances xs n next) next_take
        (next_other distances (take i targets) (get_or targets i 0) g n next other are)
    AreNext-without (inr later) =
        subst (λ (xs : List ℕ). AreNext g distances xs n next) next_take
        (next_later distances (take i targets) (get_or targets i 0) g n next later are)

    pub AreNext-with : distance_at distances (get_or targets i 0) ≡ Some n
        → MatchOption next (Unit {0})
        (λ best. Below (id_at g (get_or targets i 0)) (id_at g best))
        → AreNext g distances (take (i + 1) targets) n (Some (get_or targets i 0))
    AreNext-with at before =
        subst (λ (xs : List ℕ). AreNext g distances xs n (Some (get_or targets i 0))) next_take
        (next_first distances (take i targets) (get_or targets i 0) g n next at before are)
