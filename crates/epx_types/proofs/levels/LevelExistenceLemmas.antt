-- Every list of commands has levels.
use Rattle.std.proofs.Common.{◌≡◌, ◌⊎◌, ◌<◌, ℕ, zero, suc, List, [], ◌∷◌, length, map}
use Rattle.std.proofs.Common.{slice_index_or, Contains, refl, sym, subst, inl, inr, arith}
use Rattle.std.proofs.lemmas.Bool.{cases_lt}
use Rattle.std.proofs.lemmas.List.FromFn.{length-map-range_with_len, get_or-map-range_with_len}
use Rattle.epx_types.specs.declared.op.Op.{Op}
use Rattle.epx_types.specs.CommandKeys.{touched_keys, written_keys}
use Rattle.epx_types.specs.Conflicts.{Conflict}
use Rattle.epx_types.specs.Levels.{ConflictAt, Climbs, IsLevel, AreLevels}
use Rattle.epx_types.proofs.keys.KeyListLemmas.{key_cmp-cases}
use Rattle.epx_types.proofs.lists.SearchLemmas.{Contains-some_or_none, Contains-cases}
use Rattle.epx_types.proofs.lists.SearchLemmas.{greatest-exists}
use Rattle.epx_types.proofs.levels.LevelLemmas.{Climbs-length}
use Rattle.epx_types.proofs.graph.ReachingDecisionLemmas.{both-cases}
use Rattle.epx_types.proofs.commands.RearrangementLemmas.{list_positions, Contains-list_positions}

-- ---- conflict is decidable

Contains-key_cases : (ks : List (List ℕ)) (k : List ℕ) → Contains ks k ⊎ (¬ Contains ks k)
Contains-key_cases = Contains-cases
    (λ q k. elim (key_cmp-cases q k) [ inl same ↦ inl same.1 | inr other ↦ inr other.1 ])

-- some key is in both lists
shared_cases : (ks qs : List (List ℕ)) → ((k : List ℕ) × Contains ks k × Contains qs k)
    ⊎ ((k : List ℕ) → Contains ks k → ¬ Contains qs k)
shared_cases ks qs = Contains-some_or_none (Contains qs) (Contains-key_cases qs) ks

pub Conflict-cases : (a b : List Op) → Conflict a b ⊎ (¬ Conflict a b)
Conflict-cases a b =
    elim (shared_cases (written_keys a) (touched_keys b)) [
      | inl found ↦ inl (found.0, inl (found.1, found.2))
      | inr none ↦ elim (shared_cases (touched_keys a) (written_keys b)) [
        | inl found ↦ inl (found.0, inr (found.1, found.2))
        | inr none' ↦ inr
            (λ h. elim h.1 [
              | inl first ↦ none h.0 first.0 first.1
              | inr second ↦ none' h.0 second.0 second.1
            ])
      ]
    ]

module _ (commands : List (List Op)) where
  -- a climb of k steps to position j
  abbrev HasClimb : ℕ → ℕ → Type 0
  HasClimb j k = (is : List ℕ) × Climbs commands j is × (length is ≡ k)

  -- an earlier position that conflicts and has a climb of k steps
  abbrev ClimbsVia : ℕ → ℕ → ℕ → Type 0
  ClimbsVia j k i = ((i < j) × ConflictAt commands i j) × HasClimb i k

  below_cases : (i j : ℕ) → (i < j) ⊎ (¬ (i < j))
  below_cases i j = elim (cases_lt i j) [
    | inl less ↦ inl less
    | inr more ↦ inr (λ less. omega (arith, more, less))
  ]

  HasClimb-cases : (k j : ℕ) → HasClimb j k ⊎ (¬ HasClimb j k)
  HasClimb-cases zero j = inl ([], tt, refl)
  HasClimb-cases (suc k) j =
      elim (Contains-some_or_none (ClimbsVia j k)
      (λ i. both-cases
      (both-cases (below_cases i j)
      (Conflict-cases (slice_index_or commands i []) (slice_index_or commands j [])))
      (HasClimb-cases k i)) (list_positions j)) [
        | inl found ↦ inl (
          found.0 ∷ found.2.1.0,
          (found.2.0.0, found.2.0.1, found.2.1.1),
          omega (arith, found.2.1.2),
        )
        | inr none ↦ inr (λ h. no_longer none h.0 h.1 h.2)
      ]
    where
      no_longer : ((i : ℕ) → Contains (list_positions j) i → ¬ ClimbsVia j k i) → (is : List ℕ)
          → Climbs commands j is → length is ≡ suc k → ⊥
      no_longer none [] climbs e = absurd (omega (arith, e))
      no_longer none (i ∷ is) climbs e = none i (Contains-list_positions j i climbs.0)
          ((climbs.0, climbs.1), (is, climbs.2, omega (arith, e)))

  pub IsLevel-exists : (j : ℕ) → (level : ℕ) × IsLevel commands j level
  IsLevel-exists j =
      let found = greatest-exists (HasClimb j) (λ k. HasClimb-cases k j) ([], tt, refl) j in (
        found.0,
        record {
          chain = found.1;
          longest = λ is climbs. found.2 (length is)
              (Climbs-length commands (λ i. i) (λ i j less conflict. less) j is climbs)
              (is, climbs, refl);
        },
      )

  pub AreLevels-exists : (levels : List ℕ) × AreLevels commands levels
  AreLevels-exists =
      let level = λ (j : ℕ). (IsLevel-exists j).0 in (
        map level (list_positions (length commands)),
        record {
          whole = length-map-range_with_len level 0 (length commands);
          each = λ j low.
              subst (IsLevel commands j)
              (sym (get_or-map-range_with_len level 0 (length commands) j j 0
              (omega (arith, low, length-map-range_with_len level 0 (length commands)))
              (omega arith))) (IsLevel-exists j).1;
        },
      )
