-- The instances of the remaining map have the same commands as in the whole map.
use Rattle.std.proofs.Common.{◌≡◌, ◌≤◌, List, [], ◌∷◌, length, Contains, refl, ap₂, subst, inl}
use Rattle.std.proofs.Common.{inr, arith}
use Rattle.std.specs.Ordering.{is_eq}
use Rattle.std.specs.Cmp.{Equal-is}
use Rattle.std.proofs.lemmas.Bool.{cases_Bool}
use Rattle.epx_types.specs.declared.id.Id.{Id}
use Rattle.epx_types.specs.Ids.{id_cmp}
use Rattle.epx_types.specs.Instances.{Instance}
use Rattle.epx_types.specs.CommittedMap.{instance_of, ops_or_empty, commands_in}
use Rattle.epx_types.specs.Done.{remaining}
use Rattle.epx_types.proofs.lists.ComparisonLemmas.{id_cmp-IsAntisymmetric}
use Rattle.epx_types.proofs.remaining.RemainingLemmas.{is_among-cases}
use Rattle.epx_types.proofs.lists.MembershipLemmas.{Contains-head, Contains-cons}

module _ (done : List Id) where
  -- the remaining map is not longer than the whole
  pub length-remaining : (m : List Instance) → length (remaining done m) ≤ length m
  length-remaining [] = omega arith
  length-remaining (e ∷ m) =
      elim (is_among-cases done e.id) [
        | inl among ↦ rw among.0 (omega (arith, length-remaining m))
        | inr other ↦ rw other.0 (omega (arith, length-remaining m))
      ]

  ops_or_empty-left : (m : List Instance) (x : Id) → ¬ Contains done x
      → ops_or_empty (instance_of (remaining done m) x) ≡ ops_or_empty (instance_of m x)
  ops_or_empty-left [] x left = refl
  ops_or_empty-left (e ∷ m) x left =
      elim (cases_Bool (is_eq (id_cmp e.id x))) [
        | inl found ↦
            let same = id_cmp-IsAntisymmetric e.id x ((Equal-is (id_cmp e.id x)).0 found) in
            elim (is_among-cases done e.id) [
              | inl among ↦ absurd (left (subst (Contains done) same among.1))
              | inr other ↦ rw other.0 (rw found refl)
            ]
        | inr missed ↦ elim (is_among-cases done e.id) [
          | inl among ↦ rw among.0 (rw missed (ops_or_empty-left m x left))
          | inr other ↦ rw other.0 (rw missed (ops_or_empty-left m x left))
        ]
      ]

  pub commands-left : (m : List Instance) (ids : List Id)
      → ((x : Id) → Contains ids x → ¬ Contains done x)
      → commands_in (remaining done m) ids ≡ commands_in m ids
  commands-left m [] left = refl
  commands-left m (x ∷ ids) left =
      ap₂ (λ o os. o ∷ os) (ops_or_empty-left m x (left x (Contains-head x ids)))
      (commands-left m ids (λ y h. left y (Contains-cons x ids y h)))
