-- All logs have a comparison: the Ids that it prints exist.
use Rattle.std.proofs.Common.{◌⊎◌, inl, inr, ℕ, List, Contains, length, flat_map, refl}
use Rattle.epx_types.proofs.Common.{IsEquivalence, list_any, cases_Bool, Contains-from_any}
use Rattle.epx_types.proofs.Common.{list_any-from_Contains, Placed, id_cmp-IsTotalOrder}
use Rattle.epx_types.proofs.Common.{id_cmp-IsAntisymmetric, Contains-flat_map}
use Rattle.epx_types.proofs.Common.{Contains-from_flat_map, IsRising-from_AllPairs, AreThose-exists}
use Rattle.epx_types.specs.declared.id.Id.{Id}
use Rattle.std.specs.Cmp.{decided}
use Rattle.epx_merge.specs.LogLines.{placed_of, bad_lines_of}
use Rattle.epx_compare.specs.Comparisons.{IsComparison, comparison_text}
use Rattle.epx_versions.specs.SameInstances.{same_id}
use Rattle.epx_compare.specs.MissingDeps.{AreMissingDeps}
use Rattle.epx_versions.specs.inner.EqualVersions.{same_id-decides}
use Rattle.epx_committed.proofs.InstanceCountLemmas.{AreNamedBy-exists}

same_id_equiv : IsEquivalence same_id
same_id_equiv = decided same_id same_id-decides

lacks_or_has : (ids : List Id) (x : Id) → (¬ Contains ids x) ⊎ (¬ (¬ Contains ids x))
lacks_or_has ids x = elim (cases_Bool (list_any (same_id x) ids)) [
  | inl found ↦ inr (λ lacks.
      lacks (Contains-from_any (λ y z. (same_id-decides y z).0) x ids found))
  | inr none ↦ inl (λ h. let found = list_any-from_Contains same_id_equiv x ids h in
      absurd (cc (found, none)))
]

missing_exist : (lines : List Placed) (ids : List Id)
    → (missing : List Id) × AreMissingDeps lines ids missing
missing_exist lines ids =
    let deps : Placed → List Id = λ p. p.instance.deps in
    let found = AreThose-exists id_cmp-IsTotalOrder id_cmp-IsAntisymmetric (λ x. ¬ Contains ids x)
    (lacks_or_has ids) (flat_map deps lines) in (
      found.0,
      record {
        rising = IsRising-from_AllPairs found.0 found.1.elements_rise;
        each = λ x. (
          λ h. let was = found.1.elements_only x h in
              (Contains-from_flat_map deps lines x was.0, was.1),
          λ h. found.1.elements_all x (Contains-flat_map deps lines h.0.0 x h.0.1 h.0.2) h.1,
        );
      },
    )

pub IsComparison-exists : (logs : List (List ℕ)) → (text : List ℕ) × IsComparison logs text
IsComparison-exists logs =
    let lines = placed_of logs in
    let bad = bad_lines_of logs in
    let ids = AreNamedBy-exists lines in
    let missing = missing_exist lines ids.0 in (
      comparison_text (length logs) lines bad ids.0 missing.0,
      record {
        ids = ids.0;
        missing = missing.0;
        named = ids.1;
        open_ends = missing.1;
        printed = refl;
      },
    )
