-- Positions in the remaining map.
use Rattle.std.proofs.Common.{◌≡◌, ◌++◌, ℕ, zero, suc, ◌+◌, List, [], ◌∷◌, length, take, filter}
use Rattle.std.proofs.Common.{map, get_or, slice_get, Some, Contains, ap, ◌∙◌, inl, inr, cond, not}
use Rattle.std.proofs.lemmas.List.{map-append, append-nil}
use Rattle.std.proofs.lemmas.List.Elements.{filter_more}
use Rattle.std.proofs.lemmas.Option.{slice_get_within, get_or_from_slice_get}
use Rattle.epx_types.specs.declared.id.Id.{Id}
use Rattle.epx_types.specs.Instances.{Instance}
use Rattle.epx_types.specs.Done.{is_among, without_deps, remaining}
use Rattle.epx_types.proofs.remaining.RemainingLemmas.{is_among-cases, is_among-false}
use Rattle.epx_types.proofs.lists.MembershipLemmas.{Contains-filter, Contains-map}

module _ (done : List Id) where
  -- ---- one more instance

  more : (m : List Instance) (i : ℕ) (e : Instance) → slice_get m i ≡ Some e
      → remaining done (take (i + 1) m) ≡ remaining done (take i m)
      ++ map (without_deps done) (cond (not (is_among done e.id)) (e ∷ []) [])
  more m i e at =
      let p = λ (d : Instance). not (is_among done d.id) in
      let same : get_or m i e ≡ e = get_or_from_slice_get m i e e at in
      ap (map (without_deps done)) (filter_more p m i e (slice_get_within m i e at)
      ∙ ap (λ (d : Instance). filter p (take i m) ++ cond (p d) (d ∷ []) []) same)
      ∙ map-append (without_deps done) (filter p (take i m)) (cond (p e) (e ∷ []) [])

  pub remaining-skip : (m : List Instance) (i : ℕ) (e : Instance) → slice_get m i ≡ Some e
      → Contains done e.id → remaining done (take (i + 1) m) ≡ remaining done (take i m)
  remaining-skip m i e at among =
      elim (is_among-cases done e.id) [
        | inl found ↦ more m i e at
            ∙ ap (λ b. remaining done (take i m) ++ map (without_deps done)
            (cond (not b) (e ∷ []) [])) found.0 ∙ append-nil (remaining done (take i m))
        | inr other ↦ absurd (other.1 among)
      ]

  pub remaining-more : (m : List Instance) (i : ℕ) (e : Instance) → slice_get m i ≡ Some e
      → ¬ Contains done e.id → remaining done (take (i + 1) m)
      ≡ remaining done (take i m) ++ without_deps done e ∷ []
  remaining-more m i e at left = more m i e at
      ∙ ap (λ b. remaining done (take i m) ++ map (without_deps done) (cond (not b) (e ∷ []) []))
      (is_among-false done e.id left)

  -- the position of a remaining instance is the number of remaining ones before it
  pub remaining-position : (m : List Instance) (i : ℕ) (e : Instance) → slice_get m i ≡ Some e
      → ¬ Contains done e.id → slice_get (remaining done m) (length (remaining done (take i m)))
      ≡ Some (without_deps done e)
  remaining-position [] i e at left = absurd (cc at)
  remaining-position (d ∷ m) zero e at left =
      let same : d ≡ e = cc at in
      let here : is_among done d.id ≡ is_among done e.id =
      ap (λ (x : Instance). is_among done x.id) same in
      rw (here ∙ is_among-false done e.id left)
      (ap (λ (x : Instance). Some (without_deps done x)) same)
  remaining-position (d ∷ m) (suc i) e at left =
      let rest = remaining-position m i e at left in
      elim (is_among-cases done d.id) [
        | inl found ↦ rw found.0 rest
        | inr other ↦ rw other.0 rest
      ]

  pub Contains-left : (m : List Instance) (e : Instance) → Contains m e → ¬ Contains done e.id
      → Contains (remaining done m) (without_deps done e)
  Contains-left m e in_m left =
      let p = λ (d : Instance). not (is_among done d.id) in
      Contains-map (without_deps done) (filter p m) e
      (Contains-filter p m e in_m (ap not (is_among-false done e.id left)))
