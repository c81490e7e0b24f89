-- Sources that are made for paths, one after another.
use Rattle.std.proofs.Common.{◌≡◌, ◌<◌, ◌+◌, ◌++◌, ◌∷◌, [], ℕ, List, length, map, take, Option}
use Rattle.std.proofs.Common.{Some, codes, get_or, sym, refl, subst, inl, inr}
use Rattle.epx_types.proofs.Common.{map-append, take_more}
use Rattle.epx_devices.specs.declared.either_source.EitherSource.TheVariants.{First, Second}
use Rattle.epx_program.specs.SourcesAt.{AreSourcesAt, IsSourceAt, SourceAt}

module _ {O F I : Type 0} (opener : O) where
  one_more : (input next left : Option I) (paths : List (List ℕ)) (path : List ℕ)
      (sources : List (SourceAt O F I)) (source : SourceAt O F I)
      → AreSourcesAt opener input next paths sources → IsSourceAt opener path next left source
      → AreSourcesAt opener input left (paths ++ path ∷ []) (sources ++ source ∷ [])
  one_more input next left [] path [] source are is =
      (left, subst (λ i. IsSourceAt opener path i left source) are.1 is, (refl, refl))
  one_more input next left [] path (s ∷ sources) source are is = absurd (cc are.0)
  one_more input next left (p ∷ paths) path [] source are is = absurd are
  one_more input next left (p ∷ paths) path (s ∷ sources) source are is =
      (are.0, are.1, one_more are.0 next left paths path sources source are.2 is)

  -- the source at the next path is one more of the sources at the paths
  pub sources-push : {T : Type 0} (bytes : T → List ℕ) (input next left : Option I)
      (names : List T) (i : ℕ) (name : T) (sources : List (SourceAt O F I))
      (source : SourceAt O F I) → i < length names → name ≡ get_or names i name
      → AreSourcesAt opener input next (map bytes (take i names)) sources
      → IsSourceAt opener (bytes name) next left source
      → AreSourcesAt opener input left (map bytes (take (i + 1) names)) (sources ++ source ∷ [])
  sources-push bytes input next left names i name sources source bound at are is =
      rw (
        take_more names i name bound,
        sym at,
        map-append bytes (take i names) (name ∷ []),
      ) (one_more input next left (map bytes (take i names)) (bytes name) sources source are is)

  only_one : (input : I) (left : Option I) (sources : List (SourceAt O F I))
      → AreSourcesAt opener (Some input) left (codes "-" ∷ []) sources
      → sources ≡ Second (First input) ∷ []
  only_one input left [] are = absurd are
  only_one input left (source ∷ rest) are = elim are.1 [
    | inl file ↦ absurd (file.0 refl)
    | inr hyphen ↦ rw (hyphen.1, are.2.0) refl
  ]

  -- if the only path is a hyphen, the only source is the input
  pub AreSourcesAt-only_input : (input : I) (left : Option I) (paths : List (List ℕ))
      (sources : List (SourceAt O F I)) → paths ≡ codes "-" ∷ []
      → AreSourcesAt opener (Some input) left paths sources
      → sources ≡ Second (First input) ∷ []
  AreSourcesAt-only_input input left paths sources alone are =
      only_one input left sources
      (subst (λ ps. AreSourcesAt opener (Some input) left ps sources) alone are)
