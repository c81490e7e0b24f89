-- What is noted for one Id when another one is noted or forgotten, and the loop that forgets.
use Rattle.std.proofs.Common.{◌≡◌, ◌≢◌, inl, inr, ◌∙◌, ℕ, ◌+◌, ◌<◌, ◌≤◌, List, [], ◌∷◌, ◌++◌}
use Rattle.std.proofs.Common.{length, take, get_or, Contains, None, Option, sym, ap, refl, subst}
use Rattle.std.specs.BTreeMap.{Updates}
use Rattle.std.proofs.lemmas.Map.Views.{tells_apart}
use Rattle.epx_types.proofs.Common.{BTreeMap, Contains-append_cases, Contains-append_left}
use Rattle.epx_types.proofs.Common.{Contains-append_right, Contains-cons_cases, Contains-head}
use Rattle.epx_types.proofs.Common.{Contains-nil, Id-cases, cases_Bool, take_more, id_cmp}
use Rattle.epx_types.proofs.Common.{id_cmp-IsAntisymmetric, is_at, take_all}
use Rattle.epx_types.specs.declared.id.Id.{Id}
use Rattle.epx_types.specs.declared.place.Place.{Place}
use Rattle.epx_follow.specs.inner.FirstPlaces.{place_in}

-- an update leaves the places of other Ids
pub place_in-other : (before after : BTreeMap Id Place) (id : Id) (w : Option Place)
    → Updates id_cmp before after id w → (x : Id) → ¬ (x ≡ id)
    → place_in after x ≡ place_in before x
place_in-other before after id w u x apart = u.2 x (elim (cases_Bool (is_at (id_cmp id) x)) [
  | inl here ↦ absurd (apart (sym (tells_apart id_cmp-IsAntisymmetric id x here)))
  | inr other ↦ other
])

-- the places of these Ids are forgotten, and no others
abbrev pub AreForgotten : (Id → Option Place) → List Id → (Id → Option Place) → Type 0
AreForgotten before ids after = ((x : Id) → Contains ids x → after x ≡ None)
    × ((x : Id) → ¬ Contains ids x → after x ≡ before x)

pub AreForgotten-none : (before : Id → Option Place) → AreForgotten before (take 0 []) before
AreForgotten-none before = (λ x h. absurd (Contains-nil x h), λ x h. refl)

-- one more Id
forgotten_with : (before now after : Id → Option Place) (ids : List Id) (id : Id)
    → AreForgotten before ids now → after id ≡ None
    → ((x : Id) → x ≢ id → after x ≡ now x) → AreForgotten before (ids ++ id ∷ []) after
forgotten_with before now after ids id so_far gone apart = (
  λ x h. elim (Id-cases x id) [
    | inl here ↦ ap after here ∙ gone
    | inr other ↦ elim (Contains-append_cases ids (id ∷ []) x h) [
      | inl earlier ↦ apart x other ∙ so_far.0 x earlier
      | inr last ↦ elim (Contains-cons_cases id [] x last)
          [ inl here ↦ absurd (other (sym here)) | inr none ↦ absurd (Contains-nil x none) ]
    ]
  ],
  λ x h. apart x (λ here. h (Contains-append_right ids (id ∷ []) x
      (subst (Contains (id ∷ [])) (sym here) (Contains-head id []))))
      ∙ so_far.1 x (λ earlier. h (Contains-append_left ids (id ∷ []) x earlier)),
)

pub AreForgotten-step : (before now after : Id → Option Place) (ids : List Id) (k : ℕ) (d : Id)
    → k < length ids → AreForgotten before (take k ids) now → after (get_or ids k d) ≡ None
    → ((x : Id) → x ≢ get_or ids k d → after x ≡ now x)
    → AreForgotten before (take (k + 1) ids) after
AreForgotten-step before now after ids k d l so_far gone apart =
    subst (λ (xs : List Id). AreForgotten before xs after) (sym (take_more ids k d l))
    (forgotten_with before now after (take k ids) (get_or ids k d) so_far gone apart)

pub AreForgotten-all : (before after : Id → Option Place) (ids : List Id) (k : ℕ) → length ids ≤ k
    → AreForgotten before (take k ids) after → AreForgotten before ids after
AreForgotten-all before after ids k l so_far =
    subst (λ (xs : List Id). AreForgotten before xs after) (take_all k ids l) so_far
