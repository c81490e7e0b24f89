-- An instance comes before another that it does not reach, in some lawful order. So in a map that
-- is not covered, two instances that conflict may come in either order.
use Rattle.std.proofs.Common.{◌≡◌, ◌≢◌, ◌⊎◌, Bool, true, false, not, List, ◌++◌, filter, Contains}
use Rattle.std.proofs.Common.{refl, inl, inr}
use Rattle.epx_types.proofs.Common.{AllPairs-filter, IsRising, Instance, ids_of, is_among}
use Rattle.epx_types.proofs.Common.{remaining_ids, IsCovered, Before, IsLawful, IsLawfulFor}
use Rattle.epx_types.proofs.Common.{Reaches, IsReady, Reaches-cases, IsReady-reached, Reaches-refl}
use Rattle.epx_types.proofs.Common.{Reaches-trans, Before-across, Before-filter, Contains-filter}
use Rattle.epx_types.proofs.Common.{Contains-from_filter, passes-from_filter}
use Rattle.epx_types.proofs.Common.{IsLawful-part_and_rest, is_among-passes_rest, Before-not_both}
use Rattle.epx_types.specs.declared.id.Id.{Id}
use Rattle.epx_laws.specs.OrderLaws.{ConflictsAreOrdered}
use Rattle.epx_laws.proofs.PrefixLemmas.{IsLawful-exists}

-- a test of a property that is decided
decided : {A : Type 0} → A ⊎ (¬ A) → (b : Bool) × (b ≡ true → A) × (A → b ≡ true)
decided (inl a) = (true, λ e. a, λ h. refl)
decided (inr none) = (false, λ e. absurd (cc e), λ h. absurd (none h))

module _ (m : List Instance) (x : Id) where
  -- the test whether x reaches an Id
  reached : Id → Bool
  reached y = (decided (Reaches-cases m x y)).0

  reached_means : (y : Id) → reached y ≡ true → Reaches m x y
  unfolding reached
  reached_means y = (decided (Reaches-cases m x y)).1

  reached_so : (y : Id) → Reaches m x y → reached y ≡ true
  unfolding reached
  reached_so y = (decided (Reaches-cases m x y)).2

  module _ (ready : IsReady m x) (whole : List Id) (lawful : IsLawful m whole) where
    -- what x reaches, in the order of the list
    part : List Id
    part = filter reached whole

    in_part : (y : Id) → Contains part y → Contains whole y × Reaches m x y
    unfolding part
    in_part y h = (
      Contains-from_filter reached whole y h,
      reached_means y (passes-from_filter reached whole y h),
    )

    to_part : (y : Id) → Reaches m x y → Contains part y
    unfolding part
    to_part y there = Contains-filter reached whole y
        (lawful.whole y (IsReady-reached m x y there ready)) (reached_so y there)

    part_lawful : IsLawfulFor m (Reaches m x) part
    unfolding part
    part_lawful = record {
      once = AllPairs-filter (λ v w. v ≢ w) reached whole lawful.once;
      only = λ y h. (in_part y h).1;
      whole = to_part;
      after_reached = λ v w h there not_back.
          let k = in_part v h in
          Before-filter reached whole w v (lawful.after_reached v w k.0 there not_back)
          (reached_so w (Reaches-trans m x v w k.1 there)) (reached_so v k.1);
      by_sequence = λ v w h k one lower.
          let p = in_part v h in
          let q = in_part w k in
          Before-filter reached whole v w (lawful.by_sequence v w p.0 q.0 one lower)
          (reached_so v p.1) (reached_so w q.1);
    }

    -- what x reaches, and then the others
    reached_and_others : (y : Id) → IsReady m y → ¬ Reaches m x y
        → (ids : List Id) × IsLawful m ids × Before ids x y
    reached_and_others y ready_y not_there = (
      part ++ remaining_ids part whole,
      IsLawful-part_and_rest m (Reaches m x) (λ v there. IsReady-reached m x v there ready)
          (λ v w on there. Reaches-trans m x v w on there) part whole part_lawful lawful,
      Before-across part (remaining_ids part whole) x y (to_part x (Reaches-refl m x))
          (Contains-filter (λ z. not (is_among part z)) whole y (lawful.whole y ready_y)
          (is_among-passes_rest part whole y (λ h. not_there (in_part y h).1))),
    )

-- if x does not reach y, x is before y in some lawful order
pub Before-exists : (m : List Instance) → IsRising (ids_of m) → (x y : Id) → IsReady m x
    → IsReady m y → ¬ Reaches m x y → (ids : List Id) × IsLawful m ids × Before ids x y
Before-exists m rising x y ready ready_y not_there =
    let whole = IsLawful-exists m rising in
    reached_and_others m x ready whole.0 whole.1 y ready_y not_there

-- if conflicting instances come in the same order in all lawful orders, the map is covered
pub IsCovered-from_ordered : (m : List Instance) → IsRising (ids_of m) → ConflictsAreOrdered m
    → IsCovered m
IsCovered-from_ordered m rising ordered d e in_d in_e apart ready ready' conflict =
    elim (Reaches-cases m d.id e.id) [
      | inl there ↦ inl there
      | inr not_there ↦ elim (Reaches-cases m e.id d.id) [
        | inl back ↦ inr back
        | inr not_back ↦
            let first = Before-exists m rising d.id e.id ready ready' not_there in
            let second = Before-exists m rising e.id d.id ready' ready not_back in
            absurd (Before-not_both second.0 second.1.once e.id d.id second.2
            (ordered first.0 second.0 first.1 second.1 d e (record {
              first = in_d;
              second = in_e;
              apart = apart;
              first_ready = ready;
              second_ready = ready';
              conflict = conflict;
            }) first.2))
      ]
    ]
