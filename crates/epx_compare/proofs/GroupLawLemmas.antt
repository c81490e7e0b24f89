-- Lines have their places in one group exactly if they commit the same.
use Rattle.std.proofs.Common.{◌≡◌, ◌&&◌, ◌∙◌, Bool, true, false, List, filter, Contains, Some}
use Rattle.std.proofs.Common.{slice_get, refl, sym, ap, subst, arith}
use Rattle.epx_types.proofs.Common.{list_any, Instance, Placed, HaveDistinctPlaces}
use Rattle.epx_types.proofs.Common.{AllPairs-from_slice_get, slice_get-from_map, Contains-map}
use Rattle.epx_types.proofs.Common.{Contains-from_map, Contains-filter, Contains-from_filter}
use Rattle.epx_types.proofs.Common.{passes-from_filter}
use Rattle.epx_types.specs.declared.id.Id.{Id}
use Rattle.epx_types.specs.declared.place.Place.{Place}
use Rattle.epx_compare.specs.Differences.{groups_of, places_of}
use Rattle.epx_compare.specs.GroupLaws.{AreGroups, DependentsHaveLines}
use Rattle.epx_compare.proofs.DependencyLemmas.{Contains-from_versions_of, Contains-versions_of}
use Rattle.epx_compare.proofs.DifferenceLemmas.{versions_of-number_is_unique}
use Rattle.epx_compare.proofs.MemberLemmas.{list_any-found, list_any-from}
use Rattle.epx_versions.specs.LineVersions.{versions_of}
use Rattle.epx_versions.specs.SameInstances.{same_id, same_instance}
use Rattle.epx_versions.specs.inner.EqualVersions.{same_id-decides, same_instance-decides}
use Rattle.epx_versions.specs.inner.EqualVersions.{same_instance-equal}

module _ (lines : List Placed) (distinct : HaveDistinctPlaces lines) where
  -- a place of an instance is that of a line that commits it
  line_in : (e : Instance) (x : Place) → Contains (places_of lines e) x
      → (p : Placed) × Contains lines p × (p.place ≡ x) × (e ≡ p.instance)
  line_in e x h =
      let own = λ (p : Placed). same_instance e p.instance in
      let p = Contains-from_map (λ (p : Placed). p.place) (filter own lines) x h in (
        p.0,
        Contains-from_filter own lines p.0 p.1,
        p.2,
        same_instance-equal e p.0.instance (passes-from_filter own lines p.0 p.1),
      )

  in_places : (p : Placed) → Contains lines p → Contains (places_of lines p.instance) p.place
  in_places p h =
      let own = λ (q : Placed). same_instance p.instance q.instance in
      Contains-map (λ (q : Placed). q.place) (filter own lines) p
      (Contains-filter own lines p h ((same_instance-decides p.instance p.instance).1 refl))

  -- the instance of a group that has the place of a line is that of the line
  instance_at : (e : Instance) (p : Placed) → Contains lines p
      → Contains (places_of lines e) p.place → e ≡ p.instance
  instance_at e p among h =
      let q = line_in e p.place h in
      let one = distinct q.0 p q.1 among q.2 in
      q.3 ∙ ap (λ (r : Placed). r.instance) one

  pub AreGroups-groups_of : AreGroups lines (groups_of lines)
  AreGroups-groups_of = record {
    whole = λ p h. (
      places_of lines p.instance,
      Contains-map (places_of lines) (versions_of lines) p.instance
          (Contains-versions_of lines p h),
      in_places p h,
    );
    apart = AllPairs-from_slice_get (λ g h. (x : Place) → Contains g x → ¬ Contains h x)
        (groups_of lines) (λ i j g h l at_g at_h x in_g in_h.
        let e = slice_get-from_map (places_of lines) (versions_of lines) i g at_g in
        let f = slice_get-from_map (places_of lines) (versions_of lines) j h at_h in
        let p = line_in e.0 x (subst (λ (ps : List Place). Contains ps x) (sym e.2) in_g) in
        let other = instance_at f.0 p.0 p.1
        (subst (Contains (places_of lines f.0)) (sym p.2)
        (subst (λ (ps : List Place). Contains ps x) (sym f.2) in_h)) in
        let same : e.0 ≡ f.0 = p.3 ∙ sym other in
        let number = versions_of-number_is_unique lines i j f.0
        (subst (λ (d : Instance). slice_get (versions_of lines) i ≡ Some d) same e.1) f.1 in
        omega (arith, number, l));
    only = λ group h x among.
        let e = Contains-from_map (places_of lines) (versions_of lines) group h in
        let p = line_in e.0 x (subst (λ (ps : List Place). Contains ps x) (sym e.2) among) in
        (p.0, p.1, p.2);
    some = λ group h.
        let e = Contains-from_map (places_of lines) (versions_of lines) group h in
        let p = Contains-from_versions_of lines e.0 e.1 in
        let here = subst (λ (d : Instance). Contains (places_of lines d) p.0.place) p.2
        (in_places p.0 p.1) in
        (p.0.place, subst (λ (ps : List Place). Contains ps p.0.place) e.2 here);
    together = λ group h p q in_p in_q at_p.
        let e = Contains-from_map (places_of lines) (versions_of lines) group h in
        let back = λ (x : Place) (k : Contains group x).
        subst (λ (ps : List Place). Contains ps x) (sym e.2) k in
        let first = instance_at e.0 p in_p (back p.place at_p) in (
          λ at_q. sym first ∙ instance_at e.0 q in_q (back q.place at_q),
          λ same. subst (λ (ps : List Place). Contains ps q.place) e.2
              (subst (λ (d : Instance). Contains (places_of lines d) q.place)
              (sym (first ∙ same)) (in_places q in_q)),
        );
  }

both_hold : (a b : Bool) → (a && b) ≡ true → (a ≡ true) × (b ≡ true)
both_hold true true e = (refl, refl)
both_hold true false e = absurd (cc e)
both_hold false b e = absurd (cc e)

pub DependentsHaveLines-holds : DependentsHaveLines
DependentsHaveLines-holds lines x y = (there, back) where
  there : list_any (λ p. same_id p.instance.id y && list_any (λ d. same_id d x) p.instance.deps)
      lines ≡ true
      → (p : Placed) × Contains lines p × (p.instance.id ≡ y) × Contains p.instance.deps x
  there h =
      let p = list_any-found
      (λ (p : Placed). same_id p.instance.id y && list_any (λ d. same_id d x) p.instance.deps)
      lines h in
      let both = both_hold (same_id p.0.instance.id y)
      (list_any (λ d. same_id d x) p.0.instance.deps) p.2 in
      let d = list_any-found (λ (d : Id). same_id d x) p.0.instance.deps both.1 in (
        p.0,
        p.1,
        (same_id-decides p.0.instance.id y).0 both.0,
        subst (Contains p.0.instance.deps) ((same_id-decides d.0 x).0 d.2) d.1,
      )

  back : (p : Placed) × Contains lines p × (p.instance.id ≡ y) × Contains p.instance.deps x
      → list_any (λ p. same_id p.instance.id y && list_any (λ d. same_id d x) p.instance.deps)
      lines ≡ true
  back (p, among, is, listed) =
      let first = (same_id-decides p.instance.id y).1 is in
      let second = list_any-from (λ (d : Id). same_id d x) p.instance.deps x listed
      ((same_id-decides x x).1 refl) in
      list_any-from
      (λ (p : Placed). same_id p.instance.id y && list_any (λ d. same_id d x) p.instance.deps)
      lines p among (λ i. first i && second i)
