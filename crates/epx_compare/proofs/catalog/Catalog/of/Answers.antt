use Rattle.std.proofs.Common.{◌≡◌, ◌∙◌, ◌<◌, ◌↔◌, ℕ, List, length, map, All, Contains, Some, sym}
use Rattle.std.proofs.Common.{ap, subst}
use Rattle.epx_types.specs.declared.id.Id.{Id}
use Rattle.epx_rows.specs.between.PositionGroups.{AreGroupsOf}
use Rattle.epx_versions.specs.LineVersions.{versions_of}
use Rattle.epx_compare.specs.inner.Catalogs.{version_ids}
use Rattle.epx_compare.proofs.CatalogLemmas.{All-positions_within, All-versions_within}
use Rattle.epx_compare.proofs.catalog.Catalog.of.Goals as goal

pub positions-requires : goal.positions-requires
positions-requires c x h = (c.in_ok-ids.ensures x).1
    (subst (λ (l : List Id). Contains l x)
    (c.deref-2.ensures.value ∙ sym c.deref.ensures.value) h)

pub group_positions-requires : goal.group_positions-requires
group_positions-requires c =
    let held = All-positions_within c.in_ok-ids.ids c.in_ok-positions.positions.items
    c.deref-2.result.now c.in_ok-positions.ensures in
    let P : List ℕ → List Id → Type 0 = λ ks ids. All (λ j. j < length ids) ks in
    subst (λ ks. P ks c.ids-2.result.now) (sym c.deref-3.ensures.value)
    (subst (λ ids. P c.in_ok-positions.positions.items ids) (sym c.ids-2.ensures.ids) held)

pub group_positions-requires-2 : goal.group_positions-requires-2
group_positions-requires-2 c =
    let noted = c.requires.2 in
    let lines = c.requires.0 in
    let held = All-versions_within (versions_of lines) c.args.noted.rows.items lines noted.rows in
    let numbers : c.deref-5.result.now ≡ map (λ r. r.version) c.args.noted.rows.items =
    c.deref-5.ensures.value ∙ (c.in_ok-numbers.ensures
    ∙ ap (map (λ r. r.version)) c.deref-4.ensures.value) in
    let count : c.len.result ≡ length (versions_of lines) =
    c.len.ensures ∙ ap length noted.versions in
    let P : List ℕ → ℕ → Type 0 = λ ks n. All (λ j. j < n) ks in
    subst (λ ks. P ks c.len.result) (sym numbers)
    (subst (P (map (λ r. r.version) c.args.noted.rows.items)) (sym count) held)

pub returns : goal.returns
returns c lines bad noted =
    let named : c.in_ok-named.named.items ≡ version_ids lines =
    c.in_ok-named.ensures ∙ ap (map (λ e. e.id)) noted.versions in
    let numbers : c.deref-5.result.now ≡ map (λ r. r.version) c.args.noted.rows.items =
    c.deref-5.ensures.value ∙ (c.in_ok-numbers.ensures
    ∙ ap (map (λ r. r.version)) c.deref-4.ensures.value) in
    record {
      noted = noted;
      named = λ x. subst (λ (l : List Id). Contains c.in_ok-ids.ids x ↔ Contains l x)
          (c.deref.ensures.value ∙ named) (c.in_ok-ids.ensures x);
      positions = c.in_ok-positions.ensures
          ∙ ap (map (λ x. Some x)) (c.deref-2.ensures.value ∙ named);
      versions = subst (λ ks. AreGroupsOf ks c.in_ok-versions.versions) c.deref-3.ensures.value
          c.in_ok-versions.ensures.groups;
      each_instance = c.in_ok-versions.ensures.len ∙ ap length c.ids-2.ensures.ids;
      rows = subst (λ ks. AreGroupsOf ks c.in_ok-lines.lines) numbers
          c.in_ok-lines.ensures.groups;
      each_version = c.in_ok-lines.ensures.len ∙ (c.len.ensures ∙ ap length noted.versions);
    }
