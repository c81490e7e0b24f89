-- The picture around an instance, from the picture of the map.
use Rattle.std.proofs.Common.{◌≡◌, ◌⊎◌, ℕ, Bool, List, map, filter, Contains}
use Rattle.std.proofs.Common.{inl, inr, refl, sym, ap, ap₂, ◌∙◌, subst, take, drop}
use Rattle.std.proofs.lemmas.List.{take-map, drop-map}
use Rattle.epx_types.proofs.Common.{Contains-filter, Contains-from_filter, passes-from_filter}
use Rattle.epx_types.proofs.Common.{AllPairs-filter, AllPairs-from_IsRising, IsRising-from_AllPairs}
use Rattle.epx_types.proofs.Common.{Below, Instance, IsCommitted, IsCommitted-from_Contains}
use Rattle.epx_types.proofs.Common.{Contains-Id_cases, ids_of, map-map}
use Rattle.epx_types.specs.declared.id.Id.{Id}
use Rattle.epx_graph.specs.GraphOf.{IsMissing}
use Rattle.epx_graph.proofs.Common.{DependencyGraph, IsGraphOf, missing_ids}
use Rattle.epx_picture.specs.declared.node_box.NodeBox.{NodeBox}
use Rattle.epx_picture.specs.Neighbourhoods.{IsWithinSteps, IsWithinTest}
use Rattle.epx_picture.specs.NodeBoxes.{IsBoxOf}
use Rattle.epx_picture.specs.PictureText.{picture_text}
use Rattle.epx_picture.specs.Pictures.{IsPicture}
use Rattle.epx_picture.specs.PicturesAround.{part_near, IsPictureAround}
use Rattle.epx_picture.specs.PictureLaws.{FurtherStepsAddNothing, PictureAroundExists}
use Rattle.epx_picture.specs.PictureLaws.{PictureAroundIsWhole}
use Rattle.epx_picture.proofs.PartLemmas.{filter-map, ids_of-part_near, part_near-all}
use Rattle.epx_picture.proofs.PictureLemmas.{IsPicture-exists}
use Rattle.epx_picture.proofs.WithinLemmas.{IsWithinTest-exists, IsWithin-more, IsWithin-stays}

-- what the picture of the map shows, as far as it passes the test
pub IsPictureAround-part : (m : List Instance) (x : Id) (n : ℕ) (near : Id → Bool) (text : List ℕ)
    → IsWithinTest m n x near → (p : IsPicture m text)
    → IsPictureAround m x n (picture_text (part_near near m)
    (filter (λ d. near d.id) p.node_boxes) (filter near p.missing))
IsPictureAround-part m x n near text exact p = record {
  near = near;
  node_boxes = filter (λ d. near d.id) p.node_boxes;
  missing = filter near p.missing;
  exact = exact;
  named = sym (filter-map (λ (d : NodeBox). d.id) near p.node_boxes)
      ∙ ap (filter near) p.named ∙ sym (ids_of-part_near near m);
  shown = λ d h. p.shown d (Contains-from_filter (λ (d : NodeBox). near d.id) p.node_boxes d h);
  missing_rise = IsRising-from_AllPairs (filter near p.missing)
      (AllPairs-filter Below near p.missing (AllPairs-from_IsRising p.missing p.missing_rise));
  lacking = λ y. (
    λ h. (
      (p.lacking y).0 (Contains-from_filter near p.missing y h),
      (exact y).0 (passes-from_filter near p.missing y h),
    ),
    λ h. Contains-filter near p.missing y ((p.lacking y).1 h.0) ((exact y).1 h.1),
  );
  printed = refl;
}

-- the text of those boxes and missing instances that pass the test is a picture around x
pub IsPictureAround-from_marked : (m : List Instance) (g : DependencyGraph) → IsGraphOf m g
    → (x : Id)
    (n : ℕ) (near : Id → Bool) → IsWithinTest m n x near → (all node_boxes : List NodeBox)
    (missing : List Id) (text : List ℕ) → map (λ d. d.id) all ≡ ids_of m
    → ((d : NodeBox) → Contains all d → IsBoxOf m d)
    → node_boxes ≡ filter (λ d. near d.id) all → missing ≡ filter near (missing_ids g)
    → text ≡ picture_text (part_near near m) node_boxes missing → IsPictureAround m x n text
IsPictureAround-from_marked m g is x n near exact all node_boxes missing text named shown boxes ids
    printed =
    let p : IsPicture m (picture_text m all (missing_ids g)) = record {
      node_boxes = all;
      missing = missing_ids g;
      named = named;
      shown = shown;
      missing_rise = is.graph.missing_rise;
      lacking = is.missing;
      printed = refl;
    } in
    subst (IsPictureAround m x n)
    (sym (printed ∙ ap₂ (picture_text (part_near near m)) boxes ids))
    (IsPictureAround-part m x n near (picture_text m all (missing_ids g)) exact p)

-- the marks of the committed nodes, and those of the missing ones
module _ (m : List Instance) (g : DependencyGraph) (is : IsGraphOf m g) (near : Id → Bool)
    (marks : List Bool) (same : marks ≡ map near g.ids) where
  pub take-committed_marks : (all : List NodeBox) → map (λ d. d.id) all ≡ ids_of m
      → take g.committed marks ≡ map (λ d. near d.id) all
  take-committed_marks all named =
      ap (take g.committed) same ∙ take-map near g.committed g.ids
      ∙ ap (map near) (is.committed ∙ sym named)
      ∙ map-map near (λ (d : NodeBox). d.id) all

  pub drop-missing_marks : drop g.committed marks ≡ map near (missing_ids g)
  drop-missing_marks = ap (drop g.committed) same ∙ drop-map near g.committed g.ids

-- there is a picture around each instance
pub PictureAroundExists-holds : PictureAroundExists
PictureAroundExists-holds m x n rising =
    let p = IsPicture-exists m rising in
    let test = IsWithinTest-exists m n x in
    (_, IsPictureAround-part m x n test.0 p.0 test.1 p.1)

-- ---- where all is shown

module _ (m : List Instance) (x : Id) (n : ℕ)
    (all : (y : Id) → IsCommitted m y ⊎ IsMissing m y → IsWithinSteps m n x y) (near : Id → Bool)
    (exact : IsWithinTest m n x near) where
  dependency : (e : Instance) → Contains m e → (y : Id) → Contains e.deps y
      → IsCommitted m y ⊎ IsMissing m y
  dependency e there y h = elim (Contains-Id_cases (ids_of m) y) [
    | inl committed ↦ inl committed
    | inr missing ↦ inr ((e.id, (e, there, refl, h)), missing)
  ]

  part_is_whole : part_near near m ≡ m
  part_is_whole = part_near-all near m
      (λ e h. (exact e.id).1 (all e.id (inl (IsCommitted-from_Contains m e h))))
      (λ e h y among. (exact y).1 (all y (dependency e h y among)))

-- the picture around an instance is that of the map
pub PictureAroundIsWhole-holds : PictureAroundIsWhole
PictureAroundIsWhole-holds m x n text all = (there, back) where
  there : IsPictureAround m x n text → IsPicture m text
  there q =
      let whole = part_is_whole m x n all q.near q.exact in
      record {
        node_boxes = q.node_boxes;
        missing = q.missing;
        named = q.named ∙ ap ids_of whole;
        shown = q.shown;
        missing_rise = q.missing_rise;
        lacking = λ y. (λ h. ((q.lacking y).0 h).0, λ h. (q.lacking y).1 (h, all y (inr h)));
        printed = q.printed ∙ ap (λ part. picture_text part q.node_boxes q.missing) whole;
      }

  back : IsPicture m text → IsPictureAround m x n text
  back p =
      let test = IsWithinTest-exists m n x in
      let whole = part_is_whole m x n all test.0 test.1 in
      record {
        near = test.0;
        node_boxes = p.node_boxes;
        missing = p.missing;
        exact = test.1;
        named = p.named ∙ sym (ap ids_of whole);
        shown = p.shown;
        missing_rise = p.missing_rise;
        lacking = λ y. (
          λ h. let is = (p.lacking y).0 h in (is, all y (inr is)),
          λ h. (p.lacking y).1 h.0,
        );
        printed = p.printed ∙ sym (ap (λ part. picture_text part p.node_boxes p.missing) whole);
      }

-- ---- more steps

-- a picture of n steps around x is one of l steps, if the same instances are within n steps and
-- within l steps
same_around : (m : List Instance) (x : Id) (n l : ℕ) (text : List ℕ)
    → ((y : Id) → IsWithinSteps m n x y → IsWithinSteps m l x y)
    → ((y : Id) → IsWithinSteps m l x y → IsWithinSteps m n x y)
    → IsPictureAround m x n text → IsPictureAround m x l text
same_around m x n l text there back q = record {
  near = q.near;
  node_boxes = q.node_boxes;
  missing = q.missing;
  exact = λ y. (λ h. there y ((q.exact y).0 h), λ h. (q.exact y).1 (back y h));
  named = q.named;
  shown = q.shown;
  missing_rise = q.missing_rise;
  lacking = λ y. (
    λ h. let is = (q.lacking y).0 h in (is.0, there y is.1),
    λ h. (q.lacking y).1 (h.0, back y h.1),
  );
  printed = q.printed;
}

-- where one step more adds nothing, the pictures are the same
pub FurtherStepsAddNothing-holds : FurtherStepsAddNothing
FurtherStepsAddNothing-holds m x n l text last low =
    let more : (y : Id) → IsWithinSteps m n x y → IsWithinSteps m l x y =
    λ y. IsWithin-more m x y n l low in
    let stays : (y : Id) → IsWithinSteps m l x y → IsWithinSteps m n x y =
    IsWithin-stays m x n last l in
    (same_around m x l n text stays more, same_around m x n l text more stays)
