-- Every committed map has a picture.
use Rattle.std.proofs.Common.{◌≡◌, ℕ, List, [], ◌∷◌, map, Bool, true, false, Option, Some, None}
use Rattle.std.proofs.Common.{Contains, refl, ap, ap₂, subst, inl, inr}
use Rattle.epx_types.proofs.Common.{false≢true, IsRising, Instance, ids_of, IsCommitted}
use Rattle.epx_types.proofs.Common.{InOneComponent, IsReady, IsRising-same}
use Rattle.epx_types.proofs.Common.{IsCommitted-from_Contains, Contains-some_or_none, Contains-nil}
use Rattle.epx_types.proofs.Common.{Contains-head, Contains-cons, Contains-cons_cases}
use Rattle.epx_types.proofs.Common.{IsLeader-exists, IsDepth-exists, IsReady-or_waits}
use Rattle.epx_types.proofs.Common.{IsReady-not_waiting, both-cases, negation-cases}
use Rattle.epx_types.proofs.Common.{InOneComponent-cases, within_reach, Contains-within_reach}
use Rattle.epx_types.proofs.Common.{Id-cases}
use Rattle.epx_types.specs.declared.id.Id.{Id}
use Rattle.epx_graph.proofs.Common.{missing_ids, IsGraphOf-exists}
use Rattle.epx_picture.specs.declared.node_box.NodeBox.{NodeBox}
use Rattle.epx_picture.specs.NodeBoxes.{IsCluster, IsBoxOf}
use Rattle.epx_picture.specs.PictureText.{picture_text}
use Rattle.epx_picture.specs.Pictures.{IsPicture}

module _ (m : List Instance) (rising : IsRising (ids_of m)) where
  cluster_exists : (x : Id) → (cluster : Option Id) × IsCluster m x cluster
  cluster_exists x =
      elim (Contains-some_or_none (λ y. InOneComponent m x y × (¬ (y ≡ x)))
      (λ y. both-cases (InOneComponent-cases m x y) (negation-cases (Id-cases y x)))
      (within_reach m x)) [
        | inl other ↦ let leader = IsLeader-exists m x in
            (Some leader.0, (leader.1, (other.0, other.2.0, other.2.1)))
        | inr none ↦ (
          None,
          λ y one. elim (Id-cases y x) [
            | inl same ↦ same
            | inr apart ↦ absurd (none y (Contains-within_reach m x y one.0) (one, apart))
          ],
        )
      ]

  waits_exists : (x : Id) → IsCommitted m x
      → (waits : Bool) × ((waits ≡ true → ¬ IsReady m x) × (¬ IsReady m x → waits ≡ true))
  waits_exists x committed = elim (IsReady-or_waits m x committed) [
    | inl ready ↦ (false, (λ h. absurd (false≢true h), λ not. absurd (not ready)))
    | inr waits ↦ (true, (λ h ready. IsReady-not_waiting m x waits.0 ready waits.1, λ not. refl))
  ]

  box_exists : (e : Instance) → Contains m e → (d : NodeBox) × IsBoxOf m d × (d.id ≡ e.id)
  box_exists e in_e =
      let depth = IsDepth-exists m e.id in
      let cluster = cluster_exists e.id in
      let waits = waits_exists e.id (IsCommitted-from_Contains m e in_e) in (
        record { id = e.id; seq = e.seq; depth = depth.0; cluster = cluster.0; waits = waits.0 },
        record {
          seq = λ d in_d same. ap (λ (i : Instance). i.seq)
              (IsRising-same m rising d e in_d in_e same);
          depth = depth.1;
          cluster = cluster.1;
          waits = waits.1;
        },
        refl,
      )

  all_boxes_exist : (es : List Instance) → ((e : Instance) → Contains es e → Contains m e)
      → (ds : List NodeBox) × (map (λ d. d.id) ds ≡ ids_of es)
      × ((d : NodeBox) → Contains ds d → IsBoxOf m d)
  all_boxes_exist [] within = ([], refl, λ d h. absurd (Contains-nil d h))
  all_boxes_exist (e ∷ es) within =
      let first = box_exists e (within e (Contains-head e es)) in
      let rest = all_boxes_exist es (λ d h. within d (Contains-cons e es d h)) in (
        first.0 ∷ rest.0,
        ap₂ (λ x xs. x ∷ xs) first.2 rest.1,
        λ d h. elim (Contains-cons_cases first.0 rest.0 d h)
            [ inl same ↦ subst (IsBoxOf m) same first.1 | inr later ↦ rest.2 d later ],
      )

  pub IsPicture-exists : (text : List ℕ) × IsPicture m text
  IsPicture-exists =
      let node_boxes = all_boxes_exist m (λ e h. h) in
      let g = IsGraphOf-exists m rising in
      let missing = missing_ids g.0 in (
        picture_text m node_boxes.0 missing,
        record {
          node_boxes = node_boxes.0;
          missing = missing;
          named = node_boxes.1;
          shown = node_boxes.2;
          missing_rise = g.1.graph.missing_rise;
          lacking = g.1.missing;
          printed = refl;
        },
      )
