-- Adding the box of one more instance.
use Rattle.std.proofs.Common.{◌≡◌, ℕ, ◌+◌, List, [], ◌∷◌, ◌++◌, map, take, get_or, slice_get, Some}
use Rattle.std.proofs.Common.{Contains, sym, ap, ◌∙◌, subst, inl, inr}
use Rattle.epx_types.proofs.Common.{map-append, take_more, Contains-push_cases, slice_get_within}
use Rattle.epx_types.proofs.Common.{get_or_from_slice_get, Instance, ids_of}
use Rattle.epx_picture.specs.declared.node_box.NodeBox.{NodeBox}
use Rattle.epx_picture.specs.NodeBoxes.{IsBoxOf}

-- the boxes are those of the first n instances
pub record AreBoxesOf (m : List Instance) (n : ℕ) (node_boxes : List NodeBox) : Type 0 where
  pub named : map (λ d. d.id) node_boxes ≡ take n (ids_of m)
  pub shown : (d : NodeBox) → Contains node_boxes d → IsBoxOf m d

pub AreBoxesOf-push : (m : List Instance) (n : ℕ) (node_boxes : List NodeBox) (d : NodeBox)
    → AreBoxesOf m n node_boxes → slice_get (ids_of m) n ≡ Some d.id → IsBoxOf m d
    → AreBoxesOf m (n + 1) (node_boxes ++ d ∷ [])
AreBoxesOf-push m n node_boxes d old at is = record {
  named =
      let ids = ids_of m in
      let next = take_more ids n d.id (slice_get_within ids n d.id at) in
      let last : get_or ids n d.id ≡ d.id = get_or_from_slice_get ids n d.id d.id at in
      map-append (λ (d : NodeBox). d.id) node_boxes (d ∷ []) ∙ ap (λ xs. xs ++ d.id ∷ []) old.named
      ∙ ap (λ x. take n ids ++ x ∷ []) (sym last) ∙ sym next;
  shown = λ f h. elim (Contains-push_cases node_boxes d f h)
      [ inl was ↦ old.shown f was | inr same ↦ subst (IsBoxOf m) same is ];
}
