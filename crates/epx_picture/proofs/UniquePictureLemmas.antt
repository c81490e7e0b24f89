-- A map has at most one picture, and at most one around an instance.
use Rattle.std.proofs.Common.{◌≡◌, List, [], ◌∷◌, length, map, filter, Option, Some}
use Rattle.std.proofs.Common.{None, Contains, refl, sym, ap, ap₂, ◌∙◌, subst, arith}
use Rattle.epx_types.proofs.Common.{Instance, IsCommitted, IsDepth, IsReady, Contains-head}
use Rattle.epx_types.proofs.Common.{Contains-cons, Contains-map, Contains-from_map}
use Rattle.epx_types.proofs.Common.{IsRising-is_unique}
use Rattle.epx_types.proofs.Common.{IsLeader-unique, IsDepth-unique, Contains-from_filter, ids_of}
use Rattle.epx_types.specs.declared.id.Id.{Id}
use Rattle.epx_picture.specs.declared.node_box.NodeBox.{NodeBox}
use Rattle.epx_picture.specs.NodeBoxes.{IsCluster, IsBoxOf}
use Rattle.epx_picture.specs.PictureText.{picture_text}
use Rattle.epx_picture.specs.PicturesAround.{part_near}
use Rattle.epx_picture.specs.PictureLaws.{PictureIsUnique, PictureAroundIsUnique}
use Rattle.epx_picture.proofs.BoolLemmas.{IsTrue-same}
use Rattle.epx_picture.proofs.PartLemmas.{ids_of-part_near}

IsCluster-unique : (m : List Instance) (x : Id) (a b : Option Id) → IsCluster m x a
    → IsCluster m x b → a ≡ b
IsCluster-unique m x None None p q = refl
IsCluster-unique m x None (Some l) p q = absurd (q.1.2 (p q.1.0 q.1.1))
IsCluster-unique m x (Some k) None p q = absurd (p.1.2 (q p.1.0 p.1.1))
IsCluster-unique m x (Some k) (Some l) p q = ap Some (IsLeader-unique m x k l p.0 q.0)

-- an instance has only one box
IsBoxOf-unique : (m : List Instance) (d f : NodeBox) → IsCommitted m d.id → f.id ≡ d.id
    → IsBoxOf m d → IsBoxOf m f → d ≡ f
IsBoxOf-unique m d f committed same p q =
    let e = Contains-from_map (λ (e : Instance). e.id) m d.id committed in
    let seq : d.seq ≡ f.seq = sym (p.seq e.0 e.1 e.2) ∙ q.seq e.0 e.1 (e.2 ∙ sym same) in
    let depth = IsDepth-unique m d.id d.depth f.depth p.depth
    (subst (λ x. IsDepth m x f.depth) same q.depth) in
    let cluster = IsCluster-unique m d.id d.cluster f.cluster p.cluster
    (subst (λ x. IsCluster m x f.cluster) same q.cluster) in
    let waits = IsTrue-same d.waits f.waits
    (λ h. q.waits.1 (λ ready. p.waits.0 h (subst (IsReady m) same ready)))
    (λ h. p.waits.1 (λ ready. q.waits.0 h (subst (IsReady m) (sym same) ready))) in
    λ i. record {
      id = sym same i;
      seq = seq i;
      depth = depth i;
      cluster = cluster i;
      waits = waits i;
    }

same_boxes : (m : List Instance) (ds fs : List NodeBox) → map (λ d. d.id) ds ≡ map (λ d. d.id) fs
    → ((d : NodeBox) → Contains ds d → IsCommitted m d.id × IsBoxOf m d)
    → ((d : NodeBox) → Contains fs d → IsBoxOf m d) → ds ≡ fs
same_boxes m [] [] e p q = refl
same_boxes m [] (f ∷ fs) e p q = absurd (let l = ap length e in omega arith)
same_boxes m (d ∷ ds) [] e p q = absurd (let l = ap length e in omega arith)
same_boxes m (d ∷ ds) (f ∷ fs) e p q =
    let here = p d (Contains-head d ds) in
    let first : d.id ≡ f.id = cc e in
    let rest : map (λ d. d.id) ds ≡ map (λ d. d.id) fs = cc e in
    let one = IsBoxOf-unique m d f here.0 (sym first) here.1 (q f (Contains-head f fs)) in
    ap₂ (λ x xs. x ∷ xs) one
    (same_boxes m ds fs rest (λ x h. p x (Contains-cons d ds x h))
    (λ x h. q x (Contains-cons f fs x h)))

pub PictureIsUnique-holds : PictureIsUnique
PictureIsUnique-holds m text other p q =
    let committed : (d : NodeBox) → Contains p.node_boxes d
    → IsCommitted m d.id = λ d h. subst (λ ids. Contains ids d.id) p.named
    (Contains-map (λ (d : NodeBox). d.id) p.node_boxes d h) in
    let node_boxes = same_boxes m p.node_boxes q.node_boxes (p.named ∙ sym q.named)
    (λ d h. (committed d h, p.shown d h)) q.shown in
    let missing = IsRising-is_unique p.missing q.missing p.missing_rise q.missing_rise
    (λ x h. (q.lacking x).1 ((p.lacking x).0 h))
    (λ x h. (p.lacking x).1 ((q.lacking x).0 h)) in
    p.printed ∙ ap₂ (picture_text m) node_boxes missing ∙ sym q.printed

pub PictureAroundIsUnique-holds : PictureAroundIsUnique
PictureAroundIsUnique-holds m x n text other p q =
    let near : p.near ≡ q.near = λ i y. IsTrue-same (p.near y) (q.near y)
    (λ h. (q.exact y).1 ((p.exact y).0 h)) (λ h. (p.exact y).1 ((q.exact y).0 h)) i in
    let ids : map (λ d. d.id) p.node_boxes ≡ filter p.near (ids_of m) =
    p.named ∙ ids_of-part_near p.near m in
    let committed : (d : NodeBox) → Contains p.node_boxes d
    → IsCommitted m d.id = λ d h. Contains-from_filter p.near (ids_of m) d.id
    (subst (λ ids. Contains ids d.id) ids
    (Contains-map (λ (d : NodeBox). d.id) p.node_boxes d h)) in
    let node_boxes = same_boxes m p.node_boxes q.node_boxes
    (p.named ∙ ap (λ near. ids_of (part_near near m)) near ∙ sym q.named)
    (λ d h. (committed d h, p.shown d h)) q.shown in
    let missing = IsRising-is_unique p.missing q.missing p.missing_rise q.missing_rise
    (λ x h. (q.lacking x).1 ((p.lacking x).0 h))
    (λ x h. (p.lacking x).1 ((q.lacking x).0 h)) in
    p.printed ∙ ap (λ near. picture_text (part_near near m) p.node_boxes p.missing) near
    ∙ ap₂ (picture_text (part_near q.near m)) node_boxes missing ∙ sym q.printed
