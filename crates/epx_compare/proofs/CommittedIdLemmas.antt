-- The Ids of versions, in the order of their numbers.
use Rattle.std.proofs.Common.{◌≡◌, ◌∙◌, ◌+◌, ◌++◌, ◌∷◌, ℕ, List, [], Some, map, take, slice_get, ap}
use Rattle.std.proofs.Common.{sym}
use Rattle.epx_types.proofs.Common.{Instance, take_more, map_push, slice_get_within}
use Rattle.epx_types.proofs.Common.{get_or_from_slice_get}
use Rattle.epx_types.specs.declared.id.Id.{Id}

-- the Ids of one version more
pub ids-push : (keys : List Instance) (n : ℕ) (e : Instance) (old new : List Id) (x : Id)
    → slice_get keys n ≡ Some e → new ≡ old ++ x ∷ []
    → old ≡ map (λ (d : Instance). d.id) (take n keys) → x ≡ e.id
    → new ≡ map (λ (d : Instance). d.id) (take (n + 1) keys)
ids-push keys n e old new x at pushed so_far own =
    let more : take (n + 1) keys ≡ take n keys ++ e ∷ [] =
    take_more keys n e (slice_get_within keys n e at)
    ∙ ap (λ d. take n keys ++ d ∷ []) (get_or_from_slice_get keys n e e at) in
    let id : Instance → Id = λ d. d.id in
    pushed ∙ (ap (λ ids. ids ++ x ∷ []) so_far ∙ (ap (λ y. map id (take n keys) ++ y ∷ []) own
    ∙ (sym (map_push id (take n keys) e) ∙ ap (map id) (sym more))))
