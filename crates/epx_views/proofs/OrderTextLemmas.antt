-- The lines of an execution order, appended one by one.
use Rattle.std.proofs.Common.{◌≡◌, ◌+◌, ◌++◌, ℕ, suc, List, ◌∷◌, flat_map, drop, get_or, Some}
use Rattle.std.proofs.Common.{slice_get, sym, ap, ◌∙◌, append_assoc, add-one}
use Rattle.epx_types.proofs.Common.{drop-cons, slice_get_within, get_or_from_slice_get, Ranked}
use Rattle.epx_types.proofs.Common.{ranked_ids}
use Rattle.epx_types.specs.declared.id.Id.{Id}
use Rattle.epx_types.proofs.lists.ListPositionLemmas.{slice_get-map}
use Rattle.epx_report.specs.ReportLines.{line_of}
use Rattle.epx_report.specs.ViewLines.{order_data, order_line}

-- the parts of a line, each looked up by its position, are those of one instance
pub line_of-order_data : (order : List Ranked) (k : ℕ) (ids : List Id) (d : Id) (depth : ℕ)
    (leader : Id)
    → ids ≡ ranked_ids order
    → (s : (r : Ranked) × (slice_get order k ≡ Some r) × (r.depth ≡ depth))
    → (r : Ranked) × (slice_get order k ≡ Some r) × (r.leader ≡ leader)
    → line_of (order_data (get_or ids k d) depth leader) ≡ order_line s.0
line_of-order_data order k ids d depth leader e_ids s l =
    let same : s.0 ≡ l.0 = sym (get_or_from_slice_get order k s.0 s.0 s.1)
    ∙ get_or_from_slice_get order k l.0 s.0 l.1 in
    let id : get_or ids k d ≡ s.0.id = ap (λ xs. get_or xs k d) e_ids ∙ get_or_from_slice_get
    (ranked_ids order) k s.0.id d (slice_get-map (λ (r : Ranked). r.id) order k s.0 s.1) in
    let leads : leader ≡ s.0.leader = sym l.2 ∙ ap (λ (r : Ranked). r.leader) (sym same) in
    ap (λ x. line_of (order_data x depth leader)) id
    ∙ ap (λ n. line_of (order_data s.0.id n leader)) (sym s.2)
    ∙ ap (λ y. line_of (order_data s.0.id s.0.depth y)) leads

pub order_line-step : (order : List Ranked) (k : ℕ) (r : Ranked) (text new line whole : List ℕ)
    → slice_get order k ≡ Some r → line ≡ order_line r
    → text ++ flat_map order_line (drop k order) ≡ whole → new ≡ text ++ line
    → new ++ flat_map order_line (drop (k + 1) order) ≡ whole
order_line-step order k r text new line whole there is sofar grown =
    let rest = flat_map order_line (drop (k + 1) order) in
    let next : drop k order ≡ r ∷ drop (k + 1) order =
    drop-cons order k r (slice_get_within order k r there) ∙ ap (λ s. s ∷ drop (suc k) order)
    (get_or_from_slice_get order k r r there) ∙ ap (λ n. r ∷ drop n order) (sym (add-one k)) in
    ap (λ t. t ++ rest) (grown ∙ ap (λ l. text ++ l) is) ∙ append_assoc text (order_line r) rest
    ∙ ap (λ o. text ++ flat_map order_line o) (sym next) ∙ sofar
