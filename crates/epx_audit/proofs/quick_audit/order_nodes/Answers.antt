use Rattle.std.proofs.Common.{◌≡◌, inl, inr, [], ◌∷◌, ◌++◌, length, get_or, slice_get, Some, sym}
use Rattle.std.proofs.Common.{subst, ap, ◌∙◌, arith}
use Rattle.epx_types.proofs.Common.{cases_lt, get_or_push, get_or_append_left, length_push}
use Rattle.epx_types.proofs.Common.{length-map, slice_get-get_or, get_or_from_slice_get}
use Rattle.epx_types.proofs.Common.{slice_get_within, ids_of, IsCommitted, Ranked, ranked_ids}
use Rattle.epx_types.proofs.Common.{slice_get-from_map, Contains-slice_get}
use Rattle.epx_types.specs.declared.id.Id.{Id}
use Rattle.epx_types.proofs.lists.ListPositionLemmas.{slice_get-map}
use Rattle.epx_audit.proofs.quick_audit.order_nodes.Goals as goal

pub node_of-requires-clause-committed : goal.node_of-requires-clause-committed
node_of-requires-clause-committed c =
    let m = c.args.merged.now in
    let order = c.args.order.now in
    let ids = c.ids-id-items.result.now in
    let i = c.loop-id.id-index in
    let none : Id = record { replica = 0; number = 0 } in
    let x : Id = get_or ids i none in
    let at : slice_get ids i ≡ Some x = slice_get-get_or ids i none c.loop-id-test.true in
    let r = slice_get-from_map (λ (r : Ranked). r.id) order i x
    (ap (λ ids. slice_get ids i) (sym c.ids-id-items.ensures) ∙ at) in
    subst (λ (x : Id). IsCommitted m x) r.2
    (c.requires.order.ranked r.0 (Contains-slice_get order i r.0 r.1)).ready.committed

pub loop-id-preserved : goal.loop-id-preserved
loop-id-preserved c =
    let m = c.args.merged.now in
    let order = c.args.order.now in
    let ids = c.ids-id-items.result.now in
    let i = c.loop-id.id-index in
    let old = c.loop-id.nodes.items in
    let k = c.node_of.result in
    let new : c.push.new.self.items ≡ old ++ k ∷ [] = c.in_ok-push.ensures.items in
    let none : Id = record { replica = 0; number = 0 } in
    record {
      whole = omega (arith, ap length new, length_push old k, c.loop-id.invariant.whole);
      each = λ p r l at. subst (λ ks. slice_get (ids_of m) (get_or ks p 0) ≡ Some r.id) (sym new)
          (elim (cases_lt p i) [
            | inl past ↦
                let same = get_or_append_left old (k ∷ []) 0 p
                (omega (arith, past, c.loop-id.invariant.whole)) in
                ap (slice_get (ids_of m)) same ∙ c.loop-id.invariant.each p r past at
            | inr here ↦
                let is : p ≡ i = omega arith in
                let same = get_or_push old k 0 p (omega (arith, is, c.loop-id.invariant.whole)) in
                let id : slice_get ids i ≡ Some r.id =
                ap (λ ids. slice_get ids i) c.ids-id-items.ensures
                ∙ (ap (slice_get (ranked_ids order)) (sym is)
                ∙ slice_get-map (λ (r : Ranked). r.id) order p r at) in
                ap (slice_get (ids_of m)) same
                ∙ (c.node_of.ensures ∙ ap Some (get_or_from_slice_get ids i r.id none id))
          ]);
    }

pub returns : goal.returns
returns c =
    let order = c.args.order.now in
    let count : length c.ids-id-items.result.now ≡ length order =
    ap length c.ids-id-items.ensures ∙ length-map order (λ (r : Ranked). r.id) in
    let end : c.loop-id.id-index ≡ length order =
    omega (arith, count, c.loop-id-test.false, c.loop-id.auto.id-index-end) in
    record {
      whole = c.loop-id.invariant.whole ∙ end;
      each = λ p r at. c.loop-id.invariant.each p r
          (omega (arith, end, slice_get_within order p r at)) at;
    }
