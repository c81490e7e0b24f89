use Rattle.std.proofs.Common.{◌≡◌, ◌++◌, ◌∷◌, [], ◌+◌, List, Some, slice_get, Contains, length}
use Rattle.std.proofs.Common.{take, drop, get_or, sym, ap, subst, ◌∙◌}
use Rattle.epx_types.specs.declared.id.Id.{Id}
use Rattle.epx_graph.specs.inner.Remainder.{rest_of}
use Rattle.epx_graph.specs.inner.Nodes.{ArePositionsOf}
use Rattle.epx_graph.proofs.RisingRowLemmas.{ArePositionsOf-skip, ArePositionsOf-push}
use Rattle.epx_graph.proofs.build_graph.number_missing.Goals as goal
use Rattle.epx_graph.proofs.build_graph.number_missing.Goals.{in-Some+in_ok-push, in_default}

pub loop-id-preserved : goal.loop-id-preserved
loop-id-preserved c =
    let m = rest_of c.args.left.now in
    let ids = c.args.ids.now in
    let xs = c.args.missing.now in
    let i = c.loop-id.id-index in
    let row = c.loop-id.row.items in
    let x : Id = get_or xs i (record { replica = 0; number = 0 }) in
    let more = take (i + 1) xs in
    let nodes : c.split_at.result.1.now ≡ drop (length m) ids =
    c.split_at.ensures.back ∙ ap (λ n. drop n ids) c.len.ensures.len in
    let front : length c.split_at.result.0.now ≡ length m =
    c.split_at.ensures.front_len ∙ c.len.ensures.len in
    elim c.match-find_id.branch [
      | in-Some+in_ok-push w ↦
          let index = w.in-Some.index in
          let at : slice_get (drop (length m) ids) index ≡ Some x =
          ap (λ l. slice_get l index) (sym nodes) ∙ w.in-Some.ensures in
          let is : c.match-find_id.row.items ≡ row ++ (length m + index) ∷ [] =
          ap (λ r. r.items) w.row-is ∙ w.in_ok-push.ensures.items
          ∙ ap (λ n. row ++ (n + index) ∷ []) front in
          subst (ArePositionsOf ids more) (sym is)
          (ArePositionsOf-push m ids c.requires.nodes xs c.requires.rising c.requires.missing i
          c.loop-id-test.true row c.loop-id.invariant index at)
      | in_default w ↦
          let none = subst (λ (l : List Id). ¬ Contains l x) nodes w.in_default.ensures in
          let is : c.match-find_id.row.items ≡ row = ap (λ r. r.items) w.row-is in
          subst (ArePositionsOf ids more) (sym is)
          (ArePositionsOf-skip m ids c.requires.nodes xs c.requires.rising c.requires.missing i
          c.loop-id-test.true row c.loop-id.invariant none)
    ]
