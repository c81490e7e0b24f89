use Rattle.std.proofs.Common.{◌++◌, ◌∷◌, [], take, sym, ap, ◌∙◌}
use Rattle.epx_types.proofs.Common.{Instance, ids_of, slice_get-from_map}
use Rattle.epx_graph.specs.inner.Remainder.{rest_of}
use Rattle.epx_graph.proofs.MissingIdLemmas.{ids_of-take}
use Rattle.epx_graph.proofs.build_graph.committed_ids.Goals as goal

pub loop-index-preserved : goal.loop-index-preserved
loop-index-preserved c =
    let m = rest_of c.args.left.now in
    let i = c.loop-index.index in
    let e = slice_get-from_map (λ (d : Instance). d.id) m i c.id_at.result c.id_at.ensures in
    c.in_ok-push.ensures.items
    ∙ ap (λ l. l ++ c.id_at.result ∷ []) c.loop-index.invariant
    ∙ ap (λ x. ids_of (take i m) ++ x ∷ []) (sym e.2)
    ∙ sym (ids_of-take m i e.0 e.1)
