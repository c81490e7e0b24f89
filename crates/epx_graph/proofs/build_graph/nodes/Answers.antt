use Rattle.std.proofs.Common.{◌≡◌, ◌++◌, sym, ap, subst, ◌∙◌}
use Rattle.epx_types.proofs.Common.{ids_of}
use Rattle.epx_graph.specs.inner.Remainder.{rest_of}
use Rattle.epx_graph.specs.inner.Nodes.{AreNodesOf}
use Rattle.epx_graph.proofs.MissingIdLemmas.{AreMissingIds-gathered}
use Rattle.epx_graph.proofs.MapNodeLemmas.{AreNodesOf-append}
use Rattle.epx_graph.proofs.build_graph.nodes.Goals as goal

pub returns : goal.returns
returns c =
    let m = rest_of c.args.left.now in
    let missing = c.in_ok-missing.missing.items in
    let is : c.extend_from_slice.new.self.items ≡ ids_of m ++ missing =
    c.in_ok-extend_from_slice.ensures.items ∙ ap (λ l. l ++ c.deref-2.result.now)
    c.in_ok-ids.ensures ∙ ap (λ l. ids_of m ++ l) c.deref-2.ensures.value in
    let kept = AreMissingIds-gathered m c.deref.result.now missing
    (c.deref.ensures.value ∙ c.requires.all.missing) c.in_ok-missing.ensures.rising
    c.in_ok-missing.ensures.exact in
    subst (AreNodesOf m) (sym is) (AreNodesOf-append m missing c.requires.instances_rise kept)
