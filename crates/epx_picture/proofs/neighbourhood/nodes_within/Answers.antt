use Rattle.std.proofs.Common.{◌≡◌, Bool, List, map, ◌∙◌, ap, replicate, false}
use Rattle.epx_types.proofs.Common.{IfOk-weaker, Instance}
use Rattle.epx_types.specs.declared.id.Id.{Id}
use Rattle.epx_graph.proofs.Common.{IsGraphOf}
use Rattle.epx_picture.specs.Neighbourhoods.{IsWithinTest}
use Rattle.epx_picture.specs.inner.NodeMarks.{AreMarksWithin}
use Rattle.epx_picture.proofs.NeighbourhoodLemmas.{AreMarksWithin-of_node, replicate-no_node}
use Rattle.epx_picture.proofs.neighbourhood.nodes_within.Goals as goal

pub returns-in-Some : goal.returns-in-Some
returns-in-Some c =
    let g = c.args.graph.now in
    let k = c.in-Some.node in
    IfOk-weaker c.mark_within.result (λ marks. AreMarksWithin g c.args.steps k marks.items)
    (λ marks. (m : List Instance) (near : Id → Bool) → IsGraphOf m g
    → IsWithinTest m c.args.steps c.args.id near → marks.items ≡ map near g.ids)
    (λ marks are m near is exact.
    AreMarksWithin-of_node m g is c.args.steps c.args.id near exact k c.in-Some.ensures marks.items
    are)
    c.mark_within.ensures

pub returns-in_ok-vec-in-None : goal.returns-in_ok-vec-in-None
returns-in_ok-vec-in-None c m near is exact =
    c.in_ok-vec-in-None.ensures.items_if_clones_equal (λ y same. same)
    ∙ ap (λ n. replicate n false) c.len.ensures.len
    ∙ replicate-no_node m c.args.graph.now is c.args.steps c.args.id near exact c.in-None.ensures
