use Rattle.std.proofs.Common.{◌∙◌, ap, map, sym, get_or}
use Rattle.epx_types.proofs.Common.{map_push}
use Rattle.serde_json.specs.View.{view}
use Rattle.epx_why.specs.WhyLines.{id_data}
use Rattle.epx_why.proofs.MapStepLemmas.{id_at-is}
use Rattle.epx_why.proofs.WhyLineLemmas.{path_data-push}
use Rattle.epx_why.proofs.why_lines.path_value.Goals as goal

pub loop-node-preserved : goal.loop-node-preserved
loop-node-preserved c =
    let g = c.args.graph.now in
    let nodes = c.args.nodes.now in
    let i = c.loop-node.node-index in
    let part = c.in_ok-id_value-2.field-0 in
    ap (map view) c.in_ok-push-3.ensures.items
    ∙ map_push view c.loop-node.values.items part
    ∙ path_data-push g c.args.start nodes i
    (map view c.loop-node.values.items) (view part)
    c.loop-node-test.true c.loop-node.invariant
    (c.in_ok-id_value-2.ensures
    ∙ ap id_data (sym (id_at-is g (get_or nodes i 0) c.id.result c.id.ensures)))
