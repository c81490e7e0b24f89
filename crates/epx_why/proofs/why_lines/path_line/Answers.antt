use Rattle.std.proofs.Common.{ap, ◌∙◌, ◌∷◌, map}
use Rattle.serde_json.specs.Written.{has_float}
use Rattle.epx_why.specs.inner.NodeWalks.{id_at}
use Rattle.epx_why.proofs.WhyLineLemmas.{no_float-path}
use Rattle.epx_why.proofs.why_lines.path_line.Goals as goal

pub append_line-requires : goal.append_line-requires
append_line-requires c =
    ap has_float c.in_ok-value.ensures
    ∙ no_float-path (c.args.start ∷ map (id_at c.args.graph.now) c.args.nodes.now)
