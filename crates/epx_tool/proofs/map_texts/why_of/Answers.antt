use Rattle.std.proofs.Common.{MatchOption, subst}
use Rattle.epx_types.proofs.Common.{IfOk-weaker, IsReady}
use Rattle.epx_why.specs.WhyTexts.{IsWhyText}
use Rattle.epx_tool.proofs.map_texts.why_of.Goals as goal

pub unready_text-requires : goal.unready_text-requires
unready_text-requires g c = c.in_ok-graph.ensures.graph.graph

pub returns-in-Some : goal.returns-in-Some
returns-in-Some g c =
    let m = c.args.merged.now in
    subst (λ found. MatchOption found (IsReady m c.args.id)
    (λ text. IsWhyText m c.args.id text.items)) c.in-Some.is
    (c.in_ok-text.ensures m c.in_ok-graph.ensures.graph)

pub ready_text-requires : goal.ready_text-requires
ready_text-requires g c =
    let m = c.args.merged.now in
    let graph = c.in_ok-graph.ensures.graph in
    let ready : IsReady m c.args.id = subst (λ found. MatchOption found (IsReady m c.args.id)
    (λ text. IsWhyText m c.args.id text.items)) c.in_default.is
    (c.in_ok-text.ensures m graph) in
    (c.in_ok-order.ensures.whole graph).whole c.args.id ready

pub returns : goal.returns
returns g c =
    let graph = c.in_ok-graph.ensures.graph in
    IfOk-weaker c.ready_text.result _ _
    (λ text is. is c.args.merged.now (c.in_ok-order.ensures.whole graph)) c.ready_text.ensures
