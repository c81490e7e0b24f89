use Rattle.std.proofs.Common.{List, MatchOption, subst}
use Rattle.epx_types.proofs.Common.{IfOk-weaker, IsExecutionOrder, IsReady}
use Rattle.epx_graph.proofs.Common.{IsGraphOf}
use Rattle.epx_why.specs.WhyTexts.{IsWhyText}
use Rattle.epx_why.proofs.why.why_text.Goals as goal

pub returns-in-Some : goal.returns-in-Some
returns-in-Some c m of executed =
    subst (λ found. MatchOption found (IsReady m c.args.id)
    (λ text. IsWhyText m c.args.id text.items)) c.in-Some.is (c.in_ok-text.ensures m of)

pub ready_text-requires : goal.ready_text-requires
ready_text-requires c =
    let m = c.requires.0 in
    let ready : IsReady m c.args.id = subst (λ found. MatchOption found (IsReady m c.args.id)
    (λ text. IsWhyText m c.args.id text.items)) c.in-None.is
    (c.in_ok-text.ensures m c.requires.1) in
    c.requires.2.whole c.args.id ready

pub returns-in-None : goal.returns-in-None
returns-in-None c =
    IfOk-weaker c.ready_text.result
    (λ text. (m : List _) → IsExecutionOrder m c.args.order.now → IsWhyText m c.args.id text.items)
    (λ text. (m : List _) → IsGraphOf m c.args.graph.now → IsExecutionOrder m c.args.order.now
    → IsWhyText m c.args.id text.items)
    (λ text is m of executed. is m executed)
    c.ready_text.ensures
