use Rattle.std.proofs.Common.{List, sym, subst}
use Rattle.epx_types.proofs.Common.{IfOk-weaker, Instance}
use Rattle.epx_graph.specs.GraphOf.{IsGraphOf}
use Rattle.epx_executor.specs.inner.Batches.{AreDoneDeps}
use Rattle.epx_executor.proofs.RemainderLemmas.{remaining-done_deps}
use Rattle.epx_executor.proofs.batch.graph_remaining.Goals as goal

pub returns : goal.returns
returns g c =
    let done = c.args.done.now in
    let m = c.args.merged.now in
    let found = c.deref.result.now in
    let are : AreDoneDeps done m found =
    subst (AreDoneDeps done m) (sym c.deref.ensures.value) c.in_ok-deps.ensures.exact in
    IfOk-weaker c.build_after.result _ _
    (λ graph. subst (λ (n : List Instance). IsGraphOf n graph)
    (remaining-done_deps done m found are c.requires)) c.build_after.ensures
