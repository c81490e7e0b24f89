use Rattle.std.proofs.Common.{◌≡◌, ◌↔◌, List, Contains, take, filter, flat_map, get_or, sym, ap}
use Rattle.std.proofs.Common.{◌++◌, ◌∙◌, arith}
use Rattle.epx_types.proofs.Common.{take_all, IfOk-weaker, get_or_from_slice_get, is_among}
use Rattle.epx_types.proofs.Common.{Instance}
use Rattle.epx_types.specs.declared.id.Id.{Id}
use Rattle.epx_executor.specs.inner.Batches.{AreDoneDeps}
use Rattle.epx_executor.proofs.FilterLemmas.{flat_map-more}
use Rattle.epx_executor.proofs.RemainderLemmas.{AreDoneDeps-gathered}
use Rattle.epx_executor.proofs.batch.done_deps.Goals as goal

pub loop-position-preserved : goal.loop-position-preserved
loop-position-preserved c =
    let done = c.args.done.now in
    let f = λ (e : Instance). filter (λ (x : Id). is_among done x) e.deps in
    let m = c.args.merged.now in
    let k = c.loop-position.position in
    let e = c.entry_at.result.now in
    let here : get_or m k e ≡ e = get_or_from_slice_get m k e e c.entry_at.ensures in
    c.in_ok-append_done.ensures
    ∙ ap (λ (ys : List Id). ys ++ filter (λ (x : Id). is_among done x) c.deps.result.now)
    c.loop-position.invariant
    ∙ ap (λ (ds : List Id). flat_map f (take k m) ++ filter (λ (x : Id). is_among done x) ds)
    (c.deps.ensures.deps ∙ ap (λ (i : Instance). i.deps) (sym here))
    ∙ sym (flat_map-more f m k e (omega (arith, c.len-position-end.ensures.len)))

pub returns-clause-exact : goal.returns-clause-exact
returns-clause-exact c =
    let done = c.args.done.now in
    let m = c.args.merged.now in
    let f = λ (e : Instance). filter (λ (x : Id). is_among done x) e.deps in
    let all : take c.loop-position.position m ≡ m =
    take_all c.loop-position.position m
    (omega (arith, c.len-position-end.ensures.len, c.loop-position-test.false)) in
    IfOk-weaker c.sort_unique.result
    (λ kept. (x : Id) → Contains kept.items x ↔ Contains c.deref.result.now x)
    (λ found. AreDoneDeps done m found.items)
    (λ found same. AreDoneDeps-gathered done m c.deref.result.now found.items
    (c.deref.ensures.value ∙ c.loop-position.invariant ∙ ap (flat_map f) all) same)
    c.sort_unique.ensures.exact
