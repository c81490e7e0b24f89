use Rattle.std.proofs.Common.{◌≡◌, ◌∙◌, ◌<◌, List, length, map, get_or, Contains, refl, sym, ap}
use Rattle.std.proofs.Common.{subst, arith}
use Rattle.epx_types.proofs.Common.{get_or_default}
use Rattle.epx_types.specs.declared.id.Id.{Id}
use Rattle.epx_graph.proofs.Common.{missing_ids}
use Rattle.epx_blockers.specs.declared.blocker.Blocker.{Blocker}
use Rattle.epx_blockers.specs.inner.NodeBlockers.{IsNodeBlocker}
use Rattle.epx_blockers.proofs.NodeBlockerLemmas.{IsNodeBlocker-from_counts, missing_ids-push}
use Rattle.epx_blockers.proofs.NodeBlockerLemmas.{IsNodeBlocker-push}
use Rattle.epx_blockers.proofs.blockers.list_blockers.Goals as goal

pub loop-index-preserved : goal.loop-index-preserved
loop-index-preserved c =
    let g = c.args.graph.now in
    let i = c.loop-index.index in
    let ids = c.missing-id-items.result.now in
    let alone = c.args.alone.now in
    let named = c.args.named.now in
    let bs = c.loop-index.blockers.items in
    let none : Id = record { replica = 0; number = 0 } in
    let b : Blocker =
    record { id = get_or ids i none; alone = get_or alone i 0; named = get_or named i 0 } in
    let within : i < length ids =
    omega (arith, c.loop-index-test.true, c.loop-index.auto.index-end) in
    let l : i < length (missing_ids g) =
    omega (arith, within, ap length c.missing-id-items.ensures) in
    let id : b.id ≡ get_or (missing_ids g) i b.id =
    get_or_default ids i none b.id within
    ∙ ap (λ (xs : List Id). get_or xs i b.id) c.missing-id-items.ensures in
    let here = IsNodeBlocker-from_counts g i alone named b c.requires.alone c.requires.named l id
    refl refl in
    let items = c.in_ok-push.ensures.items in
    record {
      ids = ap (map (λ (b : Blocker). b.id)) items
          ∙ missing_ids-push g bs b i l id c.loop-index.invariant.ids;
      each = subst (λ (cs : List Blocker). (x : Blocker) → Contains cs x → IsNodeBlocker g x)
          (sym items) (IsNodeBlocker-push g bs b c.loop-index.invariant.each here);
    }
