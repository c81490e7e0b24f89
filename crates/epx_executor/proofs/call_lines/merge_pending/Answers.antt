use Rattle.std.proofs.Common.{List, map, subst, arith}
use Rattle.epx_types.proofs.Common.{length-map, Instance}
use Rattle.epx_committed.specs.MergedLines.{IsMerged, IsMergeFault}
use Rattle.epx_executor.specs.CallLines.{call_lines}
use Rattle.epx_executor.proofs.PendingMapLemmas.{IsMerged-is_pending, IsMergeFault-only_memory}
use Rattle.epx_executor.proofs.call_lines.merge_pending.Goals as goal

pub returns-in-Ok : goal.returns-in-Ok
returns-in-Ok g c =
    let part : List Instance = map (λ e. e.now) c.args.entries.now in
    IsMerged-is_pending c.new.result part c.requires.rising c.in-Ok.merged
    (subst (λ (came : List Instance). IsMerged (call_lines c.new.result part came) c.in-Ok.merged)
    c.new-2.ensures.items (c.in-Ok.ensures part c.in_ok-lines.ensures))

pub unreachable-requires : goal.unreachable-requires
unreachable-requires g c =
    let part : List Instance = map (λ e. e.now) c.args.entries.now in
    let fault = c.in-Err.fault in
    c.in_default.not-Memory (IsMergeFault-only_memory c.new.result part c.requires.rising
    (omega (arith, c.requires.few, length-map c.args.entries.now (λ e. e.now))) fault
    (subst (λ (came : List Instance). IsMergeFault (call_lines c.new.result part came) fault)
    c.new-2.ensures.items (c.in-Err.ensures part c.in_ok-lines.ensures)))
