use Rattle.std.proofs.Common.{◌≡◌, ◌≤◌, ◌<◌, ◌∙◌, drop, length, slice_range, sym, subst, rules}
use Rattle.epx_types.proofs.Common.{length-map, drop_split, instance_of, ops_or_empty, commands_in}
use Rattle.epx_replay.specs.between.Replays.{Executes}
use Rattle.epx_replay.proofs.ReplayLemmas.{length-same_range, map-range, IsReplaying-next}
use Rattle.epx_replay.proofs.batches.replay.Goals as goal

pub loop-end-preserved : goal.loop-end-preserved
loop-end-preserved g c =
    let h = c.loop-end.invariant in
    let m = c.args.merged.now in
    let ids = c.args.ids.now in
    let end = c.loop-end.end in
    let next = c.loop-end.next in
    let after = c.min-after.result in
    let commands = commands_in m ids in
    let order : next ≤ after = search rules in
    let within : after ≤ length ids = search rules in
    let on : next < length ids → next < after = λ l. search rules in
    let same : length ids ≡ length commands =
    sym (length-map ids (λ x. ops_or_empty (instance_of m x)))
    in
    let found = h.4 ∙ map-range (λ x. ops_or_empty (instance_of m x)) ids end next in
    let ran = subst (λ ops. Executes ops c.loop-end.step.store c.in_ok-step.step.store
    c.in_ok-step.step.replies.items) found c.in_ok-step.ensures.ran in (
      h.1,
      order,
      within,
      on,
      c.in_ok-step.ensures.found,
      IsReplaying-next _ _ _ _ _ _ _ _ (slice_range ids end next) (drop next ids) _
          (slice_range commands end next) (drop next commands) _ _ _ _
          (length-same_range ids commands end next same) (drop_split ids end next h.1)
          (drop_split commands end next h.1) h.5 c.in_ok-step.ensures.text ran.0 ran.1,
    )
