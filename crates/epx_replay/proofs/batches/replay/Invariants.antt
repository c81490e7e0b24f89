use Rattle.std.proofs.Common.{◌≡◌, ◌-◌, ◌<◌, ◌≤◌, drop, length, map, slice_range}
use Rattle.epx_types.proofs.Common.{commands_in}
use Rattle.epx_replay.proofs.ReplayLemmas.{IsReplaying}
use Rattle.epx_replay.proofs.batches.replay.Given as goal

abbrev pub invariant-loop-end : goal.invariant-loop-end
invariant-loop-end g l = (l.start ≤ l.end) × (l.end ≤ l.next) × (l.next ≤ length l.ids)
    × (l.end < length l.ids → l.end < l.next)
    × (map (λ c. c.ops.now) l.step.commands.items
    ≡ commands_in l.merged (slice_range l.ids l.end l.next))
    × IsReplaying l.fn.text.items l.ids (commands_in l.merged l.ids) l.fn.store l.step.text.items
    (slice_range l.ids l.start l.end) l.step.replies.items l.step.store (drop l.end l.ids)
    (drop l.end (commands_in l.merged l.ids))

abbrev pub decreases-loop-end : goal.decreases-loop-end
decreases-loop-end g l = length l.ids - l.end
