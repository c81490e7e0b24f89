use Rattle.std.proofs.Common.{List, map, ap, ◌∙◌}
use Rattle.epx_types.proofs.Common.{MatchResult-weaker, Instance}
use Rattle.epx_executor.specs.CallLines.{lines_from}
use Rattle.epx_executor.proofs.CallBatchLemmas.{IsMergeFault-from_part, IsCallBatch-from_part}
use Rattle.epx_executor.proofs.CallBatchLemmas.{Contains-from_part}
use Rattle.epx_executor.proofs.batch.next_batch.Goals as goal

pub read_batch-requires-after_bounds : goal.read_batch-requires-after_bounds
read_batch-requires-after_bounds g c κs within =
    let part : List Instance = map (λ e. e.now) c.in_ok-part.part.items in (
      part,
      c.in_ok-old.ensures ∙ ap (λ es. lines_from 0 1 (map (λ e. e.now) es)) c.deref.ensures.value,
      λ e h. c.requires.left e
          (Contains-from_part c.args.choice.now c.args.pending.now part c.in_ok-part.ensures e h),
    )

pub returns : goal.returns
returns g c =
    let done = c.args.done.now in
    let pending = c.args.pending.now in
    let came = c.args.came.items in
    let choice = c.args.choice.now in
    let part : List Instance = map (λ e. e.now) c.in_ok-part.part.items in
    let is = c.in_ok-part.ensures in
    let lines = c.in_ok-old.ensures
    ∙ ap (λ es. lines_from 0 1 (map (λ e. e.now) es)) c.deref.ensures.value in
    MatchResult-weaker c.read_batch.result (c.read_batch.ensures part lines)
    (λ b h. IsCallBatch-from_part choice done pending came part b.entries.items b.order
    b.positions.items
    b.waiters.items b.done c.requires.rising c.requires.choice is h.0 h.1)
    (IsMergeFault-from_part choice done pending came part c.requires.rising c.requires.choice is)
