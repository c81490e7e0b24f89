use Rattle.std.proofs.Common.{◌≡◌, ◌∙◌, ◌-◌, List, [], None, map, max, get_or, sym}
use Rattle.std.proofs.Common.{ap, arith, length, option_and_then}
use Rattle.std.proofs.lemmas.List.{get_or-map}
use Rattle.std.proofs.lemmas.Option.{slice_get-get_or}
use Rattle.epx_types.proofs.Common.{length-map}
use Rattle.epx_types.specs.declared.command.Command.{Command}
use Rattle.epx_types.specs.declared.op.Op.{Op}
use Rattle.epx_linear.specs.inner.Spans.{rank_at}
use Rattle.epx_linear.proofs.RankLemmas.{own_rank}
use Rattle.epx_linear.proofs.PassLemmas.{HaveFound-push, AreFoundLate-at_end}
use Rattle.epx_linear.proofs.late_calls.find_late.Goals as goal

pub note-requires-clause-collected : goal.note-requires-clause-collected
note-requires-clause-collected c =
    let is = c.loop-index.invariant in
    let item = c.index-commands-index.result in
    let command : Command = get_or c.args.commands.now c.loop-index.index item in
    (is.done, command.ops.now, (c.in_ok-above.ensures is.done is.table_of).1)

pub loop-index-preserved : goal.loop-index-preserved
loop-index-preserved c =
    let commands = map (λ (c : Command). c.ops.now) c.args.commands.now in
    let places = c.args.places.now in
    let spans = c.args.spans.now.spans.items in
    let ranks = c.args.spans.now.ranks.items in
    let i = c.loop-index.index in
    let item = c.index-commands-index.result in
    let command : Command = get_or c.args.commands.now i item in
    let is = c.loop-index.invariant in
    let collected = c.in_ok-above.ensures is.done is.table_of in
    let at = sym {A = List Op} (get_or-map (λ (c : Command). c.ops.now) c.args.commands.now i
    item [] c.loop-index-test.true) in
    let is_own : c.rank_at-own.result ≡ own_rank ranks places i =
    c.rank_at-own.ensures.rank
    ∙ ap (λ o. rank_at ranks (option_and_then (λ p. p) o))
    (sym (slice_get-get_or places i None (omega (
      arith,
      c.loop-index-test.true,
      c.requires.whole,
    )))) in
    let is_m : c.max-latest.result ≡ max c.rank_at-own.result (c.in_ok-above.above - 1) =
    omega (arith, c.max-latest.ensures, c.saturating_sub.ensures) in
    HaveFound-push commands places spans ranks i c.loop-index.table c.loop-index.found.items is
    command.ops.now at c.in_ok-above.above c.rank_at-own.result c.max-latest.result collected.0
    is_own is_m c.note.new.self c.id_if_late.result c.push.new.self.items
    (c.note.ensures is.done command.ops.now collected.1) c.id_if_late.ensures
    c.in_ok-push.ensures.items

pub returns : goal.returns
returns c =
    let commands = map (λ (c : Command). c.ops.now) c.args.commands.now in
    let i = c.loop-index.index in
    let all : i ≡ length commands = omega (
      arith,
      length-map c.args.commands.now (λ (c : Command). c.ops.now),
      c.loop-index-test.false,
      c.loop-index.auto.index-end,
    ) in
    AreFoundLate-at_end commands c.args.places.now c.args.spans.now.spans.items
    c.args.spans.now.ranks.items i c.loop-index.table c.loop-index.found.items
    c.loop-index.invariant all c.args.history.now c.requires.history c.requires.spans
    c.requires.ranks
