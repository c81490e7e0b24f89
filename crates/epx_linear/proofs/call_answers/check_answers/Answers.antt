use Rattle.std.proofs.Common.{◌≡◌, ◌∙◌, Some, length, map, position, slice_get, sym, ap, arith}
use Rattle.std.proofs.lemmas.Option.{slice_get-get_or}
use Rattle.epx_types.proofs.Common.{length_push}
use Rattle.epx_types.specs.declared.command.Command.{Command}
use Rattle.epx_linear.proofs.AnswerLemmas.{AreChecked-push}
use Rattle.epx_linear.proofs.SpanLemmas.{same_id}
use Rattle.epx_linear.proofs.call_answers.check_answers.Goals as goal

pub loop-call-preserved : goal.loop-call-preserved
loop-call-preserved c =
    let ids = map (λ (c : Command). c.id) c.args.commands.now in
    let h = c.args.history.now in
    let found = c.loop-call.found.items in
    let call = c.call-item.result in
    let o = c.check_answer.result in
    let place = c.get_index_of.ensures.index
    ∙ ap (position (same_id call.id)) c.in_ok-ids.ensures in
    let here : slice_get h (length found) ≡ Some call =
    ap (slice_get h) c.loop-call.invariant.0
    ∙ slice_get-get_or h c.loop-call.call-index call c.loop-call-test.true
    ∙ ap Some (sym c.call-item.is) in (
      ap length c.in_ok-push.ensures.items
          ∙ omega (arith, length_push found o, c.loop-call.invariant.0),
      AreChecked-push ids c.args.replies.now h found c.push.new.self.items call o here
          (c.check_answer.ensures ids c.requires.once place) c.in_ok-push.ensures.items
          c.loop-call.invariant.1,
    )
