use Rattle.std.proofs.Common.{◌∙◌, inl, inr, Err, Some, ap, refl, rules}
use Rattle.epx_types.proofs.Common.{MatchResult-weaker}
use Rattle.epx_program.specs.Calls.{paths_of}
use Rattle.epx_program.specs.FollowEndings.{FollowsToEnds, StopsBefore, state_of}
use Rattle.epx_program.specs.FollowStops.{state_number}
use Rattle.epx_program.specs.Inputs.{text_relation}
use Rattle.epx_program.specs.Saving.{save_relation}
use Rattle.epx_program.specs.inner.Follows.{RefusesStart, StartsAt}
use Rattle.epx_program.proofs.FollowEndingLemmas.{MatchResult-err, FollowsToEnds-from_follows}
use Rattle.epx_program.proofs.FollowEndingLemmas.{stops_at-if_refused, stops_at-from_stops}
use Rattle.epx_program.proofs.OutputLemmas.{Keeps-contents}
use Rattle.epx_program.proofs.StartLemmas.{RefusesStart-not_write}
use Rattle.epx_program.proofs.do_follow.follow_and_save.Goals as goal

pub returns-in_err-start-clause-ends : goal.returns-in_err-start-clause-ends
returns-in_err-start-clause-ends g c =
    let opening = g.O.Opener.model in
    let D = g.O.Opened.Source.model in
    let E = g.I.Source.model in
    let opener = c.args.opener.now in
    let options = c.args.options.now in
    let paths = paths_of c.args.paths.now in
    let contents = g.W.Sink.model.contents in
    let output = c.args.output.now in
    let fault = c.in_err-start.field-0.0 in
    let refused : RefusesStart opening D opener E (state_of options) (state_number paths)
    (Some c.args.input) fault =
    rw c.count_logs-log.ensures at c.in_err-start.ensures.refused in
    let before : StopsBefore (text_relation opening D opener E c.args.input)
    (save_relation g.V.Saver.model c.args.saver.now c.args.saver.now) options paths fault
    (g.W.Sink.model.has_failed output) (contents output) (contents output) = record {
      output = λ write. absurd (RefusesStart-not_write opening D opener E (state_of options)
          (state_number paths) (Some c.args.input) fault refused write);
      unused = refl;
      stops = inr (stops_at-if_refused opening D opener E c.args.input options paths
          (contents output) (contents output) fault refused
          (Keeps-contents contents output output refl));
    } in
    MatchResult-err _ _ c.from_residual.result fault (search rules) (inl before)

pub returns-in_err-last-clause-ends : goal.returns-in_err-last-clause-ends
returns-in_err-last-clause-ends g c =
    let opening = g.O.Opener.model in
    let D = g.O.Opened.Source.model in
    let E = g.I.Source.model in
    let opener = c.args.opener.now in
    let options = c.args.options.now in
    let paths = paths_of c.args.paths.now in
    let contents = g.W.Sink.model.contents in
    let was = contents c.args.output.now in
    let now = contents c.follow_paths.new.output in
    let left = c.start_of.new.input in
    let start = c.in_ok-start.start in
    let fault = c.in_err-last.field-0.0 in
    let starts : StartsAt opening D opener E (state_of options) (state_number paths)
    (Some c.args.input) left start =
    rw c.count_logs-log.ensures at c.in_ok-start.ensures.started in
    let before : StopsBefore (text_relation opening D opener E c.args.input)
    (save_relation g.V.Saver.model c.args.saver.now c.args.saver.now) options paths fault
    (g.W.Sink.model.has_failed c.follow_paths.new.output) was now = record {
      output = λ write. c.follow_paths.ensures.failed.0 (c.in_err-last.was ∙ ap Err write);
      unused = refl;
      stops = elim c.in_err-last.ensures.stopped [
        | inl memory ↦ inl memory
        | inr stops ↦ inr (stops_at-from_stops opening D opener E c.args.input options paths was now
            left start fault starts stops)
      ];
    } in
    MatchResult-err _ _ c.from_residual-in_err-last.result fault (search rules) (inl before)

pub returns-clause-ends : goal.returns-clause-ends
returns-clause-ends g c =
    let opening = g.O.Opener.model in
    let D = g.O.Opened.Source.model in
    let E = g.I.Source.model in
    let opener = c.args.opener.now in
    let options = c.args.options.now in
    let paths = paths_of c.args.paths.now in
    let contents = g.W.Sink.model.contents in
    let was = contents c.args.output.now in
    let now = contents c.follow_paths.new.output in
    let left = c.start_of.new.input in
    let start = c.in_ok-start.start in
    let last = c.in_ok-last.last in
    let starts : StartsAt opening D opener E (state_of options) (state_number paths)
    (Some c.args.input) left start =
    rw c.count_logs-log.ensures at c.in_ok-start.ensures.started in
    let ends : FollowsToEnds (text_relation opening D opener E c.args.input) options paths last was
    now = FollowsToEnds-from_follows opening D opener E c.args.input options paths was now left
    start last
    starts c.in_ok-last.ensures.followed in
    MatchResult-weaker c.save_state-saved.result c.save_state-saved.ensures
    (λ _ saved. (last, ends, saved)) (λ fault lost. inr (last, ends, lost))
