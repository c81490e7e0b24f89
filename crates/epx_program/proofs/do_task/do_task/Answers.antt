use Rattle.std.proofs.Common.{◌≡◌, ◌∙◌, ◌∷◌, [], ap, map, refl, rules, subst, Some}
use Rattle.epx_types.proofs.Common.{string_bytes}
use Rattle.epx_tool.specs.Findings.{found_of}
use Rattle.epx_program.proofs.FailedInputLemmas.{HasFailedRead-alone, HasFailedRead-input}
use Rattle.epx_program.proofs.SourceListLemmas.{AreSourcesAt-only_input}
use Rattle.epx_program.proofs.TextsReadLemmas.{IfOk-answer_read, AddsPart-read, AreTextsAt-input}
use Rattle.epx_program.proofs.TextsReadLemmas.{AreTextsAt-delivered}
use Rattle.epx_program.specs.Inputs.{OneHasFailedRead}
use Rattle.epx_program.specs.SourcesAt.{AreSourcesAt}
use Rattle.epx_program.proofs.do_task.do_task.Goals as goal

pub returns-clause-answered : goal.returns-clause-answered
returns-clause-answered g c =
    let at = c.in-Ok.ensures.at in
    let are : AreSourcesAt c.args.opener.now (Some c.args.input) at.0
    (map string_bytes c.in-Some.paths.items) c.deref_mut-2.result.now =
    rw (c.deref_mut-2.ensures.value, ← c.deref.ensures.value) at.1 in
    rw c.in-Some.is (IfOk-answer_read c.args.task _ _
    (AreTextsAt-delivered g.O.Opener.model g.O.Opened.Source.model c.args.opener.now
    g.I.Source.model
    c.args.input at.0 _ _ _ are) (found_of c.write_answer-done.result)
    c.write_answer-done.ensures.answered)

pub returns-clause-part : goal.returns-clause-part
returns-clause-part g c =
    let at = c.in-Ok.ensures.at in
    let are : AreSourcesAt c.args.opener.now (Some c.args.input) at.0
    (map string_bytes c.in-Some.paths.items) c.deref_mut-2.result.now =
    rw (c.deref_mut-2.ensures.value, ← c.deref.ensures.value) at.1 in
    rw c.in-Some.is (λ failed. AddsPart-read c.args.task _ _
    (AreTextsAt-delivered g.O.Opener.model g.O.Opened.Source.model c.args.opener.now
    g.I.Source.model
    c.args.input at.0 _ _ _ are) (c.write_answer-done.ensures.part failed))

pub returns-in_default-clause-answered : goal.returns-in_default-clause-answered
returns-in_default-clause-answered g c =
    let only : c.deref_mut.result.now ≡ c.args.input ∷ [] = search rules in
    rw c.in_default.is (IfOk-answer_read c.args.task _ _
    (AreTextsAt-input g.O.Opener.model g.O.Opened.Source.model c.args.opener.now g.I.Source.model
    c.args.input _ _ only)
    (found_of c.write_answer.result) c.write_answer.ensures.answered)

pub returns-in_default-clause-part : goal.returns-in_default-clause-part
returns-in_default-clause-part g c =
    let only : c.deref_mut.result.now ≡ c.args.input ∷ [] = search rules in
    rw c.in_default.is (λ failed. AddsPart-read c.args.task _ _
    (AreTextsAt-input g.O.Opener.model g.O.Opened.Source.model c.args.opener.now g.I.Source.model
    c.args.input _ _ only)
    (c.write_answer.ensures.part failed))

pub returns-clause-input : goal.returns-clause-input
returns-clause-input g c = rw c.in-Some.is (λ bytes hyphen known.
    let at = c.in-Ok.ensures.at in
    let is = AreSourcesAt-only_input c.args.opener.now c.args.input at.0 _ _
    (ap (map string_bytes) c.deref.ensures.value ∙ hyphen) at.1 in
    c.write_answer-done.ensures.known (bytes ∷ [])
    (rw (c.deref_mut-2.ensures.value, is, known) refl))

pub returns-clause-unread : goal.returns-clause-unread
returns-clause-unread g c = rw c.in-Some.is (λ log failed hyphen.
    let at = c.in-Ok.ensures.at in
    let is = AreSourcesAt-only_input c.args.opener.now c.args.input at.0 _ _
    (ap (map string_bytes) c.deref.ensures.value ∙ hyphen) at.1 in
    let one = subst (OneHasFailedRead _) (c.deref_mut-2.ensures.value ∙ is)
    (c.write_answer-done.ensures.unread log failed) in
    HasFailedRead-input _ g.I.Source.model _ c.args.input (HasFailedRead-alone _ _ one))

pub returns-in_default-sources_at-clause-unread : goal.returns-in_default-sources_at-clause-unread
returns-in_default-sources_at-clause-unread g c log unread = absurd (cc unread)
