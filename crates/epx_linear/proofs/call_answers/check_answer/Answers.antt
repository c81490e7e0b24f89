use Rattle.std.proofs.Common.{◌≡◌, ◌<◌, ◌∙◌, Some, IfSome, length, slice_get, sym, ap, subst}
use Rattle.std.proofs.lemmas.Option.{slice_get-get_or}
use Rattle.std.proofs.lemmas.Bool.Decides.{not_from_Decides}
use Rattle.epx_types.proofs.Common.{Contains-slice_get}
use Rattle.epx_linear.proofs.AnswerLemmas.{Contains-call_absent, slice_get-call_present}
use Rattle.epx_linear.proofs.AnswerLemmas.{position-is_unique, Decides-reply_eq}
use Rattle.epx_linear.proofs.call_answers.check_answer.Goals as goal

pub returns-in-Some-returned : goal.returns-in-Some-returned
returns-in-Some-returned c ids once at = (
  (c.in-Some-returned.field-0, c.in-Some-returned.is),
  Contains-call_absent ids once c.args.replies.now c.args.call.now (sym c.in_default.is ∙ at),
)

pub returns-in-None : goal.returns-in-None
returns-in-None c ids once at = (
  λ t e. absurd (cc (c.in-None.is, e)),
  λ r i e here. absurd
      (Contains-call_absent ids once c.args.replies.now c.args.call.now (sym c.in_default.is ∙ at)
      (Contains-slice_get ids i c.args.call.now.id here)),
)

pub returns-then-eq : goal.returns-then-eq
returns-then-eq c ids once at =
    let call = c.args.call.now in
    let replies = c.args.replies.now in
    let p = c.in-Some.position in
    let some = sym c.in-Some.is ∙ at in
    let within : p < length replies =
    subst (λ o. IfSome o (λ q. q < length replies)) c.in-Some.is c.requires in
    let reply = c.index-replies-position.result in
    let read : slice_get replies p ≡ Some reply =
    slice_get-get_or replies p reply within ∙ ap Some (sym c.index-replies-position.is) in
    let answer = c.in-Some-answer.answer in
    let same : answer ≡ reply =
    (Decides-reply_eq answer reply).0 (sym c.eq.ensures ∙ c.if-eq.true) in (
      λ t e. Contains-slice_get ids p call.id (slice_get-call_present ids once replies call p some),
      λ r i e here.
          let is_answer : Some answer ≡ Some r = sym c.in-Some-answer.is ∙ e in
          ap (slice_get replies) (sym (position-is_unique ids once replies call p i some here))
          ∙ read
          ∙ ap Some (sym same) ∙ is_answer,
    )

pub returns-else-eq : goal.returns-else-eq
returns-else-eq c ids once at =
    let call = c.args.call.now in
    let replies = c.args.replies.now in
    let p = c.in-Some.position in
    let some = sym c.in-Some.is ∙ at in
    let within : p < length replies =
    subst (λ o. IfSome o (λ q. q < length replies)) c.in-Some.is c.requires in
    let reply = c.index-replies-position.result in
    let read : slice_get replies p ≡ Some reply =
    slice_get-get_or replies p reply within ∙ ap Some (sym c.index-replies-position.is) in
    let answer = c.in-Some-answer.answer in (
      answer,
      reply,
      p,
      c.in-Some-answer.is,
      slice_get-call_present ids once replies call p some,
      read,
      not_from_Decides _ (Decides-reply_eq answer reply) (sym c.eq.ensures ∙ c.if-eq.false),
    )

pub returns-in-None-answer : goal.returns-in-None-answer
returns-in-None-answer c ids once at =
    let call = c.args.call.now in
    let p = c.in-Some.position in
    let some = sym c.in-Some.is ∙ at in (
      λ t e. Contains-slice_get ids p call.id
          (slice_get-call_present ids once c.args.replies.now call p some),
      λ r i e here. absurd (cc (c.in-None-answer.is, e)),
    )
