-- The checks find nothing exactly where a history is linear.
use Rattle.std.proofs.Common.{◌≡◌, ◌<◌, ℕ, List, [], ◌∷◌, length, get_or, Option, Some, None, All}
use Rattle.std.proofs.Common.{slice_get, Contains, refl, sym, ap, ◌∙◌, arith}
use Rattle.std.proofs.lemmas.Option.{slice_get-get_or}
use Rattle.epx_types.proofs.Common.{All-from_get_or, slice_get_within, length-map}
use Rattle.epx_types.proofs.Common.{slice_get-from_Contains, Contains-slice_get}
use Rattle.epx_types.specs.declared.id.Id.{Id}
use Rattle.epx_types.specs.declared.op.Op.{Op}
use Rattle.epx_types.specs.declared.reply.Reply.{Reply}
use Rattle.epx_linear.specs.declared.client_call.ClientCall.{ClientCall}
use Rattle.epx_linear.specs.declared.call_answers.AnswerCheck.{AnswerCheck}
use Rattle.epx_linear.specs.declared.call_answers.AnswerCheck.TheVariants.{Same, Lost, Other}
use Rattle.epx_linear.specs.ClientCalls.{call_of, calls_in}
use Rattle.epx_linear.specs.CallAnswers.{IsAnswerCheck, AreAnswerChecks}
use Rattle.epx_linear.specs.LateCalls.{AreFoundLate}
use Rattle.epx_linear.specs.RealTime.{IsLinear}
use Rattle.epx_linear.proofs.FoundLemmas.{HasRealTimeOrder-none_found, All-none_found}

call_at : (h : List ClientCall) (k : ℕ) → k < length h
    → (c : ClientCall) × (slice_get h k ≡ Some c)
call_at [] k low = absurd (omega (arith, low))
call_at (d ∷ h) k low = (get_or (d ∷ h) k d, slice_get-get_or (d ∷ h) k d low)

module _ (ids : List Id) (commands : List (List Op)) (replies : List Reply)
    (h : List ClientCall) (checks : List AnswerCheck) (late : List (Option Id))
    (whole : length ids ≡ length commands) (are : AreAnswerChecks ids replies h checks)
    (found : AreFoundLate commands (calls_in h ids) late) where
  pub IsLinear-from_checks : All (λ o. o ≡ Same) checks × All (λ o. o ≡ None) late
      → IsLinear ids commands replies h
  IsLinear-from_checks (same, none) = record {
    executed = λ a t has returned. (checked a has).0 t returned;
    answers = λ a r i has answer here. (checked a has).1 r i answer here;
    real_time = HasRealTimeOrder-none_found commands (calls_in h ids) late
        (length-map ids (call_of h) ∙ whole) found none;
  } where
    checked : (a : ClientCall) → Contains h a → IsAnswerCheck ids replies a Same
    checked a has =
        let at = slice_get-from_Contains h a has in
        let low : at.0 < length checks =
        omega (arith, are.whole, slice_get_within h at.0 a at.1) in
        are.each at.0 a Same at.1
        (slice_get-get_or checks at.0 Same low ∙ ap Some (same at.0 Same low))

  pub All-from_IsLinear : IsLinear ids commands replies h
      → All (λ o. o ≡ Same) checks × All (λ o. o ≡ None) late
  All-from_IsLinear linear = (
    All-from_get_or (λ o. o ≡ Same) checks Same (λ k low.
        let c = call_at h k (omega (arith, low, are.whole)) in
        by c.0 (Contains-slice_get h k c.0 c.1) (get_or checks k Same)
        (are.each k c.0 (get_or checks k Same) c.1 (slice_get-get_or checks k Same low))),
    All-none_found commands (calls_in h ids) late found linear.real_time,
  ) where
    by : (c : ClientCall) → Contains h c → (o : AnswerCheck) → IsAnswerCheck ids replies c o
        → o ≡ Same
    by c has Same is = refl
    by c has Lost is = absurd (is.1 (linear.executed c is.0.0 has is.0.1))
    by c has Other (answer, reply, i, given, here, replied, differ) =
        let both : Some answer ≡ Some reply =
        sym (linear.answers c answer i has given here) ∙ replied in
        absurd (differ (cc both))
