-- Answers compared with replies.
use Rattle.std.proofs.Common.{◌≡◌, ◌≢◌, inl, inr, ℕ, List, [], ◌∷◌}
use Rattle.std.proofs.Common.{◌++◌, length, get_or, Option, Some, None, slice_get, Contains}
use Rattle.std.proofs.Common.{AllPairs, position, ℤ, refl, sym, ap, subst, ◌∙◌, arith}
use Rattle.std.specs.Bool.{Decides}
use Rattle.std.specs.Option.{option_eq}
use Rattle.std.specs.Ordering.{int_eq}
use Rattle.std.proofs.lemmas.Bool.Decides.{Decides-int_eq}
use Rattle.std.proofs.lemmas.List.Quantifiers.{position-Some}
use Rattle.std.proofs.lemmas.Option.{slice_get-get_or}
use Rattle.std.proofs.lemmas.Slice.Eq.{slice_eq-Decides}
use Rattle.epx_types.proofs.Common.{slice_get-from_Contains, id_eq-Decides}
use Rattle.epx_types.specs.declared.id.Id.{Id}
use Rattle.epx_types.specs.declared.reply.Reply.{Reply}
use Rattle.epx_types.specs.declared.reply.Reply.TheVariants.{Values, Abort}
use Rattle.epx_types.specs.contracts.reply.ReplyPartialEq.TheImpl as reply_eq
use Rattle.epx_linear.specs.declared.client_call.ClientCall.{ClientCall}
use Rattle.epx_linear.specs.CallAnswers.{IsAnswerCheck}
use Rattle.epx_linear.specs.declared.call_answers.AnswerCheck.{AnswerCheck}
use Rattle.epx_linear.proofs.LatestLemmas.{slice_get-push_cases}
use Rattle.epx_linear.proofs.RankLemmas.{position-slice_get}
use Rattle.epx_linear.proofs.SpanLemmas.{same_id}

options_decide : (a b : Option ℤ) → Decides (option_eq int_eq a b) (a ≡ b)
options_decide None None = (λ e. refl, λ e. refl)
options_decide None (Some y) = (λ e. absurd (cc e), λ e. absurd (cc e))
options_decide (Some x) None = (λ e. absurd (cc e), λ e. absurd (cc e))
options_decide (Some x) (Some y) =
    (λ e. ap Some ((Decides-int_eq x y).0 e), λ e. (Decides-int_eq x y).1 (cc e))

pub Decides-reply_eq : (a b : Reply) → Decides (reply_eq.eq-value.it a b) (a ≡ b)
Decides-reply_eq (Values v) (Values w) =
    let lists = slice_eq-Decides options_decide v w (reply_eq.eq-value.it (Values v) (Values w))
    refl in
    (λ e. ap Values (lists.0 e), λ e. lists.1 (cc e))
Decides-reply_eq (Values v) (Abort j) = (λ e. absurd (cc e), λ e. absurd (cc e))
Decides-reply_eq (Abort i) (Values w) = (λ e. absurd (cc e), λ e. absurd (cc e))
Decides-reply_eq (Abort i) (Abort j) = (λ e. grind arith, λ e. grind arith)

module _ (ids : List Id) (once : AllPairs (λ x y. x ≢ y) ids) (replies : List Reply)
    (c : ClientCall) where
  pub Contains-call_absent : None ≡ position (same_id c.id) ids → ¬ Contains ids c.id
  Contains-call_absent none h =
      let at = slice_get-from_Contains ids c.id h in
      let found = position-slice_get ids once c.id at.0 at.1 in
      let both : None ≡ Some at.0 = none ∙ found in
      absurd (cc both)

  pub slice_get-call_present : (p : ℕ) → Some p ≡ position (same_id c.id) ids
      → slice_get ids p ≡ Some c.id
  slice_get-call_present p some =
      let found = position-Some (same_id c.id) ids p c.id (sym some) in
      let y : Id = get_or ids p c.id in
      let same : c.id ≡ y = (id_eq-Decides c.id y).0 found.1 in
      slice_get-get_or ids p c.id found.0 ∙ ap Some (sym same)

  pub position-is_unique : (p i : ℕ) → Some p ≡ position (same_id c.id) ids
      → slice_get ids i ≡ Some c.id → p ≡ i
  position-is_unique p i some at =
      let both : Some p ≡ Some i = some ∙ position-slice_get ids once c.id i at in
      cc both

-- ---- the calls so far

-- what is found of each of the first calls of a history
abbrev pub AreChecked : List Id → List Reply → List ClientCall → List AnswerCheck → Type 0
AreChecked ids replies h found = (k : ℕ) (c : ClientCall) (o : AnswerCheck)
    → slice_get h k ≡ Some c → slice_get found k ≡ Some o → IsAnswerCheck ids replies c o

pub AreChecked-push : (ids : List Id) (replies : List Reply) (h : List ClientCall)
    (found found' : List AnswerCheck) (c : ClientCall) (o : AnswerCheck)
    → slice_get h (length found) ≡ Some c → IsAnswerCheck ids replies c o
    → found' ≡ found ++ o ∷ [] → AreChecked ids replies h found
    → AreChecked ids replies h found'
AreChecked-push ids replies h found found' c o here is more before k d q at to =
    let to' : slice_get (found ++ o ∷ []) k ≡ Some q =
    ap (λ (l : List AnswerCheck). slice_get l k) (sym more) ∙ to in
    elim (slice_get-push_cases found o k q to') [
      | inl old ↦ before k d q at old
      | inr (place, same) ↦
          let one : Some c ≡ Some d = sym here ∙ ap (slice_get h) place ∙ at in
          let call : c ≡ d = cc one in
          subst (IsAnswerCheck ids replies d) same
          (subst (λ (e : ClientCall). IsAnswerCheck ids replies e o) call is)
    ]
