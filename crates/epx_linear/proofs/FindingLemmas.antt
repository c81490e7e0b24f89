-- Nothing is found exactly where a history is linear.
use Rattle.std.proofs.Common.{◌≡◌, ◌⊎◌, ◌↔◌, ◌&&◌, inl, inr, ℕ, zero, suc, ◌<◌, Bool, true, false}
use Rattle.std.proofs.Common.{not, List}
use Rattle.std.proofs.Common.{[], ◌∷◌, ◌++◌, length, map, flat_map, zip, filter, get_or, Option}
use Rattle.std.proofs.Common.{Some, None, is_some, All, Contains, slice_get, slice_index, Less}
use Rattle.std.proofs.Common.{Equal}
use Rattle.std.proofs.Common.{Greater, append-nil, append_assoc, if◌then◌else◌, fold, refl, sym, ap}
use Rattle.std.proofs.Common.{ap₂, subst, ◌∙◌, arith}
use Rattle.std.specs.BTreeSet.{insert_key}
use Rattle.json.specs.Print.{escape_byte}
use Rattle.epx_types.proofs.Common.{All-cons, All-nil, All-head, All-tail, cases_Bool, Contains-nil}
use Rattle.epx_types.proofs.Common.{Contains-cons, Contains-head, Contains-map}
use Rattle.epx_types.proofs.Common.{Contains-filter, id_cmp, is_among}
use Rattle.epx_types.proofs.Common.{is_among-cases, length-map, match_ordering, slice_get_within}
use Rattle.epx_types.proofs.Common.{slice_get-get_or}
use Rattle.epx_types.specs.declared.id.Id.{Id}
use Rattle.epx_types.specs.declared.op.Op.{Op}
use Rattle.epx_types.specs.declared.reply.Reply.{Reply}
use Rattle.epx_lines.specs.DependencyList.{rising_ids}
use Rattle.epx_verify.specs.Differences.{same_reply}
use Rattle.epx_verify.proofs.DifferenceLemmas.{append-both_nil, Decides-same_reply}
use Rattle.epx_linear.specs.declared.client_call.ClientCall.{ClientCall}
use Rattle.epx_linear.specs.ClientCalls.{IsHistory, call_of, calls_in}
use Rattle.epx_linear.specs.LateCalls.{AreFoundLate}
use Rattle.epx_linear.specs.RealTime.{IsLinear}
use Rattle.epx_linear.specs.LinearTexts.{linear_line, other_reply_line, lost_line, late_line}
use Rattle.epx_linear.specs.LinearTexts.{is_other_answer, is_answered_otherwise, lateness}
use Rattle.epx_linear.specs.LinearTexts.{findings_at, is_lost}
use Rattle.epx_linear.specs.LinearTexts.{lost_ids, findings, or_linear, linear_text}
use Rattle.epx_linear.proofs.RankLemmas.{call_of-found, call_of-finds}
use Rattle.epx_linear.proofs.FoundLemmas.{HasRealTimeOrder-none_found, All-none_found}

-- ---- no line is empty, nor the line of linear histories

-- (their first bytes that differ)
other_reply_apart : (x : Id) (rest : List ℕ) → ¬ (other_reply_line x ++ rest ≡ linear_line)
unfolding escape_byte
other_reply_apart x rest e =
    let differ : 114 ≡ 108 = ap (λ (text : List ℕ). slice_index text 2) e in
    omega (arith, differ)

late_apart : (x y : Id) (rest : List ℕ) → ¬ (late_line x y ++ rest ≡ linear_line)
unfolding escape_byte
late_apart x y rest e =
    let differ : 97 ≡ 105 = ap (λ (text : List ℕ). slice_index text 3) e in
    omega (arith, differ)

lost_apart : (x : Id) (rest : List ℕ) → ¬ (lost_line x ++ rest ≡ linear_line)
unfolding escape_byte
lost_apart x rest e =
    let differ : 111 ≡ 105 = ap (λ (text : List ℕ). slice_index text 3) e in
    omega (arith, differ)

-- the text is empty, or does not begin the line of linear histories
abbrev IsApart : List ℕ → Type 0
IsApart text = (text ≡ []) ⊎ ((rest : List ℕ) → ¬ (text ++ rest ≡ linear_line))

apart_if : (b : Bool) (line : List ℕ) → ((rest : List ℕ) → ¬ (line ++ rest ≡ linear_line))
    → IsApart (if b then line else [])
apart_if true line apart = inr apart
apart_if false line apart = inl refl

lateness_apart : (x : Id) (o : Option Id) → IsApart (lateness x o)
lateness_apart x None = inl refl
lateness_apart x (Some y) = inr (late_apart x y)

apart_both : (text more : List ℕ) → IsApart text → IsApart more → IsApart (text ++ more)
apart_both text more (inl none) apart =
    subst (λ t. IsApart (t ++ more)) (sym none) apart
apart_both text more (inr some) apart =
    inr (λ rest e. some (more ++ rest) (sym (append_assoc text more rest) ∙ e))

apart_all : {X : Type 0} (f : X → List ℕ) → ((x : X) → IsApart (f x)) → (xs : List X)
    → IsApart (flat_map f xs)
apart_all f each [] = inl refl
apart_all f each (x ∷ xs) =
    apart_both (f x) (flat_map f xs) (each x) (apart_all f each xs)

findings_apart : (ids : List Id) (replies : List Reply) (h : List ClientCall)
    (late : List (Option Id)) → IsApart (findings ids replies h late)
findings_apart ids replies h late =
    apart_both (flat_map (findings_at h) (zip (zip ids replies) late))
    (flat_map lost_line (lost_ids ids h))
    (apart_all (findings_at h) each (zip (zip ids replies) late))
    (apart_all lost_line (λ x. inr (lost_apart x)) (lost_ids ids h))
  where
    each : (p : (Id × Reply) × Option Id) → IsApart (findings_at h p)
    each ((x, reply), o) = apart_both
        (if is_answered_otherwise (call_of h x) reply then other_reply_line x else [])
        (lateness x o)
        (apart_if (is_answered_otherwise (call_of h x) reply) (other_reply_line x)
        (other_reply_apart x)) (lateness_apart x o)

nothing_if_line : (text : List ℕ) → IsApart text → or_linear text ≡ linear_line → text ≡ []
nothing_if_line [] apart e = refl
nothing_if_line (b ∷ bs) (inl none) e = none
nothing_if_line (b ∷ bs) (inr some) e = absurd (some [] (append-nil (b ∷ bs) ∙ e))

-- ---- executed instances

right_if_nothing : (b : Bool) (x : Id) → (if b then other_reply_line x else []) ≡ [] → b ≡ false
right_if_nothing true x e = absurd (cc e)
right_if_nothing false x e = refl

none_if_nothing : (x : Id) (o : Option Id) → lateness x o ≡ [] → o ≡ None
none_if_nothing x None e = refl
none_if_nothing x (Some y) e = absurd (cc e)

-- nothing is wrong with the calls of the executed instances
record AllRight (h : List ClientCall) (ids : List Id) (replies : List Reply)
    (late : List (Option Id)) : Type 0 where
  answers : (i : ℕ) (x : Id) (r : Reply) → slice_get ids i ≡ Some x
      → slice_get replies i ≡ Some r → is_answered_otherwise (call_of h x) r ≡ false
  none_late : All (λ o. o ≡ None) late

module _ (h : List ClientCall) where
  right_if_no_finding : (ids : List Id) (replies : List Reply) (late : List (Option Id))
      → length replies ≡ length ids → length late ≡ length ids
      → flat_map (findings_at h) (zip (zip ids replies) late) ≡ [] → AllRight h ids replies late
  right_if_no_finding [] replies [] as_many whole e =
      record { answers = λ i x r at to. absurd (cc at); none_late = All-nil (λ o. o ≡ None) }
  right_if_no_finding [] replies (o ∷ late) as_many whole e = absurd (omega (arith, whole))
  right_if_no_finding (x ∷ ids) [] late as_many whole e = absurd (omega (arith, as_many))
  right_if_no_finding (x ∷ ids) (r ∷ replies) [] as_many whole e =
      absurd (omega (arith, whole))
  right_if_no_finding (x ∷ ids) (r ∷ replies) (o ∷ late) as_many whole e =
      let wrong = is_answered_otherwise (call_of h x) r in
      let parts = append-both_nil (findings_at h ((x, r), o))
      (flat_map (findings_at h) (zip (zip ids replies) late)) e in
      let here =
      append-both_nil (if wrong then other_reply_line x else []) (lateness x o) parts.0 in
      let rest = right_if_no_finding ids replies late (omega (arith, as_many))
      (omega (arith, whole)) parts.1 in
      record {
        answers = λ i y q at to. answer_at i y q (right_if_nothing wrong x here.0) rest.answers
            at to;
        none_late = All-cons (λ o. o ≡ None) o late (none_if_nothing x o here.1) rest.none_late;
      }
    where
      answer_at : (i : ℕ) (y : Id) (q : Reply)
          → is_answered_otherwise (call_of h x) r ≡ false
          → ((k : ℕ) (z : Id) (p : Reply) → slice_get ids k ≡ Some z
          → slice_get replies k ≡ Some p → is_answered_otherwise (call_of h z) p ≡ false)
          → slice_get (x ∷ ids) i ≡ Some y → slice_get (r ∷ replies) i ≡ Some q
          → is_answered_otherwise (call_of h y) q ≡ false
      answer_at zero y q first rest at to =
          let same : x ≡ y = cc at in
          let alike : r ≡ q = cc to in
          ap₂ (λ z p. is_answered_otherwise (call_of h z) p) (sym same) (sym alike) ∙ first
      answer_at (suc i) y q first rest at to = rest i y q at to

  no_finding_if_right : (ids : List Id) (replies : List Reply) (late : List (Option Id))
      → AllRight h ids replies late → flat_map (findings_at h) (zip (zip ids replies) late) ≡ []
  no_finding_if_right [] replies late right = refl
  no_finding_if_right (x ∷ ids) [] late right = refl
  no_finding_if_right (x ∷ ids) (r ∷ replies) [] right = refl
  no_finding_if_right (x ∷ ids) (r ∷ replies) (o ∷ late) right =
      let here : findings_at h ((x, r), o) ≡ [] =
      ap₂ (λ b q. (if b then other_reply_line x else []) ++ lateness x q)
      (right.answers 0 x r refl refl) (All-head (λ o. o ≡ None) o late right.none_late) in
      ap₂ (λ a b. a ++ b) here (no_finding_if_right ids replies late (record {
        answers = λ i. right.answers (suc i);
        none_late = All-tail (λ o. o ≡ None) o late right.none_late;
      }))

-- ---- lost calls

insert_some : (xs : List Id) (x : Id) → ¬ (insert_key id_cmp xs x ≡ [])
insert_some [] x e = cc e
insert_some (y ∷ xs) x e =
    elim (id_cmp x y) as (λ r. ¬ (match_ordering r (x ∷ y ∷ xs) (y ∷ xs)
    (y ∷ insert_key id_cmp xs x) ≡ [])) [
      | Less ↦ λ f. cc f
      | Equal ↦ λ f. cc f
      | Greater ↦ λ f. cc f
    ] e

fold_some : (found xs : List Id) → ¬ (found ≡ []) → ¬ (fold (insert_key id_cmp) found xs ≡ [])
fold_some found [] some e = some e
fold_some found (x ∷ xs) some e =
    fold_some (insert_key id_cmp found x) xs (insert_some found x) e

none_rising : (xs : List Id) → rising_ids xs ≡ [] → xs ≡ []
none_rising [] e = refl
none_rising (x ∷ xs) e =
    absurd (fold_some (insert_key id_cmp [] x) xs (insert_some [] x) e)

no_line : (ids : List Id) → flat_map lost_line ids ≡ [] → ids ≡ []
no_line [] e = refl
no_line (x ∷ ids) e = absurd (cc e)

no_test_passes : {X : Type 0} (p : X → Bool) (xs : List X)
    → ((x : X) → Contains xs x → p x ≡ false) → filter p xs ≡ []
no_test_passes p [] none = refl
no_test_passes p (x ∷ xs) none =
    rw (none x (Contains-head x xs)) (no_test_passes p xs (λ y h. none y (Contains-cons x xs y h)))

module _ (ids : List Id) (h : List ClientCall) where
  none_lost : flat_map lost_line (lost_ids ids h) ≡ [] → (c : ClientCall) → Contains h c
      → is_lost ids c ≡ false
  none_lost e c has =
      elim (cases_Bool (is_lost ids c)) [
        | inl lost ↦
            let named = none_rising (map (λ (c : ClientCall). c.id) (filter (is_lost ids) h))
            (no_line (lost_ids ids h) e) in
            absurd (Contains-nil c.id (subst (λ l. Contains l c.id) named
            (Contains-map (λ (c : ClientCall). c.id) (filter (is_lost ids) h) c
            (Contains-filter (is_lost ids) h c has lost))))
        | inr none ↦ none
      ]

  no_line_if_none_lost : ((c : ClientCall) → Contains h c → is_lost ids c ≡ false)
      → flat_map lost_line (lost_ids ids h) ≡ []
  no_line_if_none_lost none =
      ap (λ cs. flat_map lost_line (rising_ids (map (λ (c : ClientCall). c.id) cs)))
      (no_test_passes (is_lost ids) h none)

  executed_if_not_lost : (c : ClientCall) (t : ℕ) → c.returned ≡ Some t → is_lost ids c ≡ false
      → Contains ids c.id
  executed_if_not_lost c t returned not_lost =
      elim (is_among-cases ids c.id) [
        | inl found ↦ found.1
        | inr none ↦
            let lost : is_lost ids c ≡ true =
            ap₂ (λ o b. is_some o && not b) returned none.0 in
            absurd (cc (lost, not_lost))
      ]

  not_lost_if_executed : (c : ClientCall)
      → ((t : ℕ) → c.returned ≡ Some t → Contains ids c.id) → is_lost ids c ≡ false
  not_lost_if_executed c executed = by c.returned refl where
    by : (o : Option ℕ) → c.returned ≡ o → is_lost ids c ≡ false
    by None none = ap (λ o. is_some o && not (is_among ids c.id)) none
    by (Some t) returned =
        elim (is_among-cases ids c.id) [
          | inl found ↦ ap₂ (λ o b. is_some o && not b) returned found.0
          | inr none ↦ absurd (none.1 (executed t returned))
        ]

-- ---- answers

right_answer : (call : Option ClientCall) (a : ClientCall) (answer reply : Reply)
    → call ≡ Some a → a.answer ≡ Some answer → is_answered_otherwise call reply ≡ false
    → answer ≡ reply
right_answer call a answer reply is answered right =
    elim (cases_Bool (same_reply answer reply)) [
      | inl same ↦ (Decides-same_reply answer reply).0 same
      | inr differ ↦
          let wrong : is_answered_otherwise call reply ≡ true =
          ap (λ o. is_answered_otherwise o reply) is
          ∙ ap (λ o. is_other_answer o reply) answered ∙ ap not differ in
          absurd (cc (wrong, right))
    ]

answered_right : (call : Option ClientCall) (reply : Reply)
    → ((a : ClientCall) (answer : Reply) → call ≡ Some a → a.answer ≡ Some answer
    → answer ≡ reply) → is_answered_otherwise call reply ≡ false
answered_right None reply same = refl
answered_right (Some a) reply same = by a.answer refl where
  by : (o : Option Reply) → a.answer ≡ o → is_answered_otherwise (Some a) reply ≡ false
  by None none = ap (λ o. is_other_answer o reply) none
  by (Some answer) answered =
      ap (λ o. is_other_answer o reply) answered
      ∙ ap not ((Decides-same_reply answer reply).1 (same a answer refl answered))

-- ---- both

module _ (ids : List Id) (commands : List (List Op)) (replies : List Reply)
    (h : List ClientCall) (late : List (Option Id)) (history : IsHistory h)
    (whole : length ids ≡ length commands) (as_many : length replies ≡ length ids)
    (found : AreFoundLate commands (calls_in h ids) late) where
  linear_if_nothing : findings ids replies h late ≡ [] → IsLinear ids commands replies h
  linear_if_nothing e =
      let parts = append-both_nil (flat_map (findings_at h) (zip (zip ids replies) late))
      (flat_map lost_line (lost_ids ids h)) e in
      let right = right_if_no_finding h ids replies late as_many (found.whole ∙ sym whole)
      parts.0 in
      record {
        executed = λ a t has returned. executed_if_not_lost ids h a t returned
            (none_lost ids h parts.1 a has);
        answers = λ a r i has answered here. answer_is right a r i has answered here;
        real_time = HasRealTimeOrder-none_found commands (calls_in h ids) late
            (length-map ids (call_of h) ∙ whole) found right.none_late;
      }
    where
      answer_is : AllRight h ids replies late → (a : ClientCall) (r : Reply) (i : ℕ)
          → Contains h a → a.answer ≡ Some r → slice_get ids i ≡ Some a.id
          → slice_get replies i ≡ Some r
      answer_is right a r i has answered here =
          let low : i < length replies =
          omega (arith, as_many, slice_get_within ids i a.id here) in
          let reply : Reply = get_or replies i r in
          let at : slice_get replies i ≡ Some reply = slice_get-get_or replies i r low in
          at ∙ ap Some (sym (right_answer (call_of h a.id) a r reply
          (call_of-finds h history a has) answered (right.answers i a.id reply here at)))

  nothing_if_linear : IsLinear ids commands replies h → findings ids replies h late ≡ []
  nothing_if_linear linear =
      ap₂ (λ a b. a ++ b) (no_finding_if_right h ids replies late (record {
        answers = λ i x r at to. answered_right (call_of h x) r (λ a answer is answered.
            let known = call_of-found h x a is in
            let replied = linear.answers a answer i known.0 answered
            (at ∙ ap Some (sym known.1)) in
            let both : Some answer ≡ Some r = sym replied ∙ to in
            cc both);
        none_late = All-none_found commands (calls_in h ids) late found linear.real_time;
      })) (no_line_if_none_lost ids h (λ c has. not_lost_if_executed ids h c (λ t returned.
      linear.executed c t has returned)))

  pub linear_text-iff_linear :
      (linear_text ids replies h late ≡ linear_line) ↔ IsLinear ids commands replies h
  linear_text-iff_linear = (
    λ e. linear_if_nothing
        (nothing_if_line (findings ids replies h late) (findings_apart ids replies h late) e),
    λ linear. ap or_linear (nothing_if_linear linear),
  )

-- ---- texts as they are written

pub length-zip_nil : (ids : List Id) (replies : List Reply)
    → (length ids ≡ 0) ⊎ (length replies ≡ 0) → length (zip ids replies) ≡ 0
length-zip_nil [] replies e = refl
length-zip_nil (x ∷ ids) [] e = refl
length-zip_nil (x ∷ ids) (r ∷ replies) (inl e) = absurd (cc e)
length-zip_nil (x ∷ ids) (r ∷ replies) (inr e) = absurd (cc e)

pub or_linear-none : (text : List ℕ) → length text ≡ 0 → linear_line ≡ or_linear text
or_linear-none [] e = refl
or_linear-none (b ∷ bs) e = absurd (cc e)

pub or_linear-some : (text : List ℕ) → ¬ (length text ≡ 0) → text ≡ or_linear text
or_linear-some [] some = absurd (some refl)
or_linear-some (b ∷ bs) some = refl
