-- What a line of a history says, by the parts that were read from its tokens.
use Rattle.std.proofs.Common.{◌≡◌, ℕ, zero, suc, ℤ, pos, neg_ℤ, ◌^◌, ◌<◌, ◌&&◌, nat_lt, nat_le}
use Rattle.std.proofs.Common.{Bool, true, false, codes, List, [], ◌∷◌, ◌++◌, Option, Some, None}
use Rattle.std.proofs.Common.{is_some, is_none, IfSome, option_map, refl, sym, ap, ◌∙◌, subst}
use Rattle.std.proofs.Common.{arith, rules, ltb-true, lt-ltb}
use Rattle.std.proofs.lemmas.Option.{cond_some}
use Rattle.std.specs.Prelude.{Float}
use Rattle.std.specs.Float.Numeral.{Parts, numeral_digits}
use Rattle.epx_types.proofs.Common.{⊤, and_parts}
use Rattle.epx_types.specs.declared.id.Id.{Id}
use Rattle.epx_types.specs.declared.reply.Reply.{Reply}
use Rattle.epx_types.specs.declared.reply.Reply.TheVariants.{Values, Abort}
use Rattle.json.specs.Token.{Token}
use Rattle.json.specs.Json as json
use Rattle.json.specs.Json.{value}
use Rattle.serde_json.specs.Data.{Num, unsigned, negative, float, Data, null, boolean, number}
use Rattle.serde_json.specs.Data.{string, array, object}
use Rattle.serde_json.specs.Find.{as_i64}
use Rattle.serde_json.specs.Read.{is_integer, float_of, number_from, number_of, of_json, of_items}
use Rattle.serde_json.specs.Read.{converted}
use Rattle.epx_lines.specs.Elements.{whole}
use Rattle.epx_lines.specs.DependencyList.{id_of_pair}
use Rattle.epx_lines.specs.OperationList.{value_or_null}
use Rattle.epx_lines.specs.between.Tokens.{ReadsValue, ParsesTo}
use Rattle.epx_lines.proofs.WrittenPartLemmas.{whole-fits}
use Rattle.epx_report.proofs.JsonStringLemmas.{IfSome-test, IfSome-branch, IfSome-map}
use Rattle.epx_report.proofs.JsonStringLemmas.{IfSome-trivial}
use Rattle.epx_verify.specs.SaidLines.{values_of, op_index_of, reply_of}
use Rattle.epx_linear.specs.HistoryLines.{time_from, time_or_null, is_up_to, call_with, call_alone}
use Rattle.epx_linear.specs.HistoryLines.{answered_call, call_from_list}
use Rattle.epx_linear.specs.declared.client_call.ClientCall.{ClientCall}
use Rattle.epx_linear.specs.inner.AnswerTokens.{answer_from}

-- ---- numbers that are read from tokens

-- if the number is read as an i64 that is not negative, it is unsigned
abbrev IsPlainNum : Num → Type 0
IsPlainNum x = (n : ℕ) → as_i64 x ≡ Some (pos n) → x ≡ unsigned n

unsigned_plain : (k : ℕ) → IsPlainNum (unsigned k)
unsigned_plain k n e =
    let same : pos k ≡ pos n = (cond_some (nat_lt k (2 ^ 63)) (pos k) (pos n) e).1 in
    let equal : k ≡ n = cc same in ap unsigned equal

negative_plain : (k : ℕ) → 0 < k → IsPlainNum (negative (neg_ℤ (pos k)))
negative_plain zero l n e = absurd (omega arith)
negative_plain (suc k) l n e = absurd (cc e)

float_plain : (x : Float) → IsPlainNum (float x)
float_plain x n e = absurd (cc e)

float_of_plain : (sign : Bool) (p : Parts) → IfSome (float_of sign p) IsPlainNum
float_of_plain sign p = search (rules, IfSome-branch IsPlainNum, float_plain)

number_from_plain : (sign : Bool) (p : Parts) → IfSome (number_from sign p) IsPlainNum
number_from_plain false p =
    search (rules, IfSome-branch IsPlainNum, unsigned_plain, float_of_plain)
number_from_plain true p =
    IfSome-test IsPlainNum
    (is_integer p && nat_lt 0 (numeral_digits p) && nat_le (numeral_digits p) (2 ^ 63)) _ _
    (λ e. negative_plain _ (ltb-true _ _ (and_parts _ _ (and_parts _ _ e).0).1))
    (λ _. float_of_plain true p)

number_of_plain : (s : List ℕ) → IfSome (number_of s) IsPlainNum
unfolding number_of
number_of_plain s =
    search (rules, IfSome-branch IsPlainNum, number_from_plain)

-- if the value is a number that is read as an i64 that is not negative, the number is unsigned
abbrev IsPlain : Data → Type 0
IsPlain (number x) = IsPlainNum x
IsPlain _ = ⊤

json_plain : (j : json.Json) → IfSome (of_json j) IsPlain
json_plain json.null = tt
json_plain (json.boolean b) = tt
json_plain (json.number s) =
    IfSome-map IsPlainNum IsPlain number (number_of s) (number_of_plain s) (λ x h. h)
json_plain (json.string s) = tt
json_plain (json.array js) =
    IfSome-map (λ _. ⊤) IsPlain array (of_items js) (IfSome-trivial (of_items js)) (λ _ _. tt)
json_plain (json.object ms) =
    IfSome-map (λ _. ⊤) IsPlain object _ (IfSome-trivial _) (λ _ _. tt)

converted_plain : (o : Option (json.Json × List Token))
    → IfSome (converted of_json o) (λ p. IsPlain p.0)
converted_plain None = tt
converted_plain (Some p) =
    IfSome-map IsPlain (λ q. IsPlain q.0) (λ d. (d, p.1)) (of_json p.0) (json_plain p.0)
    (λ d h. h)

ReadsValue-plain : (ts : List Token) (d : Data) (rest : List Token) → ReadsValue 0 ts d rest
    → IsPlain d
ReadsValue-plain ts d rest h =
    subst (λ o. IfSome o (λ p. IsPlain p.0)) (h 0 (omega arith)) (converted_plain (value 0 ts))

-- ---- times

some_inside : {A : Type 0} (o : Option A) (a : A) → option_map Some o ≡ Some (Some a)
    → o ≡ Some a
some_inside None a e = absurd (cc e)
some_inside (Some b) a e = cc e

none_inside : {A : Type 0} (o : Option A) → option_map Some o ≡ Some None → ⊥
none_inside None e = cc e
none_inside (Some a) e = cc e

time_or_null-absent : (d : Data) → value_or_null d ≡ Some None → time_or_null d ≡ Some None
unfolding value_or_null time_or_null
time_or_null-absent null e = refl
time_or_null-absent (boolean b) e = absurd (cc e)
time_or_null-absent (number x) e = absurd (none_inside (as_i64 x) e)
time_or_null-absent (string s) e = absurd (cc e)
time_or_null-absent (array ds) e = absurd (cc e)
time_or_null-absent (object ms) e = absurd (cc e)

time_of_number : (x : Num) (n : ℕ) → x ≡ unsigned n → as_i64 x ≡ Some (pos n)
    → time_from (number x) ≡ Some n
time_of_number x n is e =
    let small : as_i64 (unsigned n) ≡ Some (pos n) = rw is at e in
    rw is (whole-fits (2 ^ 63) n
    (ltb-true n (2 ^ 63) (cond_some (nat_lt n (2 ^ 63)) (pos n) (pos n) small).0))

time_or_null-said : (d : Data) (n : ℕ) → IsPlain d → value_or_null d ≡ Some (Some (pos n))
    → time_or_null d ≡ Some (Some n)
unfolding value_or_null time_or_null
time_or_null-said null n plain e = absurd (cc e)
time_or_null-said (boolean b) n plain e = absurd (cc e)
time_or_null-said (number x) n plain e =
    let is = some_inside (as_i64 x) (pos n) e in
    ap (option_map Some) (time_of_number x n (plain n is) is)
time_or_null-said (string s) n plain e = absurd (cc e)
time_or_null-said (array ds) n plain e = absurd (cc e)
time_or_null-said (object ms) n plain e = absurd (cc e)

time_from-said : (d : Data) (n : ℕ) → time_or_null d ≡ Some (Some n) → time_from d ≡ Some n
unfolding time_or_null
time_from-said null n e = absurd (cc e)
time_from-said (boolean b) n e = some_inside (time_from (boolean b)) n e
time_from-said (number x) n e = some_inside (time_from (number x)) n e
time_from-said (string s) n e = some_inside (time_from (string s)) n e
time_from-said (array ds) n e = some_inside (time_from (array ds)) n e
time_from-said (object ms) n e = some_inside (time_from (object ms)) n e

pub ParsesTo-absent : (ts rest : List Token) → ParsesTo 0 value_or_null ts None rest
    → ParsesTo 0 time_or_null ts None rest
ParsesTo-absent ts rest g = (g.0, g.1, time_or_null-absent g.0 g.2)

pub ParsesTo-time_or_null : (ts rest : List Token) (n : ℕ)
    → ParsesTo 0 value_or_null ts (Some (pos n)) rest
    → ParsesTo 0 time_or_null ts (Some n) rest
ParsesTo-time_or_null ts rest n g =
    (g.0, g.1, time_or_null-said g.0 n (ReadsValue-plain ts g.0 rest g.1) g.2)

pub ParsesTo-time : (ts rest : List Token) (o : Option ℕ) → ParsesTo 0 time_or_null ts o rest
    → IfSome o (λ n. ParsesTo 0 time_from ts n rest)
ParsesTo-time ts rest None g = tt
ParsesTo-time ts rest (Some n) g = (g.0, g.1, time_from-said g.0 n g.2)

-- ---- replies

pub op_index_of-below : (d : Data) (n : ℕ) → whole (2 ^ 64) d ≡ Some n → n < 64
    → op_index_of d ≡ Some n
unfolding op_index_of
op_index_of-below d n is l = rw (is, lt-ltb n 64 l) refl

pub reply_of-ok : (d : Data) (vs : List (Option ℤ)) → values_of d ≡ Some vs
    → reply_of (string (codes "ok")) d ≡ Some (Values vs)
unfolding reply_of
reply_of-ok d vs e = rw e refl

pub reply_of-abort : (d : Data) (n : ℕ) → op_index_of d ≡ Some n
    → reply_of (string (codes "abort")) d ≡ Some (Abort n)
unfolding reply_of
reply_of-abort d n e = rw e refl

-- ---- calls

reply_inside : (o : Option Reply) (answer : Option Reply) → option_map Some o ≡ Some answer
    → (y : Reply) × (o ≡ Some y) × (answer ≡ Some y)
reply_inside None answer e = absurd (cc e)
reply_inside (Some y) answer e = (y, refl, cc e)

-- if there is an answer, the call returned
abbrev pub HasReturned : Option ℕ → Option Reply → Type 0
HasReturned None (Some y) = ⊥
HasReturned _ _ = ⊤

pub HasReturned-unless : (returned : Option ℕ) (answer : Option Reply)
    → (is_none returned && is_some answer) ≡ false → HasReturned returned answer
HasReturned-unless None None e = tt
HasReturned-unless (Some n) None e = tt
HasReturned-unless None (Some y) e = absurd (cc e)
HasReturned-unless (Some n) (Some y) e = tt

returned_at : (returned : Option ℕ) (answer : Option Reply) (y : Reply) → answer ≡ Some y
    → HasReturned returned answer → (n : ℕ) × (returned ≡ Some n)
returned_at None None y e h = absurd (cc e)
returned_at (Some n) None y e h = absurd (cc e)
returned_at None (Some z) y e h = absurd h
returned_at (Some n) (Some z) y e h = (n, refl)

module _ (x : Id) (t u : Data) (invoked : ℕ) (returned : Option ℕ)
    (t_is : time_from t ≡ Some invoked) (u_is : time_or_null u ≡ Some returned)
    (up_to : is_up_to invoked returned ≡ true) where
  abbrev call_said : Option Reply → ClientCall
  call_said answer =
      record { id = x; invoked = invoked; returned = returned; answer = answer }

  call_with-said : (r i : Data) (answer : Option Reply) → id_of_pair (r ∷ i ∷ []) ≡ Some x
      → call_with (string (codes "call")) r i t returned answer ≡ Some (call_said answer)
  unfolding call_with
  call_with-said r i answer is = rw (is, t_is, up_to) refl

  call_alone-said : (r i : Data) (answer : Option Reply) → id_of_pair (r ∷ i ∷ []) ≡ Some x
      → None ≡ answer → call_alone (string (codes "call")) r i t u ≡ Some (call_said answer)
  unfolding call_alone
  call_alone-said r i answer is none =
      rw u_is (call_with-said r i None is ∙ ap (λ a. Some (call_said a)) none)

  answered_call-said : (r i a b : Data) (y : Reply) (n : ℕ) → id_of_pair (r ∷ i ∷ []) ≡ Some x
      → reply_of a b ≡ Some y → returned ≡ Some n
      → answered_call (string (codes "call")) r i t u a b ≡ Some (call_said (Some y))
  unfolding answered_call
  answered_call-said r i a b y n is reply_is same =
      let time : time_from u ≡ Some n = time_from-said u n (u_is ∙ ap Some same) in
      rw (time, reply_is)
      (ap (λ o. call_with (string (codes "call")) r i t o (Some y)) (sym same)
      ∙ call_with-said r i (Some y) is)

  call_from_pair : (r i : Data) (es : List Data) (answer : Option Reply)
      → id_of_pair (r ∷ i ∷ []) ≡ Some x → answer_from es ≡ Some answer
      → HasReturned returned answer
      → call_from_list (string (codes "call") ∷ r ∷ i ∷ t ∷ u ∷ es) ≡ Some (call_said answer)
  call_from_pair r i [] answer is e h = call_alone-said r i answer is (cc e)
  call_from_pair r i (a ∷ []) answer is e h = absurd (cc e)
  call_from_pair r i (a ∷ b ∷ []) answer is e h =
      let reply = reply_inside (reply_of a b) answer e in
      let time = returned_at returned answer reply.0 reply.2 h in
      answered_call-said r i a b reply.0 time.0 is reply.1 time.1
      ∙ ap (λ o. Some (call_said o)) (sym reply.2)
  call_from_pair r i (a ∷ b ∷ c ∷ es) answer is e h = absurd (cc e)

  pub call_from_list-said : (ds es : List Data) (answer : Option Reply) → id_of_pair ds ≡ Some x
      → answer_from es ≡ Some answer → HasReturned returned answer
      → call_from_list (string (codes "call") ∷ (ds ++ t ∷ u ∷ es)) ≡ Some (call_said answer)
  call_from_list-said [] es answer is e h = absurd (cc is)
  call_from_list-said (r ∷ []) es answer is e h = absurd (cc is)
  call_from_list-said (r ∷ i ∷ []) es answer is e h = call_from_pair r i es answer is e h
  call_from_list-said (r ∷ i ∷ d ∷ ds) es answer is e h = absurd (cc is)
