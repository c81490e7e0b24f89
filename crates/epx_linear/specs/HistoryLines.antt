-- What one line of a history says: the call of an instance, with its times, and with the reply that
-- the client got, where the history says it. The line is a JSON array in any spelling.
use Rattle.std.specs.Prelude.{ℕ, ◌^◌, Bool, true, nat_lt, nat_le, List, [], ◌∷◌, length, codes}
use Rattle.std.specs.Prelude.{Option, Some, None, option_map, option_and_then, if◌then◌else◌}
use Rattle.serde_json.specs.Data.{Data, null}
use Rattle.epx_types.specs.declared.id.Id.{Id}
use Rattle.epx_types.specs.declared.reply.Reply.{Reply}
use Rattle.epx_lines.specs.Elements.{whole, elements}
use Rattle.epx_lines.specs.Meaning.{max_line_bytes, json_of}
use Rattle.epx_report.specs.Forms.{is_text, id_from}
use Rattle.epx_verify.specs.SaidLines.{reply_of}
use Rattle.epx_linear.specs.declared.client_call.ClientCall.{ClientCall}

-- a time: a whole number below 2^63
abbrev pub time_from : Data → Option ℕ
time_from d = whole (2 ^ 63) d

-- a time of return: Some None for `null`, which means that no answer came, and Some of the time for
-- a whole number below 2^63; None for any other value
unfoldable pub time_or_null : Data → Option (Option ℕ)
time_or_null null = Some None
time_or_null d = option_map Some (time_from d)

-- the call did not return before it was invoked
abbrev pub is_up_to : ℕ → Option ℕ → Bool
is_up_to invoked None = true
is_up_to invoked (Some returned) = nat_le invoked returned

-- the call with these parts; None if it returned before it was invoked
abbrev pub call_at : Id → Option ℕ → Option Reply → ℕ → Option ClientCall
call_at x returned answer invoked = if is_up_to invoked returned then Some
    (record { id = x; invoked = invoked; returned = returned; answer = answer }) else None

-- the call of a line that begins with `"call",r,i,invoked`, with this time of return and this
-- answer; None if these elements have another form, or if it returned before it was invoked
unfoldable pub call_with : Data → Data → Data → Data → Option ℕ → Option Reply → Option ClientCall
call_with n r i t returned answer = if is_text (codes "call") n then option_and_then
    (λ x. option_and_then (call_at x returned answer) (time_from t)) (id_from r i) else None

-- the call that the elements of a line `["call",r,i,invoked,returned]` say, where `returned` is a
-- time or null; None if they say none
unfoldable pub call_alone : Data → Data → Data → Data → Data → Option ClientCall
call_alone n r i t u =
    option_and_then (λ returned. call_with n r i t returned None) (time_or_null u)

-- the call that the elements of a line `["call",r,i,invoked,returned,"ok",[v,..]]` or
-- `["call",r,i,invoked,returned,"abort",j]` say, where `returned` is a time; None if they say none
unfoldable pub answered_call : Data → Data → Data → Data → Data → Data → Data → Option ClientCall
answered_call n r i t u a b =
    option_and_then
    (λ returned. option_and_then (λ reply. call_with n r i t (Some returned) (Some reply))
    (reply_of a b)) (time_from u)

-- the call that the elements of a line say: five of them without an answer, seven with one
abbrev pub call_from_list : List Data → Option ClientCall
call_from_list (n ∷ r ∷ i ∷ t ∷ u ∷ []) = call_alone n r i t u
call_from_list (n ∷ r ∷ i ∷ t ∷ u ∷ a ∷ b ∷ []) = answered_call n r i t u a b
call_from_list _ = None

-- the call that a line says, by its JSON value; None if it says none
unfoldable pub call_from : Data → Option ClientCall
call_from d = option_and_then call_from_list (elements d)

-- the call that a line says, by its bytes without the line feed; None if it says none, or has more
-- than `max_line_bytes` bytes
unfoldable pub call_line_of : List ℕ → Option ClientCall
call_line_of bytes = if nat_lt max_line_bytes (length bytes) then None else option_and_then
    call_from (json_of bytes)
