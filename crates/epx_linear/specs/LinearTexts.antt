-- The answer about a history: where it does not fit an execution order.
use Rattle.std.specs.Prelude.{◌≡◌, ◌&&◌, ℕ, Bool, false, not, List, [], ◌∷◌, ◌++◌, map, filter}
use Rattle.std.specs.Prelude.{flat_map, zip, codes, Option, Some, None, is_some, option_and_then}
use Rattle.std.specs.Prelude.{if◌then◌else◌}
use Rattle.serde_json.specs.Data.{Data, string}
use Rattle.epx_types.specs.declared.id.Id.{Id}
use Rattle.epx_types.specs.declared.op.Op.{Op}
use Rattle.epx_types.specs.declared.reply.Reply.{Reply}
use Rattle.epx_types.specs.Instances.{Instance}
use Rattle.epx_types.specs.CommittedMap.{commands_in}
use Rattle.epx_types.specs.Done.{is_among}
use Rattle.epx_types.specs.ExecutionOrder.{Ranked, IsExecutionOrder, ranked_ids}
use Rattle.epx_lines.specs.DependencyList.{rising_ids}
use Rattle.epx_report.specs.ReportLines.{data_of_number, line_of}
use Rattle.epx_report.specs.ViewLines.{name_line}
use Rattle.epx_verify.specs.Differences.{same_reply}
use Rattle.epx_verify.specs.ListExecutions.{list_execution}
use Rattle.epx_linear.specs.declared.client_call.ClientCall.{ClientCall}
use Rattle.epx_linear.specs.ClientCalls.{call_of, calls_in}
use Rattle.epx_linear.specs.LateCalls.{AreFoundLate}

-- ---- lines

-- the line `["linear"]`, which says that nothing is found
abbrev pub linear_line : List ℕ
linear_line = name_line (codes "linear")

-- the elements `name,r,i` of a line: a name, and the instance r.i
abbrev pub named_data : List ℕ → Id → List Data
named_data name x = string name ∷ data_of_number x.replica ∷ data_of_number x.number ∷ []

-- the line `["reply",r,i]`: the call of instance r.i was answered, but not with the reply of r.i
abbrev pub other_reply_line : Id → List ℕ
other_reply_line x = line_of (named_data (codes "reply") x)

-- the line `["lost",r,i]`: the call of instance r.i returned, but r.i is not executed
abbrev pub lost_line : Id → List ℕ
lost_line x = line_of (named_data (codes "lost") x)

-- the line `["late",r,i,r2,i2]` of x = r.i and y = r2.i2: the call of x had returned before that of
-- y was invoked, but x is executed after y by a chain of conflicts
abbrev pub late_line : Id → Id → List ℕ
late_line x y = line_of
    (named_data (codes "late") x ++ data_of_number y.replica ∷ data_of_number y.number ∷ [])

-- ---- what is found

-- there is an answer, and it is not this reply
abbrev pub is_other_answer : Option Reply → Reply → Bool
is_other_answer None reply = false
is_other_answer (Some answer) reply = not (same_reply answer reply)

-- there is a call, and it has an answer, which is not this reply
abbrev pub is_answered_otherwise : Option ClientCall → Reply → Bool
is_answered_otherwise call reply = is_other_answer (option_and_then (λ c. c.answer) call) reply

-- the line `["late",r,i,r2,i2]` of x and the instance that it is late for; no text if there is none
abbrev pub lateness : Id → Option Id → List ℕ
lateness x None = []
lateness x (Some y) = late_line x y

-- what is wrong with the call of an executed instance x: the line `["reply",r,i]` if it has an
-- answer that is not the reply, and the line `["late",r,i,r2,i2]` if it is late
abbrev pub findings_at : List ClientCall → (Id × Reply) × Option Id → List ℕ
findings_at h ((x, reply), late) =
    (if is_answered_otherwise (call_of h x) reply then other_reply_line x else [])
    ++ lateness x late

-- the call returned, and its instance is not among the executed ones, `ids`
abbrev pub is_lost : List Id → ClientCall → Bool
is_lost ids c = is_some c.returned && not (is_among ids c.id)

-- the instances of the lost calls, by rising Id
abbrev pub lost_ids : List Id → List ClientCall → List Id
lost_ids ids h = rising_ids (map (λ c. c.id) (filter (is_lost ids) h))

-- the lines `reply` and `late` of each executed instance, in the order of `ids`, and then the lines
-- `lost` of the lost calls, by rising Id
abbrev pub findings : List Id → List Reply → List ClientCall → List (Option Id) → List ℕ
findings ids replies h late =
    flat_map (findings_at h) (zip (zip ids replies) late) ++ flat_map lost_line (lost_ids ids h)

-- ---- the answer

-- the text, or the line `linear` if the text is empty
abbrev pub or_linear : List ℕ → List ℕ
or_linear [] = linear_line
or_linear (b ∷ bs) = b ∷ bs

-- the lines of what is found, or the line `["linear"]` alone if nothing is
abbrev pub linear_text : List Id → List Reply → List ClientCall → List (Option Id) → List ℕ
linear_text ids replies h late = or_linear (findings ids replies h late)

-- the text has the lines of what is found of the history over these instances, executed in their
-- order with these commands and replies; it is `["linear"]` if nothing is found
pub record IsTextOver (ids : List Id) (commands : List (List Op)) (replies : List Reply)
    (h : List ClientCall) (text : List ℕ) : Type 0 where
  pub late : List (Option Id)
  pub found : AreFoundLate commands (calls_in h ids) late
  pub printed : text ≡ linear_text ids replies h late

-- the text has the lines of what is found of the history over the execution order of the map,
-- executed from the empty store; it is `["linear"]` if nothing is found
pub record IsLinearText (m : List Instance) (h : List ClientCall) (text : List ℕ) : Type 0 where
  pub order : List Ranked
  pub ordered : IsExecutionOrder m order
  pub said : IsTextOver (ranked_ids order) (commands_in m (ranked_ids order))
      (list_execution m (ranked_ids order)).replies h text
