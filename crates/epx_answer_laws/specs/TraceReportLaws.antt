-- Laws of the trace of a key beside the report.
use Rattle.std.specs.Prelude.{◌≡◌, ℕ, ℤ, Bool, List, [], ◌∷◌, fold, codes, Option, None}
use Rattle.std.specs.Prelude.{option_and_then, unwrap_or, Ok, if◌then◌else◌}
use Rattle.std.specs.FinMap as contents
use Rattle.serde_json.specs.Data.{Data}
use Rattle.epx_names.specs.declared.key_name.KeyName.{KeyName}
use Rattle.epx_types.specs.declared.id.Id.{Id}
use Rattle.epx_types.specs.Contents.{Contents}
use Rattle.epx_types.specs.Instances.{Instance}
use Rattle.epx_types.specs.CommittedMap.{commands_in}
use Rattle.epx_types.specs.Execution.{execute}
use Rattle.epx_types.specs.ExecutionOrder.{ranked_ids}
use Rattle.epx_lines.specs.Elements.{elements}
use Rattle.epx_lines.specs.Lines.{lines_of}
use Rattle.epx_lines.specs.Meaning.{json_of}
use Rattle.epx_lines.specs.OperationList.{value_or_null}
use Rattle.epx_report.specs.Bases.{IsBase}
use Rattle.epx_report.specs.Forms.{is_text}
use Rattle.epx_trace.specs.Traces.{trace_of}
use Rattle.epx_trace.specs.TraceLaws.{value_left}
use Rattle.epx_trace.specs.TraceTexts.{IsTraceText, ordered_commands}
use Rattle.epx_tool.specs.declared.ask.Ask.TheVariants.{Trace}
use Rattle.epx_tool.specs.Answer.{IsAnswer}
use Rattle.epx_tool.specs.TaskAnswers.{AnswersView}
use Rattle.epx_tool.specs.Report.{IsReport}

-- the store of a report has under a key what the last write of the key's trace leaves, and nothing
-- if the trace has no write
abbrev pub TraceEndsInTheStore : Type 0
TraceEndsInTheStore = (m : List Instance) (key : List ℕ) (reads : Bool) (report text : List ℕ)
    (p : IsReport m report) (t : IsTraceText m key reads text) →
    contents.get (execute (commands_in m (ranked_ids p.order)) contents.empty).final key
    ≡ fold value_left None (trace_of (ordered_commands m t.order) contents.empty key)

-- ---- over the lines of both texts

-- the last of five elements that begin with the text `"write"`, as those of a line
-- `["write",r,i,before,after]` do, if it is a value or null; null is `Some None`, anything else is
-- None
abbrev pub written_of_list : List Data → Option (Option ℤ)
written_of_list (n ∷ r ∷ i ∷ before ∷ after ∷ []) =
    if is_text (codes "write") n then value_or_null after else None
written_of_list _ = None

-- the value `after` of a line `["write",r,i,before,after]`, where null is `Some None`; None for
-- other lines
abbrev pub written_of : List ℕ → Option (Option ℤ)
written_of line = option_and_then written_of_list (option_and_then elements (json_of line))

-- the value of a key after a line of its trace: what a `write` line ends with; any other line
-- leaves the value that the key had before
abbrev pub value_after_line : Option ℤ → List ℕ → Option ℤ
value_after_line value line = unwrap_or (written_of line) value

-- over the same logs, the store of the report, read as a base, has under a key the value with which
-- the last `write` line of the key's trace ends, and nothing if it is null or there is no such line
abbrev pub LastWriteLineIsTheStoreLine : Type 0
LastWriteLineIsTheStoreLine = (logs : List (List ℕ)) (key : KeyName) (reads : Bool)
    (report trace : List ℕ) → IsAnswer logs (Ok report)
    → AnswersView (Trace key reads) logs (Ok trace)
    → (done : List Id) (stored : Contents) → IsBase report done stored
    → contents.get stored key.text.bytes ≡ fold value_after_line None (lines_of trace)
