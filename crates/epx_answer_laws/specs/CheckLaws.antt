-- Laws of checking a list, what a replica said, and what clients saw.
use Rattle.std.specs.Prelude.{◌≡◌, ◌↔◌, ℕ, List, map, slice_get, Some, Result, Ok}
use Rattle.std.specs.FinMap as contents
use Rattle.epx_types.specs.declared.id.Id.{Id}
use Rattle.epx_types.specs.declared.fault.Fault.{Fault}
use Rattle.epx_types.specs.declared.reply.Reply.{Reply}
use Rattle.epx_types.specs.Contents.{Contents}
use Rattle.epx_types.specs.Instances.{Instance}
use Rattle.epx_types.specs.Execution.{execute}
use Rattle.epx_types.specs.ExecutionOrder.{Ranked, IsExecutionOrder, ranked_ids}
use Rattle.epx_types.specs.CommittedMap.{commands_in}
use Rattle.epx_types.specs.LawfulPrefixes.{IsLawfulPrefix}
use Rattle.epx_types.specs.LawfulOrders.{IsLawful}
use Rattle.epx_merge.specs.Acceptance.{IsAccepted}
use Rattle.epx_report.specs.Lists.{IsList}
use Rattle.epx_report.specs.ViewLines.{covered_line, lawful_line}
use Rattle.epx_ranking.specs.OrderFaults.{HasAllReady}
use Rattle.epx_tool.specs.declared.ask.Ask.TheVariants.{Audit}
use Rattle.epx_names.specs.declared.task.Task.TheVariants.{CheckPrefix, Linear, Verify}
use Rattle.epx_tool.specs.CheckAnswers.{Checks}
use Rattle.epx_tool.specs.TaskAnswers.{AnswersTask, AnswersView}
use Rattle.epx_answer_laws.specs.SameLineLaws.{HaveLinesOf}
use Rattle.epx_tool.specs.WithInput.{IsShort}
use Rattle.epx_report.specs.ReportReadings.{replied_ids}
use Rattle.epx_verify.specs.ListExecutions.{list_execution}
use Rattle.epx_verify.specs.SaidTexts.{IsSaid}
use Rattle.epx_linear.specs.declared.client_call.ClientCall.{ClientCall}
use Rattle.epx_linear.specs.HistoryTexts.{IsHistoryText}
use Rattle.epx_linear.specs.LinearTexts.{linear_line}
use Rattle.epx_linear.specs.RealTime.{IsLinear}
use Rattle.epx_linear.specs.Skews.{later_by}

-- if a text of at most `max_log_bytes` bytes is a list of instances and the logs are accepted, the
-- check of the list is answered with the line `["lawful"]` exactly if it is a lawful order of what
-- the logs commit
abbrev pub LawfulTextMeansLawful : Type 0
LawfulTextMeansLawful = (list : List ℕ) (logs : List (List ℕ)) (ids : List Id) (m : List Instance)
    → IsShort list → IsList list ids → IsAccepted logs m →
    Checks list logs (Ok lawful_line) ↔ IsLawful m ids

-- ---- a list that is checked as a prefix

-- if a text of at most `max_log_bytes` bytes is a list of instances and the logs are accepted, its
-- check as a prefix is answered with the line `["lawful"]` exactly if a lawful order of what the
-- logs commit begins with it
abbrev pub LawfulTextMeansPrefix : Type 0
LawfulTextMeansPrefix = (list : List ℕ) (logs : List (List ℕ)) (ids : List Id)
    (m : List Instance) → IsShort list → IsList list ids → IsAccepted logs m →
    AnswersTask CheckPrefix list logs (Ok lawful_line) ↔ IsLawfulPrefix m ids

-- if a list is reported as a lawful prefix and the logs as covered, each listed instance has the
-- same reply where the list is executed from the empty store as in the report of the logs
abbrev pub LawfulPrefixRepliesAlike : Type 0
LawfulPrefixRepliesAlike = (list : List ℕ) (logs : List (List ℕ))
    → AnswersTask CheckPrefix list logs (Ok lawful_line)
    → AnswersView Audit logs (Ok covered_line)
    → (ids : List Id) (m : List Instance) → IsList list ids → IsAccepted logs m →
    (order : List Ranked) → IsExecutionOrder m order
    → (i j : ℕ) (x : Id) → slice_get ids i ≡ Some x → slice_get (ranked_ids order) j ≡ Some x
    → slice_get (execute (commands_in m ids) contents.empty).replies i
    ≡ slice_get (execute (commands_in m (ranked_ids order)) contents.empty).replies j

-- if logs are accepted and a list names all instances that are ready in what they commit, the list
-- has the same answers checked as a prefix and checked as an order
abbrev pub WholeListsAreAnsweredAlike : Type 0
WholeListsAreAnsweredAlike = (list : List ℕ) (logs : List (List ℕ)) (ids : List Id)
    (m : List Instance) → IsList list ids → IsAccepted logs m → HasAllReady m ids
    → (a : Result (List ℕ) Fault) → AnswersTask CheckPrefix list logs a ↔ Checks list logs a

-- a list that is answered as a lawful prefix over some logs is answered so over all accepted logs
-- that have each of their lines: what a replica has executed stays lawful, whatever is committed
-- later
abbrev pub LawfulPrefixesStay : Type 0
LawfulPrefixesStay = (list : List ℕ) (logs more : List (List ℕ)) → HaveLinesOf more logs
    → (m : List Instance) → IsAccepted more m
    → AnswersTask CheckPrefix list logs (Ok lawful_line)
    → AnswersTask CheckPrefix list more (Ok lawful_line)

-- ---- what a replica said

-- the replies and the store are those of executing the instances of the replies, in their order,
-- with their commands in the map, from the empty store
abbrev pub IsRight : List Instance → List (Id × Reply) → Contents → Type 0
IsRight m replies stored = let e = list_execution m (replied_ids replies) in
    (map (λ p. p.1) replies ≡ e.replies) × (stored ≡ e.final)

-- if a text of at most `max_log_bytes` bytes says replies and a store and the logs are accepted,
-- verifying it is answered with the line `["lawful"]` alone exactly if a lawful order of what the
-- logs commit begins with the instances of the replies and `IsRight` holds
abbrev pub LawfulTextMeansRight : Type 0
LawfulTextMeansRight = (said : List ℕ) (logs : List (List ℕ)) (replies : List (Id × Reply))
    (stored : Contents) (m : List Instance)
    → IsShort said → IsSaid said replies stored → IsAccepted logs m →
    AnswersTask Verify said logs (Ok lawful_line)
    ↔ IsLawfulPrefix m (replied_ids replies) × IsRight m replies stored

-- ---- what clients saw

-- if a text of at most `max_log_bytes` bytes is a history and the logs are accepted, it is answered
-- with the line `["linear"]` exactly if its calls, each returned later by the skew, are linear
-- (`IsLinear`) over the execution order of what the logs commit and its replies
abbrev pub LinearTextMeansLinear : Type 0
LinearTextMeansLinear = (skew : ℕ) (history : List ℕ) (logs : List (List ℕ))
    (h : List ClientCall) (m : List Instance) (order : List Ranked)
    → IsShort history → IsHistoryText history h → IsAccepted logs m → IsExecutionOrder m order →
    AnswersTask (Linear skew) history logs (Ok linear_line)
    ↔ IsLinear (ranked_ids order) (commands_in m (ranked_ids order))
    (list_execution m (ranked_ids order)).replies (map (later_by skew) h)
