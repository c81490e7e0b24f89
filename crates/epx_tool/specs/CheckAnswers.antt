-- Checking and replaying a list of instances, and checking what a replica said and what clients
-- saw: the answers to an input and logs.
use Rattle.std.specs.Prelude.{◌≡◌, ℕ, List, Result, map}
use Rattle.epx_types.specs.declared.id.Id.{Id}
use Rattle.epx_types.specs.declared.reply.Reply.{Reply}
use Rattle.epx_types.specs.Contents.{Contents}
use Rattle.epx_types.specs.declared.fault.Fault.{Fault}
use Rattle.epx_types.specs.Instances.{Instance}
use Rattle.epx_report.specs.Lists.{IsList, IsBadList}
use Rattle.epx_tool.specs.WithInput.{AnswersWithInput}
use Rattle.epx_tool.specs.Verdicts.{IsPrefixVerdict, IsSaidVerdict, IsVerdict}
use Rattle.epx_linear.specs.declared.client_call.ClientCall.{ClientCall}
use Rattle.epx_linear.specs.HistoryTexts.{IsHistoryText}
use Rattle.epx_linear.specs.LinearTexts.{IsLinearText}
use Rattle.epx_linear.specs.Skews.{later_by}
use Rattle.epx_verify.specs.ListExecutions.{replay_text}
use Rattle.epx_verify.specs.SaidTexts.{IsSaid}

-- the text is the verdict on the instances that the bytes `list` name: whether they are a lawful
-- order of the map
abbrev pub IsCheckText : List ℕ → List Instance → List ℕ → Type 0
IsCheckText list m text = (ids : List Id) × IsList list ids × IsVerdict m ids text

-- the text is the verdict on the instances that the bytes `list` name: whether they are a prefix of
-- a lawful order of the map
abbrev pub IsPrefixCheckText : List ℕ → List Instance → List ℕ → Type 0
IsPrefixCheckText list m text = (ids : List Id) × IsList list ids × IsPrefixVerdict m ids text

-- the text has the reply lines of the instances that the bytes `list` name, executed in the order
-- of the list from the empty store, and then the store lines
abbrev pub IsReplayText : List ℕ → List Instance → List ℕ → Type 0
IsReplayText list m text = (ids : List Id) × IsList list ids × (text ≡ replay_text m ids)

-- the text is the verdict on the replies, in their order, and on the store that the bytes `said` of
-- a replica say
abbrev pub IsVerifyText : List ℕ → List Instance → List ℕ → Type 0
IsVerifyText said m text = (replies : List (Id × Reply)) × (stored : Contents)
    × IsSaid said replies stored × IsSaidVerdict m replies stored text

-- the text has the lines of what is found of the calls of the history, each returned later by D,
-- over the execution order of the map; it is `["linear"]` if nothing is found
abbrev pub IsHistoryCheckText : ℕ → List ℕ → List Instance → List ℕ → Type 0
IsHistoryCheckText D history m text = (h : List ClientCall)
    × IsHistoryText history h × IsLinearText m (map (later_by D) h) text

-- the answer to a list and logs: the verdict on the list as an order, or the first refusal
abbrev pub Checks : List ℕ → List (List ℕ) → Result (List ℕ) Fault → Type 0
Checks = AnswersWithInput IsBadList IsCheckText
