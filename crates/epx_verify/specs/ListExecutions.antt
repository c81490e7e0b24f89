-- The instances of a list, executed in its order from the empty store.
use Rattle.std.specs.Prelude.{ℕ, List, ◌++◌, flat_map, zip}
use Rattle.std.specs.FinMap as contents
use Rattle.epx_types.specs.declared.id.Id.{Id}
use Rattle.epx_types.specs.declared.reply.Reply.{Reply}
use Rattle.epx_types.specs.Instances.{Instance}
use Rattle.epx_types.specs.Contents.{Contents}
use Rattle.epx_types.specs.CommittedMap.{commands_in}
use Rattle.epx_types.specs.Execution.{Execution, execute}
use Rattle.epx_report.specs.ReportLines.{reply_line, store_line}

-- the commands of the instances, executed one after another from the empty store; an instance that
-- is not committed has no operations
abbrev pub list_execution : List Instance → List Id → Execution
list_execution m ids = execute (commands_in m ids) contents.empty

-- the reply lines, then the lines of the store by rising key
abbrev pub said_text : List (Id × Reply) → Contents → List ℕ
said_text replies stored =
    flat_map reply_line replies ++ flat_map store_line (contents.entries stored)

-- the replies of the instances and the store after them, in the lines of a report
abbrev pub replay_text : List Instance → List Id → List ℕ
replay_text m ids =
    let e = list_execution m ids in said_text (zip ids e.replies) e.final
