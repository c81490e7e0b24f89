-- Commands executed one after another, and their reply lines.
use Rattle.std.specs.Prelude.{◌≡◌, ℕ, List, ◌++◌, flat_map, zip}
use Rattle.epx_types.specs.declared.id.Id.{Id}
use Rattle.epx_types.specs.declared.op.Op.{Op}
use Rattle.epx_types.specs.declared.reply.Reply.{Reply}
use Rattle.epx_types.specs.Contents.{Contents}
use Rattle.epx_types.specs.Execution.{execute}
use Rattle.epx_report.specs.ReportLines.{reply_line}

-- executing the commands from the contents `before` leaves `after`, with these replies
abbrev pub Executes : List (List Op) → Contents → Contents → List Reply → Type 0
Executes commands before after replies = (after ≡ (execute commands before).final)
    × (replies ≡ (execute commands before).replies)

-- executing the commands from the contents `before` leaves `after`; `longer` is `text` and then the
-- reply lines of the instances, each with the reply of the command at its position
abbrev pub Replays : List Id → List (List Op) → Contents → Contents → List ℕ → List ℕ → Type 0
Replays ids commands before after text longer = (after ≡ (execute commands before).final)
    × (longer ≡ text ++ flat_map reply_line (zip ids (execute commands before).replies))
