-- What a report has before its replies.
use Rattle.std.specs.Prelude.{List, ℕ, ◌++◌, length, flat_map}
use Rattle.epx_types.specs.declared.id.Id.{Id}
use Rattle.epx_types.specs.ExecutionOrder.{Ranked, component_count}
use Rattle.epx_types.specs.WaitingLists.{Waiting}
use Rattle.epx_report.specs.ReportLines.{header_line, done_line}

-- the header line of a report, and the done lines
abbrev pub opening_text : List Id → List Ranked → List Waiting → List ℕ
opening_text done order waiting =
    header_line (length order) (length waiting) (component_count order) ++ flat_map done_line done
