-- A report is what it has before its replies, the replies, and what it has after them.
use Rattle.std.proofs.Common.{◌≡◌, ◌++◌, ◌∙◌, List, ℕ, length, flat_map, zip, ap, ap₂}
use Rattle.epx_types.proofs.Common.{append_assoc, Contents, Ranked, ranked_ids, component_count}
use Rattle.epx_types.proofs.Common.{Waiting}
use Rattle.epx_types.specs.declared.id.Id.{Id}
use Rattle.epx_types.specs.declared.reply.Reply.{Reply}
use Rattle.std.specs.FinMap as contents
use Rattle.epx_report.specs.ReportLines.{header_line, done_line, reply_line, store_line}
use Rattle.epx_report.specs.ReportLines.{waiting_line}
use Rattle.epx_tool.specs.ResumedReport.{resumed_text}
use Rattle.epx_views.specs.between.OpeningText.{opening_text}

pub resumed_text-parts : (done : List Id) (order : List Ranked) (waiting : List Waiting)
    (ids : List Id) (replies : List Reply) (final : Contents) (front middle more whole : List ℕ)
    → ids ≡ ranked_ids order
    → front ≡ opening_text done order waiting
    → middle ≡ front ++ flat_map reply_line (zip ids replies)
    → more ≡ middle ++ flat_map waiting_line waiting
    → whole ≡ more ++ flat_map store_line (contents.entries final)
    → whole ≡ resumed_text done order waiting (record { replies = replies; final = final })
resumed_text-parts done order waiting ids replies final front middle more whole are is_front
    is_middle is_more is_whole =
    is_whole ∙ ap (λ t. t ++ stored) is_more ∙ append_assoc middle waits stored
    ∙ ap (λ t. t ++ closing) (is_middle ∙ ap₂ ◌++◌ is_front
    (ap (λ xs. flat_map reply_line (zip xs replies)) are))
    ∙ append_assoc (header ++ flat_map done_line done) lines closing
    ∙ append_assoc header (flat_map done_line done) (lines ++ closing)
  where
    header : List ℕ
    header = header_line (length order) (length waiting) (component_count order)

    lines : List ℕ
    lines = flat_map reply_line (zip (ranked_ids order) replies)

    waits : List ℕ
    waits = flat_map waiting_line waiting

    stored : List ℕ
    stored = flat_map store_line (contents.entries final)

    closing : List ℕ
    closing = waits ++ stored
