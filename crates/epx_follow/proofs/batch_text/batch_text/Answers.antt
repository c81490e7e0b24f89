use Rattle.std.proofs.Common.{◌∙◌, ap, ℕ, List, [], ◌∷◌, ◌++◌}
use Rattle.serde_json.specs.Written.{compact_text}
use Rattle.epx_report.specs.ReportLines.{line_feed}
use Rattle.serde_json.specs.View.{view}
use Rattle.epx_follow.proofs.BatchTextLemmas.{batch_text-written}
use Rattle.epx_follow.proofs.batch_text.batch_text.Goals as goal

pub returns : goal.returns
returns c =
    batch_text-written c.args.came c.args.waiting c.args.ids.now c.args.replies.now
    (view c.in_ok-came_value.field-0) c.append_line.new.text.items
    c.append_replies.new.text.items c.requires.same c.in_ok-came_value.ensures.data
    (c.in_ok-append_line.ensures ∙ ap (λ (t : List ℕ). t ++ (compact_text
    (view c.in_ok-came_value.field-0) ++ line_feed ∷ [])) c.new-text.ensures.items)
    c.in_ok-append_replies.ensures
