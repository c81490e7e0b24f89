use Rattle.std.proofs.Common.{◌≡◌, true, Some, rules}
use Rattle.serde_json.specs.Data.{string}
use Rattle.epx_lines.specs.Meaning.{committed_by}
use Rattle.epx_lines.proofs.from_tokens.take_committed.Goals as goal

pub returns-then-branch : goal.returns-then-branch
returns-then-branch c =
    let text = c.in_ok-take_text.field-0.now in
    let committed : committed_by text ≡ Some true = search rules in
    (string text, c.in_ok-take_text.ensures, committed)
