use Rattle.std.proofs.Common.{◌≡◌, ap, ◌∙◌, string_bytes}
use Rattle.std.proofs.lemmas.Str.{IsUtf8-string_bytes}
use Rattle.serde_json.specs.Written.{has_float, compact_text}
use Rattle.epx_lines.specs.Text.{line_text}
use Rattle.epx_lines.proofs.FloatLemmas.{no_float-line}
use Rattle.epx_lines.proofs.WrittenLineLemmas.{read-object, meaning_of-written}
use Rattle.epx_lines.proofs.write.write_line.Goals as goal

-- the text of the entry's object
text : (c : goal.Joined-value-2) → string_bytes c.in_ok-to_string.field-0
    ≡ line_text c.args.entry.now
text c =
    let is_object = c.in_ok-value.ensures.data in
    c.in_ok-to_string.ensures.text (ap has_float is_object ∙ no_float-line c.args.entry.now)
    ∙ ap compact_text is_object

pub returns-clause-text : goal.returns-clause-text
returns-clause-text c = text c

pub returns-clause-means : goal.returns-clause-means
returns-clause-means c =
    let back = read-object c.args.entry.now (string_bytes c.in_ok-to_string.field-0) _
    c.in_ok-value.ensures.data c.in_ok-to_string.ensures.reads_back in
    meaning_of-written c.args.entry.now (string_bytes c.in_ok-to_string.field-0)
    (IsUtf8-string_bytes c.in_ok-to_string.field-0) back (text c) c.in_ok-value.ensures.fits

pub returns-clause-short : goal.returns-clause-short
returns-clause-short c = rw (text c) c.in_ok-value.ensures.fits.short
