use Rattle.std.proofs.Common.{◌≡◌, [], ap, ◌∙◌, IsUtf8, rules}
use Rattle.epx_types.proofs.Common.{IfSome_then}
use Rattle.epx_types.specs.declared.fault.Why.TheVariants.{NotJson}
use Rattle.json.specs.Lex.{tokens}
use Rattle.serde_json.specs.Data.{object}
use Rattle.epx_lines.specs.Meaning.{need, meaning_of_value}
use Rattle.epx_lines.proofs.JsonTextLemmas.{json_of-some}
use Rattle.epx_lines.proofs.TokenValueLemmas.{read-from_tokens}
use Rattle.epx_lines.proofs.from_tokens.entry_from_tokens.Goals as goal

pub returns : goal.returns
returns c =
    let parts = c.in_ok-parts.ensures in
    let utf8 : IsUtf8 c.args.bytes.now = search rules in
    let same : c.in_ok-text.text.now ≡ c.args.bytes.now = search rules in
    let over : c.take_parts.new.reader ≡ [] = search rules in
    let all : c.in_ok-reader.reader ≡ tokens c.args.bytes.now = search rules in
    let value = json_of-some c.args.bytes.now (object parts.0)
    (utf8, read-from_tokens c.args.bytes.now (object parts.0) (rw (all, over) at parts.1)) in
    IfSome_then c.entry_from_parts.result c.entry_from_parts.ensures
    (λ e is. ap (λ o. need NotJson o meaning_of_value) value ∙ is parts.0 parts.2)
