use Rattle.std.proofs.Common.{◌≡◌, [], IsUtf8, option_and_then, ap, ◌∙◌, arith, rules}
use Rattle.json.specs.Lex.{tokens}
use Rattle.epx_lines.proofs.JsonTextLemmas.{json_of-some}
use Rattle.epx_lines.proofs.TokenValueLemmas.{ReadsValue-deeper, read-from_tokens}
use Rattle.epx_report.specs.Forms.{form_of}
use Rattle.epx_report.proofs.from_tokens.line_from_tokens.Goals as goal

pub returns : goal.returns
returns c =
    let bytes = c.args.bytes.now in
    let line = c.in_ok-line.ensures in
    let utf8 : IsUtf8 bytes = search rules in
    let over : c.take_line.new.reader ≡ [] = search rules in
    let all : c.in_ok-reader.reader ≡ tokens bytes = search rules in
    let value = json_of-some bytes line.0 (
      utf8,
      read-from_tokens bytes line.0
          (ReadsValue-deeper 2 3 _ line.0 _ (omega arith) (rw (all, over) at line.1)),
    ) in
    ap (option_and_then form_of) value ∙ line.2
