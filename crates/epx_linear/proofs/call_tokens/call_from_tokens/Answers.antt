use Rattle.std.proofs.Common.{◌≡◌, [], IsUtf8, option_and_then, ap, ◌∙◌, arith, rules}
use Rattle.json.specs.Lex.{tokens}
use Rattle.epx_lines.proofs.JsonTextLemmas.{json_of-some}
use Rattle.epx_lines.proofs.TokenValueLemmas.{ReadsValue-deeper, read-from_tokens}
use Rattle.epx_linear.specs.HistoryLines.{call_from}
use Rattle.epx_linear.proofs.call_tokens.call_from_tokens.Goals as goal

pub returns : goal.returns
returns c =
    let bytes = c.args.bytes.now in
    let call = c.in_ok-call.ensures in
    let utf8 : IsUtf8 bytes = search rules in
    let over : c.take_call.new.reader ≡ [] = search rules in
    let all : c.in_ok-reader.reader ≡ tokens bytes = search rules in
    let value = json_of-some bytes call.0 (
      utf8,
      read-from_tokens bytes call.0
          (ReadsValue-deeper 2 3 _ call.0 _ (omega arith) (rw (all, over) at call.1)),
    ) in
    ap (option_and_then call_from) value ∙ call.2
