use Rattle.std.proofs.Common.{◌≡◌, ◌∷◌, Some, arith}
use Rattle.json.specs.Token.{Token}
use Rattle.json.specs.Json.{after_end_array}
use Rattle.json.specs.Reads.{token_of}
use Rattle.serde_json.specs.Data.{string}
use Rattle.epx_report.specs.Forms.{form_of_list, form_of}
use Rattle.epx_lines.proofs.TokenValueLemmas.{ReadsValue-deeper, ParsesAllTo-more}
use Rattle.epx_lines.proofs.TokenValueLemmas.{ParsesAllTo-array}
use Rattle.epx_report.proofs.from_tokens.take_line.Goals as goal

pub returns : goal.returns
unfolding form_of
returns c =
    let first : c.args.reader.now ≡ token_of c.in_ok-next.field-0 ∷ c.next.new.self =
    grind arith in
    let is : c.args.reader.now ≡ Token.begin_array ∷ c.next.new.self = grind (arith, first) in
    let end : after_end_array c.take_named.new.reader ≡ Some c.take_end_array.new.self =
    grind arith in
    let name = ReadsValue-deeper 0 1 _ _ _ (omega arith) c.in_ok-name.ensures in
    rw is (ParsesAllTo-array 1 form_of_list _ _ _ _
    (ParsesAllTo-more 1 form_of_list _ (string c.in_ok-name.name.now) _ _ _ name
    c.in_ok-line.ensures) end)
