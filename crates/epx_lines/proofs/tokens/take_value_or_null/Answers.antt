use Rattle.std.proofs.Common.{◌≡◌, ◌∷◌, w64, to_z, of_z, refl, rules, arith}
use Rattle.json.specs.Token.{Token}
use Rattle.json.specs.Reads.{token_of}
use Rattle.serde_json.specs.Data.{null}
use Rattle.epx_lines.specs.OperationList.{value_or_null}
use Rattle.epx_lines.proofs.OperationValueLemmas.{value_or_null-signed}
use Rattle.epx_lines.proofs.TokenValueLemmas.{ReadsValue-null, ParsesTo-signed}
use Rattle.epx_lines.proofs.tokens.take_value_or_null.Goals as goal

pub returns-in_ok-read_signed-in-Number : goal.returns-in_ok-read_signed-in-Number
returns-in_ok-read_signed-in-Number c =
    let first : c.args.reader.now ≡ token_of c.in_ok-text.field-0 ∷ c.next.new.self =
    grind arith in
    let is : c.args.reader.now ≡ Token.number c.in-Number.text.now ∷ c.next.new.self =
    grind (arith, first) in
    let z = c.in_ok-read_signed-in-Number.field-0 in
    let same : to_z w64 (of_z w64 z) ≡ z = search rules in
    let g = ParsesTo-signed c.in-Number.text.now z (to_z w64 (of_z w64 z)) c.next.new.self
    c.in_ok-read_signed-in-Number.ensures (search rules) same in
    rw is (g.0, g.1, value_or_null-signed g.0 (to_z w64 (of_z w64 z)) g.2)

pub returns-in-Null : goal.returns-in-Null
unfolding value_or_null
returns-in-Null c =
    let first : c.args.reader.now ≡ token_of c.in_ok-text.field-0 ∷ c.next.new.self =
    grind arith in
    let is : c.args.reader.now ≡ Token.null ∷ c.next.new.self = grind (arith, first) in
    rw is (null, ReadsValue-null c.next.new.self, refl)
