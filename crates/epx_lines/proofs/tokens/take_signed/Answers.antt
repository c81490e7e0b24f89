use Rattle.std.proofs.Common.{◌≡◌, ◌∷◌, w64, to_z, of_z, rules, arith}
use Rattle.json.specs.Token.{Token}
use Rattle.json.specs.Reads.{token_of}
use Rattle.epx_lines.proofs.TokenValueLemmas.{ParsesTo-signed}
use Rattle.epx_lines.proofs.tokens.take_signed.Goals as goal

pub returns : goal.returns
returns c =
    let first : c.args.reader.now ≡ token_of c.in_ok-text.field-0 ∷ c.next.new.self =
    grind arith in
    let is : c.args.reader.now ≡ Token.number c.in-Number.text.now ∷ c.next.new.self =
    grind (arith, first) in
    let z = c.in_ok-read_signed.field-0 in
    let same : to_z w64 (of_z w64 z) ≡ z = search rules in
    rw is (ParsesTo-signed c.in-Number.text.now z _ c.next.new.self c.in_ok-read_signed.ensures
    (search rules) same)
