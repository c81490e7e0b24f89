use Rattle.std.proofs.Common.{◌≡◌, ◌∷◌, arith}
use Rattle.json.specs.Token.{Token}
use Rattle.json.specs.Reads.{token_of}
use Rattle.epx_lines.proofs.TokenValueLemmas.{ParsesTo-number}
use Rattle.epx_lines.proofs.tokens.take_number.Goals as goal

pub returns : goal.returns
returns c =
    let first : c.args.reader.now ≡ token_of c.in_ok-text.field-0 ∷ c.next.new.self =
    grind arith in
    let is : c.args.reader.now ≡ Token.number c.in-Number.text.now ∷ c.next.new.self =
    grind (arith, first) in
    rw is (ParsesTo-number c.in-Number.text.now _ c.next.new.self c.in_ok-read_unsigned.ensures
    (omega arith))
