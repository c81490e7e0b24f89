use Rattle.std.proofs.Common.{◌≡◌, ◌∷◌, arith}
use Rattle.json.specs.Token.{Token}
use Rattle.json.specs.Reads.{token_of}
use Rattle.epx_lines.proofs.TokenValueLemmas.{ReadsValue-string}
use Rattle.epx_lines.proofs.tokens.take_text.Goals as goal

pub returns-in-String : goal.returns-in-String
returns-in-String c =
    let first : c.args.reader.now ≡ token_of c.in_ok-text.field-0 ∷ c.next.new.self =
    grind arith in
    let is : c.args.reader.now ≡ Token.string c.in-String.text.now ∷ c.next.new.self =
    grind (arith, first) in
    rw is (ReadsValue-string c.in-String.text.now c.next.new.self)
