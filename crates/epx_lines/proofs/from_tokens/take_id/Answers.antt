use Rattle.std.proofs.Common.{◌≡◌, ◌∷◌, Some, arith}
use Rattle.json.specs.Token.{Token}
use Rattle.json.specs.Json.{after_end_array}
use Rattle.json.specs.Reads.{token_of}
use Rattle.epx_lines.specs.DependencyList.{id_of_pair, id_of}
use Rattle.epx_lines.proofs.TokenValueLemmas.{ParsesAllTo-array}
use Rattle.epx_lines.proofs.from_tokens.take_id.Goals as goal

pub returns : goal.returns
unfolding id_of
returns c =
    let first : c.args.reader.now ≡ token_of c.in_ok-next.field-0 ∷ c.next.new.self =
    grind arith in
    let is : c.args.reader.now ≡ Token.begin_array ∷ c.next.new.self = grind (arith, first) in
    let end : after_end_array c.take_id_parts.new.reader ≡ Some c.take_end_array.new.self =
    grind arith in
    rw is (ParsesAllTo-array 0 id_of_pair _ _ _ _ c.in_ok-id.ensures end)
