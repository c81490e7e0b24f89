use Rattle.std.proofs.Common.{◌≡◌, [], ◌∷◌, Some, refl, arith, rules}
use Rattle.json.specs.Token.{Token}
use Rattle.json.specs.Json.{after_end_array}
use Rattle.json.specs.Reads.{token_of}
use Rattle.serde_json.specs.Data.{string}
use Rattle.epx_lines.specs.OperationList.{op_with_key, op_of_list, op_of}
use Rattle.epx_lines.proofs.TokenValueLemmas.{ParsesAllTo-array, op_of_list-op_pair}
use Rattle.epx_lines.proofs.TokenValueLemmas.{op_of_list-op_triple}
use Rattle.epx_lines.proofs.from_tokens.take_op.Goals as goal

pub returns-then-take_end_array : goal.returns-then-take_end_array
unfolding op_of
returns-then-take_end_array c =
    let first : c.args.reader.now ≡ token_of c.in_ok-next.field-0 ∷ c.next.new.self =
    grind arith in
    let opens : c.args.reader.now ≡ Token.begin_array ∷ c.next.new.self = grind (arith, first) in
    let end : after_end_array c.take_key.new.reader ≡ Some c.take_end_array.new.self =
    grind arith in
    let name = c.in_ok-name.name.now in
    let key = c.in_ok-key.ensures in
    let op : op_with_key name c.in_ok-key.key ≡ Some c.in_ok-op_named.field-0 = search rules in
    rw opens (ParsesAllTo-array 0 op_of_list _ _ c.take_key.new.reader _ (
      string name ∷ key.0 ∷ [],
      (_, c.in_ok-name.ensures, (_, key.1, refl)),
      op_of_list-op_pair name key.0 _ _ key.2 op,
    ) end)

pub returns : goal.returns
unfolding op_of
returns c =
    let first : c.args.reader.now ≡ token_of c.in_ok-next.field-0 ∷ c.next.new.self =
    grind arith in
    let opens : c.args.reader.now ≡ Token.begin_array ∷ c.next.new.self = grind (arith, first) in
    let same : c.take_end_array.new.self ≡ c.take_key.new.reader = grind arith in
    let end : after_end_array c.take_op_with.new.reader ≡ Some c.take_end_array-2.new.self =
    grind arith in
    let name = c.in_ok-name.name.now in
    let key = c.in_ok-key.ensures in
    let g = c.in_ok-op.ensures in
    rw opens (ParsesAllTo-array 0 op_of_list _ _ c.take_op_with.new.reader _ (
      string name ∷ key.0 ∷ g.0 ∷ [],
      (_, c.in_ok-name.ensures, (_, key.1, (_, rw (← same) g.1, refl))),
      op_of_list-op_triple name key.0 _ g.0 _ key.2 g.2,
    ) end)
