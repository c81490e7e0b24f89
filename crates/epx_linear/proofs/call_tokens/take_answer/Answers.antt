use Rattle.std.proofs.Common.{◌≡◌, [], ◌∷◌, Some, option_map, refl, ap, arith}
use Rattle.json.specs.Json.{after_end_array}
use Rattle.epx_lines.specs.between.Tokens.{ReadsValues}
use Rattle.epx_linear.proofs.call_tokens.take_answer.Goals as goal

pub returns-then-take_end_array : goal.returns-then-take_end_array
returns-then-take_end_array c =
    let end : after_end_array c.args.reader.now ≡ Some c.take_end_array.new.self = grind arith in
    (c.args.reader.now, ([], refl, refl), end)

pub returns : goal.returns
returns c =
    let y = c.in_ok-reply.ensures in
    let same : c.take_end_array.new.self ≡ c.args.reader.now = grind arith in
    let end : after_end_array c.take_reply.new.reader ≡ Some c.take_end_array-2.new.self =
    grind arith in
    let both : ReadsValues 1 c.args.reader.now (y.0 ∷ y.1 ∷ []) c.take_reply.new.reader =
    rw (← same) y.2 in
    (c.take_reply.new.reader, (y.0 ∷ y.1 ∷ [], both, ap (option_map Some) y.3), end)
