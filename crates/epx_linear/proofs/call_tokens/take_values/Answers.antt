use Rattle.std.proofs.Common.{◌≡◌, [], ◌∷◌, ◌++◌, Some, arith, rules}
use Rattle.json.specs.Token.{Token}
use Rattle.json.specs.Json.{after_end_array}
use Rattle.json.specs.Reads.{token_of}
use Rattle.epx_lines.specs.OperationList.{value_or_null}
use Rattle.epx_lines.proofs.TokenValueLemmas.{ParsesTo-shorter, HasReadItems-nothing}
use Rattle.epx_lines.proofs.TokenValueLemmas.{HasReadItems-more, HasReadItems-all}
use Rattle.epx_verify.specs.SaidLines.{values_of}
use Rattle.epx_linear.proofs.call_tokens.take_values.Goals as goal

pub loop-values-init : goal.loop-values-init
loop-values-init c =
    let none : c.new-values.result.items ≡ [] = search rules in
    record {
      taken = HasReadItems-nothing 0 value_or_null c.next.new.self _ none;
      few = rw none (omega arith);
    }

pub loop-values-smaller : goal.loop-values-smaller
loop-values-smaller c =
    let same : c.take_end_array.new.self ≡ c.loop-values.reader = grind arith in
    rw (← same) (ParsesTo-shorter 0 value_or_null c.take_end_array.new.self _
    c.take_value_or_null.new.reader c.in_ok-take_value_or_null.ensures)

pub loop-values-preserved : goal.loop-values-preserved
loop-values-preserved c =
    let l = c.loop-values in
    let v = c.in_ok-take_value_or_null.field-0 in
    let same : c.take_end_array.new.self ≡ l.reader = grind arith in
    let pushed : c.push.new.self.items ≡ l.values.items ++ v ∷ [] = grind arith in
    record {
      taken = HasReadItems-more 0 value_or_null c.next.new.self l.values.items c.push.new.self.items
          v c.take_end_array.new.self c.take_value_or_null.new.reader
          (rw same l.invariant.taken) c.in_ok-take_value_or_null.ensures pushed;
      few = rw pushed (grind (arith, l.invariant.few));
    }

pub returns : goal.returns
unfolding values_of
returns c =
    let l = c.loop-values in
    let first : c.args.reader.now ≡ token_of c.in_ok-next.field-0 ∷ c.next.new.self =
    grind arith in
    let is : c.args.reader.now ≡ Token.begin_array ∷ c.next.new.self = grind (arith, first) in
    let end : after_end_array l.reader ≡ Some c.take_end_array.new.self = grind arith in
    rw is (HasReadItems-all 0 value_or_null c.next.new.self 64 l.values.items l.reader
    c.take_end_array.new.self l.invariant.taken end l.invariant.few)
