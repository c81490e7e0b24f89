use Rattle.std.proofs.Common.{◌≡◌, [], ◌∷◌, ◌++◌, Some, refl, arith, length-append}
use Rattle.json.specs.Token.{Token}
use Rattle.json.specs.Json.{after_end_array}
use Rattle.json.specs.Reads.{token_of}
use Rattle.epx_lines.specs.OperationList.{value_or_null}
use Rattle.epx_lines.proofs.TokenValueLemmas.{ParsesTo-shorter, HasReadItems-nothing}
use Rattle.epx_lines.proofs.TokenValueLemmas.{HasReadItems-more, HasReadItems-all}
use Rattle.epx_report.proofs.ValueListLemmas.{is_value_list-read}
use Rattle.epx_report.proofs.from_tokens.take_values.Goals as goal

pub loop-count-init : goal.loop-count-init
loop-count-init c =
    record {
      taken = ([], HasReadItems-nothing 0 value_or_null c.next.new.self [] refl, refl);
      few = omega arith;
    }

pub loop-count-smaller : goal.loop-count-smaller
loop-count-smaller c =
    let same : c.take_end_array.new.self ≡ c.loop-count.reader = grind arith in
    rw (← same) (ParsesTo-shorter 0 value_or_null c.take_end_array.new.self _
    c.take_value_or_null.new.reader c.in_ok-take_value_or_null.ensures)

pub loop-count-preserved : goal.loop-count-preserved
loop-count-preserved c =
    let l = c.loop-count in
    let t = l.invariant.taken in
    let v = c.in_ok-take_value_or_null.field-0 in
    let same : c.take_end_array.new.self ≡ l.reader = grind arith in
    record {
      taken = (
        t.0 ++ v ∷ [],
        HasReadItems-more 0 value_or_null c.next.new.self t.0 _ v c.take_end_array.new.self
            c.take_value_or_null.new.reader (rw same t.1) c.in_ok-take_value_or_null.ensures refl,
        omega (arith, length-append t.0 (v ∷ []), t.2),
      );
      few = omega arith;
    }

pub returns : goal.returns
returns c =
    let l = c.loop-count in
    let t = l.invariant.taken in
    let first : c.args.reader.now ≡ token_of c.in_ok-next.field-0 ∷ c.next.new.self =
    grind arith in
    let is : c.args.reader.now ≡ Token.begin_array ∷ c.next.new.self = grind (arith, first) in
    let end : after_end_array l.reader ≡ Some c.take_end_array.new.self = grind arith in
    let g = HasReadItems-all 0 value_or_null c.next.new.self 64 t.0 l.reader
    c.take_end_array.new.self t.1 end (omega (arith, t.2, l.invariant.few)) in
    (g.0, rw is g.1, is_value_list-read g.0 _ g.2)
