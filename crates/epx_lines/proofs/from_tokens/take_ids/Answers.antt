use Rattle.std.proofs.Common.{◌≡◌, [], ◌∷◌, ◌++◌, Some, arith}
use Rattle.epx_types.proofs.Common.{IfSome_then}
use Rattle.json.specs.Token.{Token}
use Rattle.json.specs.Json.{after_end_array}
use Rattle.json.specs.Reads.{token_of}
use Rattle.epx_lines.specs.DependencyList.{id_of}
use Rattle.epx_lines.proofs.TokenValueLemmas.{ParsesTo-shorter, HasReadItems-nothing}
use Rattle.epx_lines.proofs.TokenValueLemmas.{HasReadItems-more, HasReadItems-all}
use Rattle.epx_lines.proofs.from_tokens.take_ids.Goals as goal

pub loop-ids-init : goal.loop-ids-init
loop-ids-init c =
    let none : c.clear.new.self.items ≡ [] = c.clear.ensures.items in
    record {
      taken = HasReadItems-nothing 1 id_of c.next.new.self _ none;
      few = rw none (omega arith);
    }

pub loop-ids-smaller : goal.loop-ids-smaller
loop-ids-smaller c =
    let same : c.take_end_array.new.self ≡ c.loop-ids.reader = grind arith in
    rw (← same) (ParsesTo-shorter 1 id_of c.take_end_array.new.self c.in_ok-take_id.field-0
    c.take_id.new.reader c.in_ok-take_id.ensures)

pub loop-ids-preserved : goal.loop-ids-preserved
loop-ids-preserved c =
    let l = c.loop-ids in
    let same : c.take_end_array.new.self ≡ l.reader = grind arith in
    let pushed : c.push.new.self.items ≡ l.ids.items ++ c.in_ok-take_id.field-0 ∷ [] =
    grind arith in
    record {
      taken = HasReadItems-more 1 id_of c.next.new.self l.ids.items c.push.new.self.items
          c.in_ok-take_id.field-0 c.take_end_array.new.self c.take_id.new.reader
          (rw same l.invariant.taken) c.in_ok-take_id.ensures pushed;
      few = rw pushed (grind (arith, l.invariant.few));
    }

pub returns : goal.returns
returns c =
    let l = c.loop-ids in
    let first : c.args.reader.now ≡ token_of c.in_ok-next.field-0 ∷ c.next.new.self =
    grind arith in
    let is : c.args.reader.now ≡ Token.begin_array ∷ c.next.new.self = grind (arith, first) in
    let end : after_end_array l.reader ≡ Some c.take_end_array.new.self = grind arith in
    IfSome_then c.move_items.result c.move_items.ensures
    (λ v same. rw (is, same)
    (HasReadItems-all 1 id_of c.next.new.self 256 l.ids.items l.reader
    c.take_end_array.new.self l.invariant.taken end l.invariant.few))
