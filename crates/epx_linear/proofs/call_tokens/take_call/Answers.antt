use Rattle.std.proofs.Common.{◌≡◌, true, codes, ◌∷◌, ◌++◌, arith, rules}
use Rattle.json.specs.Token.{Token}
use Rattle.json.specs.Reads.{token_of}
use Rattle.serde_json.specs.Data.{string}
use Rattle.epx_lines.specs.between.Tokens.{ReadsValues}
use Rattle.epx_lines.proofs.TokenValueLemmas.{ReadsValue-deeper, ReadsValues-deeper}
use Rattle.epx_lines.proofs.TokenValueLemmas.{ReadsValues-append, ParsesAllTo-array}
use Rattle.epx_linear.specs.HistoryLines.{call_from_list, call_from, is_up_to}
use Rattle.epx_linear.proofs.CallTokenLemmas.{HasReturned, HasReturned-unless, call_from_list-said}
use Rattle.epx_linear.proofs.call_tokens.take_call.Goals as goal

pub returns : goal.returns
unfolding call_from
returns c =
    let first : c.args.reader.now ≡ token_of c.in_ok-next.field-0 ∷ c.next.new.self =
    grind arith in
    let is : c.args.reader.now ≡ Token.begin_array ∷ c.next.new.self = grind (arith, first) in
    let named : c.in_ok-take_text.field-0.now ≡ codes "call" = search rules in
    let name = ReadsValue-deeper 0 1 c.next.new.self (string (codes "call")) c.take_text.new.reader
    (omega arith) (rw named at c.in_ok-take_text.ensures) in
    let x = c.in_ok-id.ensures in
    let t = c.in_ok-invoked.ensures in
    let u = c.in_ok-returned.ensures in
    let a = c.in_ok-answer.ensures in
    let es = a.1.0 in
    let times : ReadsValues 1 c.take_id_parts.new.reader (t.0 ∷ u.0 ∷ es) a.0 = (
      _,
      ReadsValue-deeper 0 1 _ t.0 _ (omega arith) t.1,
      (_, ReadsValue-deeper 0 1 _ u.0 _ (omega arith) u.1, a.1.1),
    ) in
    let ds = x.0 ++ t.0 ∷ u.0 ∷ es in
    let all = ReadsValues-append 1 c.take_text.new.reader x.0 (t.0 ∷ u.0 ∷ es)
    c.take_id_parts.new.reader a.0
    (ReadsValues-deeper 0 1 _ x.0 _ (omega arith) x.1) times in
    let up_to : is_up_to c.in_ok-invoked.invoked c.in_ok-returned.returned ≡ true = search rules in
    let fits : HasReturned c.in_ok-returned.returned c.in_ok-answer.answer =
    search (rules, HasReturned-unless) in
    let said = call_from_list-said _ t.0 u.0 _ _ t.2 u.2 up_to x.0 es _ x.2 a.1.2 fits in
    rw is (ParsesAllTo-array 1 call_from_list c.next.new.self _ a.0 _
    (string (codes "call") ∷ ds, (_, name, all), said) a.2)
