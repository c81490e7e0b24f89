use Rattle.std.proofs.Common.{◌≡◌, ◌∙◌, codes, Some, refl, sym, ap, arith, rules}
use Rattle.serde_json.specs.Data.{string}
use Rattle.epx_lines.proofs.TokenValueLemmas.{ReadsValue-deeper}
use Rattle.epx_linear.proofs.CallTokenLemmas.{reply_of-ok, reply_of-abort}
use Rattle.epx_linear.proofs.call_tokens.take_reply.Goals as goal

pub returns-in_ok-take_values : goal.returns-in_ok-take_values
returns-in_ok-take_values c =
    let is : c.in_ok-kind.kind.now ≡ codes "ok" = search rules in
    let kind = ReadsValue-deeper 0 1 c.args.reader.now (string (codes "ok")) c.take_text.new.reader
    (omega arith) (rw is at c.in_ok-kind.ensures) in
    let g = c.in_ok-take_values.ensures in
    let read = g.2 ∙ ap Some (sym c.new.ensures) in
    (string (codes "ok"), g.0, (_, kind, (_, g.1, refl)), reply_of-ok g.0 c.new.result read)

pub returns-in_ok-take_op_index : goal.returns-in_ok-take_op_index
returns-in_ok-take_op_index c =
    let is : c.in_ok-kind.kind.now ≡ codes "abort" = search rules in
    let kind = ReadsValue-deeper 0 1 c.args.reader.now (string (codes "abort"))
    c.take_text.new.reader (omega arith) (rw is at c.in_ok-kind.ensures) in
    let g = c.in_ok-take_op_index.ensures in (
      string (codes "abort"),
      g.0,
      (_, kind, (_, ReadsValue-deeper 0 1 _ g.0 _ (omega arith) g.1, refl)),
      reply_of-abort g.0 _ g.2,
    )
