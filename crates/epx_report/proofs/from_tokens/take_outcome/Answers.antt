use Rattle.std.proofs.Common.{◌≡◌, codes, refl, arith, rules}
use Rattle.epx_types.proofs.Common.{IfSome_then}
use Rattle.serde_json.specs.Data.{string}
use Rattle.epx_lines.proofs.TokenValueLemmas.{ReadsValue-deeper}
use Rattle.epx_report.proofs.NamedFormLemmas.{is_outcome-ok, is_outcome-abort}
use Rattle.epx_report.proofs.from_tokens.take_outcome.Goals as goal

pub returns-then-eq : goal.returns-then-eq
returns-then-eq c =
    let is : c.in_ok-kind.kind.now ≡ codes "ok" = search rules in
    let kind = ReadsValue-deeper 0 1 c.args.reader.now (string (codes "ok")) c.take_text.new.reader
    (omega arith) (rw is at c.in_ok-kind.ensures) in
    IfSome_then c.take_values.result c.take_values.ensures
    (λ _ g. (string (codes "ok"), g.0, (_, kind, (_, g.1, refl)), is_outcome-ok g.0 g.2))

pub returns-then-eq-2 : goal.returns-then-eq-2
returns-then-eq-2 c =
    let is : c.in_ok-kind.kind.now ≡ codes "abort" = search rules in
    let kind = ReadsValue-deeper 0 1 c.args.reader.now (string (codes "abort"))
    c.take_text.new.reader (omega arith) (rw is at c.in_ok-kind.ensures) in
    IfSome_then c.take_op_index.result c.take_op_index.ensures
    (λ _ g. (
      string (codes "abort"),
      g.0,
      (_, kind, (_, ReadsValue-deeper 0 1 _ g.0 _ (omega arith) g.1, refl)),
      is_outcome-abort g.0 g.2,
    ))
