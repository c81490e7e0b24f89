use Rattle.std.proofs.Common.{◌++◌, arith}
use Rattle.epx_lines.proofs.TokenValueLemmas.{ReadsValues-deeper, ReadsValues-append}
use Rattle.epx_report.proofs.NamedFormLemmas.{form_named-waiting}
use Rattle.epx_report.proofs.from_tokens.take_waiting.Goals as goal

pub returns : goal.returns
returns c =
    let x = c.in_ok-id.ensures in
    let y = c.in_ok-_missing.ensures in (
      x.0 ++ y.0,
      ReadsValues-deeper 0 1 _ _ _ (omega arith)
          (ReadsValues-append 0 _ x.0 y.0 _ _ x.1 y.1),
      form_named-waiting x.0 y.0 _ _ x.2 y.2,
    )
