use Rattle.std.proofs.Common.{arith}
use Rattle.epx_lines.proofs.TokenValueLemmas.{ReadsValues-deeper}
use Rattle.epx_report.proofs.NamedFormLemmas.{form_named-done}
use Rattle.epx_report.proofs.from_tokens.take_done.Goals as goal

pub returns : goal.returns
returns c =
    let x = c.in_ok-take_id_parts.ensures in
    (x.0, ReadsValues-deeper 0 1 _ x.0 _ (omega arith) x.1, form_named-done x.0 _ x.2)
