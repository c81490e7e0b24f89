use Rattle.std.proofs.Common.{[], ◌∷◌, ◌++◌, arith}
use Rattle.epx_lines.proofs.TokenValueLemmas.{ReadsValues-deeper, ReadsValues-append}
use Rattle.epx_report.proofs.NamedFormLemmas.{form_named-reply}
use Rattle.epx_report.proofs.from_tokens.take_reply.Goals as goal

pub returns : goal.returns
returns c =
    let x = c.in_ok-id.ensures in
    let y = c.in_ok-take_outcome.ensures in (
      x.0 ++ y.0 ∷ y.1 ∷ [],
      ReadsValues-append 1 _ x.0 (y.0 ∷ y.1 ∷ []) _ _
          (ReadsValues-deeper 0 1 _ x.0 _ (omega arith) x.1) y.2,
      form_named-reply x.0 _ y.0 y.1 x.2 y.3,
    )
