use Rattle.std.proofs.Common.{◌≡◌, codes, [], ◌∷◌, refl, arith, rules}
use Rattle.serde_json.specs.Data.{string}
use Rattle.epx_lines.proofs.TokenValueLemmas.{ReadsValues-deeper}
use Rattle.epx_report.proofs.NamedFormLemmas.{form_named-executed}
use Rattle.epx_report.proofs.from_tokens.take_header.Goals as goal

pub returns : goal.returns
returns c =
    let e = c.in_ok-executed.ensures in
    let w = c.in_ok-waiting.ensures in
    let n = c.in_ok-take_number.ensures in
    let second : c.in_ok-take_text.field-0.now ≡ codes "waiting" = search rules in
    let third : c.in_ok-take_text-2.field-0.now ≡ codes "components" = search rules in
    let ds = e.0 ∷ string (codes "waiting") ∷ w.0 ∷ string (codes "components") ∷ n.0 ∷ [] in (
      ds,
      ReadsValues-deeper 0 1 _ ds _ (omega arith) (
        _,
        e.1,
        (
          _,
          rw second at c.in_ok-take_text.ensures,
          (_, w.1, (_, rw third at c.in_ok-take_text-2.ensures, (_, n.1, refl))),
        ),
      ),
      form_named-executed e.0 w.0 n.0 _ _ _ e.2 w.2 n.2 (omega arith),
    )
