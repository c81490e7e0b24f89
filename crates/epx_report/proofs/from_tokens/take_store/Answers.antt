use Rattle.std.proofs.Common.{◌≡◌, [], ◌∷◌, Some, w64, to_z, of_z, refl, sym, ap, ◌∙◌, arith, rules}
use Rattle.epx_lines.proofs.TokenValueLemmas.{ReadsValues-deeper}
use Rattle.epx_report.proofs.NamedFormLemmas.{form_named-store}
use Rattle.epx_report.proofs.from_tokens.take_store.Goals as goal

pub returns : goal.returns
returns c =
    let k = c.in_ok-key.ensures in
    let v = c.in_ok-value.ensures in
    let same : to_z w64 (of_z w64 c.in_ok-value.value) ≡ c.in_ok-value.value = search rules in
    let ds = k.0 ∷ v.0 ∷ [] in (
      ds,
      ReadsValues-deeper 0 1 _ ds _ (omega arith) (_, k.1, (_, v.1, refl)),
      form_named-store k.0 v.0 _ _ k.2 (v.2 ∙ ap Some (sym same)),
    )
