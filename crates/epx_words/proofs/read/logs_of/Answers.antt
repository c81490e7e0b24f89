use Rattle.std.proofs.Common.{◌≡◌, ◌∙◌, [], ap, codes, map, sym, option_map, unwrap_or}
use Rattle.epx_types.proofs.Common.{string_bytes, IfOk-weaker}
use Rattle.clap.specs.Words.{found_of, rows_of}
use Rattle.clap.proofs.WalkLemmas.{raw_values-rows}
use Rattle.epx_words.specs.SubcommandRows.{logs_in}
use Rattle.epx_words.proofs.read.logs_of.Goals as goal

pub returns-in-Some : goal.returns-in-Some
returns-in-Some c =
    let f = found_of c.args.matches.now in
    let logs_are : map (λ v. v.now) c.in-Some.logs.now ≡ logs_in (rows_of f) =
    ap (λ o. unwrap_or o []) (sym (ap (option_map (λ s. map (λ v. v.now) s.now)) c.in-Some.is)
    ∙ (c.get_strs.ensures ∙ raw_values-rows f (codes "logs"))) in
    IfOk-weaker c.copies.result _ _ (λ paths copied. copied ∙ logs_are) c.copies.ensures

pub returns-in-None : goal.returns-in-None
returns-in-None c =
    let f = found_of c.args.matches.now in
    let none_are : [] ≡ logs_in (rows_of f) =
    ap (λ o. unwrap_or o []) (sym (ap (option_map (λ s. map (λ v. v.now) s.now)) c.in-None.is)
    ∙ (c.get_strs.ensures ∙ raw_values-rows f (codes "logs"))) in
    ap (map string_bytes) c.new.ensures.items ∙ none_are
