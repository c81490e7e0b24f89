use Rattle.std.proofs.Common.{◌≡◌, ◌∙◌, Some, ap, option_map, sym}
use Rattle.clap.specs.Words.{first_of, found_of, rows_of}
use Rattle.clap.proofs.WalkLemmas.{first_value-rows}
use Rattle.epx_words.proofs.read.value_of.Goals as goal

pub returns-in_ok-from_str-in-Some : goal.returns-in_ok-from_str-in-Some
returns-in_ok-from_str-in-Some c =
    let f = found_of c.args.matches.now in
    let is : Some c.in-Some.text.now ≡ first_of c.args.option.now (rows_of f) =
    sym (ap (option_map (λ s. s.now)) c.in-Some.is)
    ∙ (c.get_str.ensures ∙ first_value-rows f c.args.option.now) in
    ap Some c.in_ok-from_str-in-Some.ensures.ok ∙ is

pub returns-in-None : goal.returns-in-None
returns-in-None c =
    let f = found_of c.args.matches.now in
    sym (ap (option_map (λ s. s.now)) c.in-None.is)
    ∙ (c.get_str.ensures ∙ first_value-rows f c.args.option.now)
