use Rattle.std.proofs.Common.{◌≡◌, ◌∙◌, ◌∷◌, ap, ap₂, codes, map, rules, sym, Some, option_map}
use Rattle.epx_types.proofs.Common.{string_bytes}
use Rattle.clap.specs.Words.{found_of, rows_of}
use Rattle.clap.proofs.CallerLemmas.{some_of_text}
use Rattle.clap.proofs.WalkLemmas.{first_value-rows}
use Rattle.epx_words.specs.SubcommandRows.{first_in}
use Rattle.epx_words.proofs.read.first_and_logs.Goals as goal

pub unwrap-first-requires : goal.unwrap-first-requires
unwrap-first-requires c =
    let f = found_of c.args.matches.now in
    some_of_text (λ s. s.now) c.get_str.result (first_in (rows_of f))
    (c.get_str.ensures ∙ first_value-rows f (codes "first")) c.requires

pub returns : goal.returns
returns c =
    let f = found_of c.args.matches.now in
    let read : c.get_str.result ≡ Some c.unwrap-first.result = search rules in
    let first_is : first_in (rows_of f) ≡ Some c.unwrap-first.result.now =
    sym (c.get_str.ensures ∙ first_value-rows f (codes "first"))
    ∙ ap (option_map (λ s. s.now)) read in
    let copied : string_bytes c.in_ok-from_str.field-0 ≡ c.unwrap-first.result.now =
    search rules in
    let items : c.insert.new.self.items ≡ c.in_ok-from_str.field-0 ∷ c.in_ok-paths.paths.items =
    search rules in (
      c.unwrap-first.result.now,
      first_is,
      ap Some (ap (map string_bytes) items ∙ ap₂ (λ p ps. p ∷ ps) copied c.in_ok-paths.ensures),
    )
