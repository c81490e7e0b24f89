use Rattle.std.proofs.Common.{◌≡◌, ◌∙◌, Some, None, ap, codes, sym, true≢false, option_map}
use Rattle.epx_types.proofs.Common.{bytes_eq-Decides}
use Rattle.clap.specs.Words.{first_of, found_of, rows_of}
use Rattle.clap.proofs.WalkLemmas.{first_value-rows}
use Rattle.epx_words.proofs.task_of.has_flag.Goals as goal

pub returns-in-Some : goal.returns-in-Some
returns-in-Some c =
    let f = found_of c.args.matches.now in
    let is : Some c.in-Some.value.now ≡ first_of c.args.flag.now (rows_of f) =
    sym (ap (option_map (λ s. s.now)) c.in-Some.is)
    ∙ (c.get_str.ensures ∙ first_value-rows f c.args.flag.now) in
    let same = bytes_eq-Decides c.in-Some.value.now (codes "true") in (
      λ e. sym is ∙ ap Some (same.0 (sym c.eq.ensures ∙ e)),
      λ has.
          let both : Some c.in-Some.value.now ≡ Some (codes "true") = is ∙ has in
          let equal : c.in-Some.value.now ≡ codes "true" = cc both in
          c.eq.ensures ∙ same.1 equal,
    )

pub returns-in-None : goal.returns-in-None
returns-in-None c =
    let f = found_of c.args.matches.now in
    let is : None ≡ first_of c.args.flag.now (rows_of f) =
    sym (ap (option_map (λ s. s.now)) c.in-None.is)
    ∙ (c.get_str.ensures ∙ first_value-rows f c.args.flag.now) in (
      λ e. absurd (true≢false (sym e)),
      λ has.
          let both : None ≡ Some (codes "true") = is ∙ has in
          absurd (cc both),
    )
