use Rattle.std.proofs.Common.{◌≡◌, ◌∙◌, Some, None, ap, codes, subst, sym, true≢false, MatchOption}
use Rattle.std.proofs.Common.{option_map}
use Rattle.clap.specs.Words.{found_of, rows_of, first_of}
use Rattle.clap.proofs.WalkLemmas.{first_value-rows}
use Rattle.epx_types.proofs.Common.{FitsKey}
use Rattle.epx_words.proofs.task_of.trace_task.Goals as goal

pub returns-in_err-get_str-clause-none : goal.returns-in_err-get_str-clause-none
returns-in_err-get_str-clause-none c =
    let f = found_of c.args.matches.now in
    let is : None ≡ first_of (codes "first") (rows_of f) =
    sym (ap (option_map (λ s. s.now)) c.in_err-get_str.was)
    ∙ (c.get_str.ensures ∙ first_value-rows f (codes "first")) in
    rw c.from_residual.ensures (λ named. subst (λ o. MatchOption o ⊥ FitsKey) (sym is) named)

pub returns-in_err-key-clause-none : goal.returns-in_err-key-clause-none
returns-in_err-key-clause-none c =
    let f = found_of c.args.matches.now in
    let is : Some c.in_ok-get_str.field-0.now ≡ first_of (codes "first") (rows_of f) =
    sym (ap (option_map (λ s. s.now)) c.in_ok-get_str.was)
    ∙ (c.get_str.ensures ∙ first_value-rows f (codes "first")) in
    rw c.from_residual-in_err-key.ensures (λ named. true≢false (sym (c.in_err-key.ensures.fits.1
    (subst (λ o. MatchOption o ⊥ FitsKey) (sym is) named))))

pub returns-clause-rows : goal.returns-clause-rows
returns-clause-rows c =
    let f = found_of c.args.matches.now in
    let is : Some c.in_ok-get_str.field-0.now ≡ first_of (codes "first") (rows_of f) =
    sym (ap (option_map (λ s. s.now)) c.in_ok-get_str.was)
    ∙ (c.get_str.ensures ∙ first_value-rows f (codes "first")) in
    (sym is ∙ ap Some (sym c.in_ok-key.ensures.name), c.has_flag.ensures)
