use Rattle.std.proofs.Common.{◌≡◌, ◌∙◌, ℕ, Some, None, ap, codes, sym, refl, subst, arith}
use Rattle.std.proofs.Common.{option_map}
use Rattle.clap.specs.Words.{found_of, rows_of, first_of}
use Rattle.clap.proofs.WalkLemmas.{first_value-rows}
use Rattle.std.specs.Option.{IfSome}
use Rattle.epx_words.specs.Requests.{IsStepsOf}
use Rattle.epx_words.specs.Subjects.{IsNumberName}
use Rattle.epx_words.proofs.task_of.steps_of.Goals as goal

pub returns-in-None-clause-some : goal.returns-in-None-clause-some
returns-in-None-clause-some c =
    let f = found_of c.args.matches.now in
    let is : None ≡ first_of (codes "steps") (rows_of f) =
    sym (ap (option_map (λ s. s.now)) c.in-None.is)
    ∙ (c.get_str.ensures ∙ first_value-rows f (codes "steps")) in
    subst (λ o. IsStepsOf o 1) is refl

pub returns-in_err-steps-in-Some-clause-none : goal.returns-in_err-steps-in-Some-clause-none
returns-in_err-steps-in-Some-clause-none c =
    let f = found_of c.args.matches.now in
    let is : Some c.in-Some.text.now ≡ first_of (codes "steps") (rows_of f) =
    sym (ap (option_map (λ s. s.now)) c.in-Some.is)
    ∙ (c.get_str.ensures ∙ first_value-rows f (codes "steps")) in
    rw c.from_residual.ensures (λ named.
    let number = subst (λ o. IfSome o (λ far. (n : ℕ) × IsNumberName n far)) (sym is) named in
    c.in_err-steps-in-Some.ensures.none number.0 number.1.0 number.1.1)

pub returns-in_ok-steps-in-Some-clause-some : goal.returns-in_ok-steps-in-Some-clause-some
returns-in_ok-steps-in-Some-clause-some c =
    let f = found_of c.args.matches.now in
    let is : Some c.in-Some.text.now ≡ first_of (codes "steps") (rows_of f) =
    sym (ap (option_map (λ s. s.now)) c.in-Some.is)
    ∙ (c.get_str.ensures ∙ first_value-rows f (codes "steps")) in
    subst (λ o. IsStepsOf o c.in_ok-steps-in-Some.steps) is
    (omega arith, c.in_ok-steps-in-Some.ensures.some)
