use Rattle.std.proofs.Common.{◌≡◌, ◌∙◌, Some, ap, codes, sym, arith, option_map}
use Rattle.clap.specs.Words.{found_of, rows_of, first_of}
use Rattle.clap.proofs.WalkLemmas.{first_value-rows}
use Rattle.epx_words.proofs.SubjectLemmas.{NamesPart-not_bad_around, NamesPart-not_bad_steps}
use Rattle.epx_words.proofs.task_of.graph_task.Goals as goal

pub whole_graph-requires : goal.whole_graph-requires
whole_graph-requires c =
    let f = found_of c.args.matches.now in
    sym (ap (option_map (λ s. s.now)) c.in-None.is)
    ∙ (c.get_str.ensures ∙ first_value-rows f (codes "around"))

pub returns-in_err-id-in-Some-clause-none : goal.returns-in_err-id-in-Some-clause-none
returns-in_err-id-in-Some-clause-none c =
    let f = found_of c.args.matches.now in
    let is : Some c.in-Some.text.now ≡ first_of (codes "around") (rows_of f) =
    sym (ap (option_map (λ s. s.now)) c.in-Some.is)
    ∙ (c.get_str.ensures ∙ first_value-rows f (codes "around")) in
    rw c.from_residual.ensures
    (NamesPart-not_bad_around (rows_of f) c.in-Some.text.now is c.in_err-id-in-Some.ensures.none)

pub returns-in_err-steps-in-Some-clause-none : goal.returns-in_err-steps-in-Some-clause-none
returns-in_err-steps-in-Some-clause-none c =
    let f = found_of c.args.matches.now in
    let is : Some c.in-Some.text.now ≡ first_of (codes "around") (rows_of f) =
    sym (ap (option_map (λ s. s.now)) c.in-Some.is)
    ∙ (c.get_str.ensures ∙ first_value-rows f (codes "around")) in
    rw c.from_residual-in_err-steps-in-Some.ensures
    (NamesPart-not_bad_steps (rows_of f) c.in-Some.text.now is c.in_err-steps-in-Some.ensures.none)

pub returns-in_ok-steps-in-Some-clause-rows : goal.returns-in_ok-steps-in-Some-clause-rows
returns-in_ok-steps-in-Some-clause-rows c =
    let f = found_of c.args.matches.now in
    let is : Some c.in-Some.text.now ≡ first_of (codes "around") (rows_of f) =
    sym (ap (option_map (λ s. s.now)) c.in-Some.is)
    ∙ (c.get_str.ensures ∙ first_value-rows f (codes "around")) in
    record {
      around = (
        c.in-Some.text.now,
        sym is,
        ((omega arith, omega arith), c.in_ok-id-in-Some.ensures.some),
      );
      within = c.in_ok-steps-in-Some.ensures.some;
    }
