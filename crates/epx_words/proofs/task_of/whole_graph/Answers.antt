use Rattle.std.proofs.Common.{◌≡◌, ◌∙◌, Some, None, ap, codes, sym, option_map}
use Rattle.clap.specs.Words.{found_of, rows_of, first_of}
use Rattle.clap.proofs.WalkLemmas.{first_value-rows}
use Rattle.epx_words.proofs.SubjectLemmas.{NamesPart-not_steps_alone}
use Rattle.epx_words.proofs.task_of.whole_graph.Goals as goal

pub returns-in-None-clause-rows : goal.returns-in-None-clause-rows
returns-in-None-clause-rows c =
    let f = found_of c.args.matches.now in
    let is : None ≡ first_of (codes "steps") (rows_of f) =
    sym (ap (option_map (λ s. s.now)) c.in-None.is)
    ∙ (c.get_str.ensures ∙ first_value-rows f (codes "steps")) in
    (sym c.requires, sym is)

pub returns-in-Some-clause-none : goal.returns-in-Some-clause-none
returns-in-Some-clause-none c =
    let f = found_of c.args.matches.now in
    let is : Some c.in-Some.field-0.now ≡ first_of (codes "steps") (rows_of f) =
    sym (ap (option_map (λ s. s.now)) c.in-Some.is)
    ∙ (c.get_str.ensures ∙ first_value-rows f (codes "steps")) in
    NamesPart-not_steps_alone (rows_of f) c.in-Some.field-0.now c.requires is
