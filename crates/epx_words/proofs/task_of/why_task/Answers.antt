use Rattle.std.proofs.Common.{◌≡◌, ◌∙◌, Some, None, ap, codes, sym, arith, option_map}
use Rattle.clap.specs.Words.{found_of, rows_of, first_of}
use Rattle.clap.proofs.WalkLemmas.{first_value-rows}
use Rattle.epx_words.proofs.SubjectLemmas.{NameIds-not_bad_end, NameIds-not_bad_first}
use Rattle.epx_words.proofs.SubjectLemmas.{NameIds-not_without_first}
use Rattle.epx_words.proofs.task_of.why_task.Goals as goal

pub returns-in_err-get_str-clause-none : goal.returns-in_err-get_str-clause-none
returns-in_err-get_str-clause-none c =
    let f = found_of c.args.matches.now in
    let is : None ≡ first_of (codes "first") (rows_of f) =
    sym (ap (option_map (λ s. s.now)) c.in_err-get_str.was)
    ∙ (c.get_str.ensures ∙ first_value-rows f (codes "first")) in
    rw c.from_residual.ensures (NameIds-not_without_first (rows_of f) is)

pub returns-in_err-from-clause-none : goal.returns-in_err-from-clause-none
returns-in_err-from-clause-none c =
    let f = found_of c.args.matches.now in
    let is : Some c.in_ok-get_str.field-0.now ≡ first_of (codes "first") (rows_of f) =
    sym (ap (option_map (λ s. s.now)) c.in_ok-get_str.was)
    ∙ (c.get_str.ensures ∙ first_value-rows f (codes "first")) in
    rw c.from_residual-in_err-from.ensures
    (NameIds-not_bad_first (rows_of f) c.in_ok-get_str.field-0.now is c.in_err-from.ensures.none)

pub returns-in_err-read_id-in-Some-clause-none : goal.returns-in_err-read_id-in-Some-clause-none
returns-in_err-read_id-in-Some-clause-none c =
    let f = found_of c.args.matches.now in
    let is : Some c.in-Some.text.now ≡ first_of (codes "reaches") (rows_of f) =
    sym (ap (option_map (λ s. s.now)) c.in-Some.is)
    ∙ (c.get_str-2.ensures ∙ first_value-rows f (codes "reaches")) in
    rw c.from_residual-in_err-read_id-in-Some.ensures
    (NameIds-not_bad_end (rows_of f) c.in-Some.text.now is c.in_err-read_id-in-Some.ensures.none)

pub returns-in-None-clause-rows : goal.returns-in-None-clause-rows
returns-in-None-clause-rows c =
    let f = found_of c.args.matches.now in
    let is : Some c.in_ok-get_str.field-0.now ≡ first_of (codes "first") (rows_of f) =
    sym (ap (option_map (λ s. s.now)) c.in_ok-get_str.was)
    ∙ (c.get_str.ensures ∙ first_value-rows f (codes "first")) in
    let alone : None ≡ first_of (codes "reaches") (rows_of f) =
    sym (ap (option_map (λ s. s.now)) c.in-None.is)
    ∙ (c.get_str-2.ensures ∙ first_value-rows f (codes "reaches")) in
    record {
      named = (
        c.in_ok-get_str.field-0.now,
        sym is,
        ((omega arith, omega arith), c.in_ok-from.ensures.some),
      );
      alone = sym alone;
    }

pub returns-in_ok-read_id-in-Some-clause-rows : goal.returns-in_ok-read_id-in-Some-clause-rows
returns-in_ok-read_id-in-Some-clause-rows c =
    let f = found_of c.args.matches.now in
    let is : Some c.in_ok-get_str.field-0.now ≡ first_of (codes "first") (rows_of f) =
    sym (ap (option_map (λ s. s.now)) c.in_ok-get_str.was)
    ∙ (c.get_str.ensures ∙ first_value-rows f (codes "first")) in
    let end : Some c.in-Some.text.now ≡ first_of (codes "reaches") (rows_of f) =
    sym (ap (option_map (λ s. s.now)) c.in-Some.is)
    ∙ (c.get_str-2.ensures ∙ first_value-rows f (codes "reaches")) in
    record {
      from = (
        c.in_ok-get_str.field-0.now,
        sym is,
        ((omega arith, omega arith), c.in_ok-from.ensures.some),
      );
      to = (
        c.in-Some.text.now,
        sym end,
        ((omega arith, omega arith), c.in_ok-read_id-in-Some.ensures.some),
      );
    }
