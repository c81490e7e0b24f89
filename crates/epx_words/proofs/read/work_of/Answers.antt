use Rattle.std.proofs.Common.{◌≡◌, List, Some, rules}
use Rattle.epx_types.proofs.Common.{IfOk-weaker}
use Rattle.clap.specs.Words.{Row, Text, found_of, rows_of, subcommand_rows_of}
use Rattle.epx_words.specs.SubcommandRows.{rows_in}
use Rattle.epx_words.proofs.WorkLemmas.{IsMeaningOf-no_log, IsMeaningOf-no_subject}
use Rattle.epx_words.proofs.read.work_of.Goals as goal

pub returns-in_default-task_of : goal.returns-in_default-task_of
returns-in_default-task_of c =
    let named : Text × List Row = (c.in-Some.name.now, rows_of (found_of c.in-Some.given.now)) in
    let are : subcommand_rows_of c.args.matches.now ≡ Some named = search rules in
    IfOk-weaker c.refuse_subject.result _ _
    (λ asked is. IsMeaningOf-no_subject (subcommand_rows_of c.args.matches.now) named asked are
    c.in_default-task_of.ensures.none is) c.refuse_subject.ensures

pub returns-then-not-names_logs : goal.returns-then-not-names_logs
returns-then-not-names_logs c =
    let are : rows_in (subcommand_rows_of c.args.matches.now)
    ≡ rows_of (found_of c.in-Some.given.now) = search rules in
    IfOk-weaker c.refuse_status.result _ _
    (λ asked is. IsMeaningOf-no_log (subcommand_rows_of c.args.matches.now) _ c.names_logs.result
    asked
    are c.names_logs.ensures c.if-not-names_logs.true is) c.refuse_status.ensures
