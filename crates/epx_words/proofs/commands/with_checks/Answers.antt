use Rattle.std.proofs.Common.{codes, refl}
use Rattle.epx_types.proofs.Common.{IfOk-weaker}
use Rattle.clap.specs.Words.{App, with_subcommand}
use Rattle.epx_words.specs.App.{audit_app, base_app, linear_app, list_app, runs_app}
use Rattle.epx_words.proofs.CommandLemmas.{app_of-with_made}
use Rattle.epx_words.proofs.commands.with_checks.Goals as goal

abbrev to_resume : App
to_resume = with_subcommand runs_app (base_app (codes "resume")).top

abbrev to_audit : App
to_audit = with_subcommand to_resume (audit_app (codes "audit")).top

abbrev to_check : App
to_check = with_subcommand to_audit (list_app (codes "check")).top

abbrev to_verify : App
to_verify = with_subcommand to_check (base_app (codes "verify")).top

pub returns : goal.returns
returns c =
    let one = app_of-with_made c.in_ok-with_runs.field-0 c.in_ok-program.program c.resume.result
    runs_app (base_app (codes "resume")) c.in_ok-program.ensures c.in_ok-with_runs.ensures
    c.resume.ensures refl in
    let two = app_of-with_made c.in_ok-program.program c.in_ok-program-2.program c.audit.result
    to_resume (audit_app (codes "audit")) c.in_ok-program-2.ensures one c.audit.ensures refl in
    let three = app_of-with_made c.in_ok-program-2.program c.in_ok-program-3.program
    c.check.result to_audit (list_app (codes "check")) c.in_ok-program-3.ensures two
    c.check.ensures refl in
    let four = app_of-with_made c.in_ok-program-3.program c.in_ok-program-4.program
    c.verify.result to_check (base_app (codes "verify")) c.in_ok-program-4.ensures three
    c.verify.ensures refl in
    IfOk-weaker c.with_subcommand-5.result _ _ (λ made has. app_of-with_made
    c.in_ok-program-4.program made c.linear.result to_verify (linear_app (codes "linear")) has
    four c.linear.ensures refl) c.with_subcommand-5.ensures
