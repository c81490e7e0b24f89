use Rattle.std.proofs.Common.{refl}
use Rattle.epx_program.proofs.exit_report.print_text.Goals as goal

pub returns-clause-refused : goal.returns-clause-refused
returns-clause-refused g c = λ other. (refl, refl)

pub returns-clause-failed : goal.returns-clause-failed
returns-clause-failed g c = λ failed. absurd (cc (failed, c.requires))
