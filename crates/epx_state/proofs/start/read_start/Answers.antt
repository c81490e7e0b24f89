use Rattle.std.proofs.Common.{inr, refl, rules}
use Rattle.epx_state.proofs.StartLemmas.{IsStartFault-memory}
use Rattle.epx_state.proofs.start.read_start.Goals as goal

pub returns-in_err-begins_as_state-clause-refused :
    goal.returns-in_err-begins_as_state-clause-refused
returns-in_err-begins_as_state-clause-refused g c =
    let out_of_memory = IsStartFault-memory c.args.bytes.now in search (rules, out_of_memory)

pub returns-clause-restored : goal.returns-clause-restored
returns-clause-restored g c =
    let held = c.in_ok-read_report.ensures.held in inr (held.0, held.1, held.2, held.3, refl)
