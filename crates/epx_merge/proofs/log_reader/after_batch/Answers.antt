use Rattle.std.proofs.Common.{rules}
use Rattle.epx_merge.specs.between.ReadFaults.{IsReadFault, refused_among}
use Rattle.epx_merge.proofs.ReadFaultLemmas.{IsReadFault-append}
use Rattle.epx_merge.proofs.log_reader.after_batch.Goals as goal

pub returns-in_err-noted : goal.returns-in_err-noted
returns-in_err-noted g c = λ lines cut drops noted read.
    let fault = c.in_err-noted.field-0.0 in
    let refuses = g.N.Notes.refuses_bad_lines in
    let bad : IsReadFault (refused_among refuses lines) fault = search (rules, noted) in
    let all = IsReadFault-append refuses lines cut fault bad in
    search (rules, all)
