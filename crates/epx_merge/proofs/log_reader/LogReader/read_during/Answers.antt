use Rattle.std.proofs.Common.{rules}
use Rattle.epx_merge.specs.between.ReadFaults.{IsReadFault, refused_among}
use Rattle.epx_merge.proofs.ReadFaultLemmas.{IsReadFault-append}
use Rattle.epx_merge.proofs.log_reader.LogReader.read_during.Goals as goal

pub returns-in-Err-clause-lines : goal.returns-in-Err-clause-lines
returns-in-Err-clause-lines g c = λ lines cut read drops.
    let refuses = g.N.Notes.refuses_bad_lines in
    let bad : IsReadFault (refused_among refuses lines) c.in-Err.fault = search (rules, read) in
    IsReadFault-append refuses lines cut c.in-Err.fault bad

pub returns-clause-lines : goal.returns-clause-lines
returns-clause-lines g c = λ lines cut read drops.
    (rw c.in-Ok.is at c.read_on-read.ensures.lines) lines cut (rw c.in-Ok.is at read) drops
