use Rattle.std.proofs.Common.{[], sym}
use Rattle.epx_types.proofs.Common.{get_or_from_slice_get, Instance}
use Rattle.epx_compare.proofs.members.entry_at.Goals as goal

pub returns : goal.returns
returns c =
    let none : Instance =
    record { id = record { replica = 0; number = 0 }; seq = 0; deps = []; ops = [] } in
    sym (get_or_from_slice_get c.args.versions.now.keys c.args.number c.entry.result.now none
    c.entry.ensures)
