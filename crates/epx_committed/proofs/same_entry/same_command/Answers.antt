use Rattle.std.proofs.lemmas.Slice.Eq.{slice_eq-Decides}
use Rattle.epx_types.proofs.Common.{op_eq-Decides}
use Rattle.epx_committed.proofs.same_entry.same_command.Goals as goal

pub returns : goal.returns
returns c = slice_eq-Decides op_eq-Decides _ _ _ c.eq.ensures
