use Rattle.std.proofs.lemmas.Slice.Eq.{slice_eq-Decides}
use Rattle.epx_types.proofs.Common.{id_eq-Decides}
use Rattle.epx_committed.proofs.same_entry.same_ids.Goals as goal

pub returns : goal.returns
returns c = slice_eq-Decides id_eq-Decides _ _ _ c.eq.ensures
