use Rattle.epx_compare.proofs.GroupLawLemmas.{AreGroups-groups_of}
use Rattle.epx_compare.proofs.laws.groups_are_of_the_same.Goals as goal

pub returns : goal.returns
returns c = AreGroups-groups_of
