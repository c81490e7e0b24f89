use Rattle.epx_compare.proofs.MemberLawLemmas.{MembersAreOfTheDifferent-holds}
use Rattle.epx_compare.proofs.laws.members_are_of_the_different.Goals as goal

pub returns : goal.returns
returns c = MembersAreOfTheDifferent-holds
