use Rattle.epx_compare.proofs.MemberLemmas.{AreDiffering-from_first}
use Rattle.epx_compare.proofs.members.Members.differing.Goals as goal

pub returns-in-Some : goal.returns-in-Some
returns-in-Some c = AreDiffering-from_first c.args.versions.now.keys c.entry_at.result.now
    c.in-Some.first.now c.in-Some.later.now c.args.numbers.now c.from_first.result
    c.in-Some.ensures.cases.0 c.entry_at.ensures
    c.from_first.ensures.seq c.from_first.ensures.deps c.from_first.ensures.ops
