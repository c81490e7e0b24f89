use Rattle.std.proofs.Common.{sym}
use Rattle.epx_types.proofs.Common.{position_of-within, instance_of-position}
use Rattle.epx_committed.proofs.MergedMapLemmas.{instance_of-none}
use Rattle.epx_committed.proofs.merged.Merged.get.Goals as goal

pub entry_at-requires : goal.entry_at-requires
entry_at-requires c = position_of-within c.args.self.now c.args.id c.in-Some.position
    (sym c.in-Some.ensures.position)

pub returns-in-Some : goal.returns-in-Some
returns-in-Some c =
    sym (instance_of-position c.args.self.now c.in-Some.ensures.rising c.args.id c.in-Some.position
    c.entry_at.result.now (sym c.in-Some.ensures.position) c.entry_at.ensures)

pub returns-in-None : goal.returns-in-None
returns-in-None c = instance_of-none c.args.self.now c.in-None.ensures.rising c.args.id
    (sym c.in-None.ensures.position)
