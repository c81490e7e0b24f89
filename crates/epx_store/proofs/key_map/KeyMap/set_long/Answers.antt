use Rattle.std.proofs.Common.{◌∙◌, ap, rules}
use Rattle.std.specs.FinMap as contents
use Rattle.epx_store.proofs.TreeEntryLemmas.{from_entries-inserted}
use Rattle.epx_store.proofs.key_map.KeyMap.set_long.Goals as goal

pub returns-in-Some-clause-ok : goal.returns-in-Some-clause-ok
returns-in-Some-clause-ok g c =
    from_entries-inserted c.self.inside.map (c.get_mut.follows.lender c.args.value) c.args.key.now
    c.args.value ((c.get_mut.follows.holds c.args.value).3 (search rules))
    ∙ ap (λ m. contents.insert m c.args.key.now c.args.value) c.self.view_is
