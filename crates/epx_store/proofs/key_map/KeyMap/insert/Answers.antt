use Rattle.std.proofs.Common.{◌∙◌, ap}
use Rattle.std.specs.FinMap as contents
use Rattle.epx_store.proofs.TreeEntryLemmas.{from_entries-inserted}
use Rattle.epx_store.proofs.key_map.KeyMap.insert.Goals as goal

pub returns-clause-ok : goal.returns-clause-ok
returns-clause-ok g c =
    from_entries-inserted c.self.inside.map c.insert.new.self c.args.key c.args.value
    c.in_ok-insert.ensures.updates
    ∙ ap (λ m. contents.insert m c.args.key c.args.value) c.self.view_is
