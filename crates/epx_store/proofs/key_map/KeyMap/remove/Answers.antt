use Rattle.std.proofs.Common.{◌∙◌, ap}
use Rattle.std.specs.FinMap as contents
use Rattle.epx_store.proofs.TreeEntryLemmas.{from_entries-removed}
use Rattle.epx_store.proofs.key_map.KeyMap.remove.Goals as goal

pub returns : goal.returns
returns g c =
    from_entries-removed c.self.inside.map c.remove.new.self c.args.key.now
    c.remove.ensures.updates
    ∙ ap (λ m. contents.remove m c.args.key.now) c.self.view_is
