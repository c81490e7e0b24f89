use Rattle.std.proofs.Common.{◌∙◌, sym, ap}
use Rattle.std.specs.FinMap as contents
use Rattle.epx_store.proofs.TreeEntryLemmas.{get-found}
use Rattle.epx_store.proofs.key_map.KeyMap.get.Goals as goal

pub returns : goal.returns
returns g c =
    c.copied.ensures ∙ c.get.ensures.value ∙ sym
    (get-found c.self.inside.map.entries c.args.key.now)
    ∙ ap (λ m. contents.get m c.args.key.now) c.self.view_is
