use Rattle.std.proofs.Common.{◌∙◌, sym, ap, length}
use Rattle.std.specs.FinMap as contents
use Rattle.epx_types.proofs.Common.{entries-from_entries}
use Rattle.epx_store.proofs.TreeEntryLemmas.{is_sorted-from_order}
use Rattle.epx_store.proofs.key_map.KeyMap.len.Goals as goal

pub returns : goal.returns
returns g c =
    c.len.ensures.len
    ∙ ap length
    (sym (entries-from_entries c.self.inside.map.entries
    (is_sorted-from_order c.self.inside.map.entries c.len.ensures.ordered)))
    ∙ sym (contents.len-entries (contents.from_entries c.self.inside.map.entries))
    ∙ ap contents.len c.self.view_is
