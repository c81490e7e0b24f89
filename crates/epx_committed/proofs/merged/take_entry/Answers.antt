use Rattle.std.proofs.Common.{◌≡◌, Some, Vec, slice_get, length, option_and_then, refl, sym, ap}
use Rattle.std.proofs.Common.{◌∙◌}
use Rattle.epx_types.proofs.Common.{get_or_from_slice_get, slice_get_read, slice_get_within, Global}
use Rattle.epx_types.proofs.Common.{Placed}
use Rattle.epx_committed.proofs.LineRowLemmas.{line_at-in_list}
use Rattle.epx_committed.proofs.TakenEntryLemmas.{line_at-other_row}
use Rattle.epx_committed.proofs.merged.take_entry.Goals as goal

module _ (c : goal.After-lists-1) where
  list_there : slice_get c.args.lists.now.items c.args.row.list ≡ Some c.index_mut.result.now
  list_there =
      let from = line_at-in_list c.args.lists.now.items c.requires.0 c.args.row c.requires.1.0 in
      slice_get_read c.args.lists.now.items (length c.args.lists.now.items) c.args.row.list
      c.index_mut.result.now refl
      (slice_get_within c.args.lists.now.items c.args.row.list from.0 from.1)
      c.index_mut.ensures.value

pub returns-clause-entry : goal.returns-clause-entry
returns-clause-entry c = λ p there.
    let in_list : slice_get c.index_mut.result.now.items c.args.row.at ≡ Some p =
    sym (ap (option_and_then (λ (l : Vec Placed Global). slice_get l.items c.args.row.at))
    (list_there c)) ∙ there in
    c.replace_entry.ensures.taken
    ∙ ap (λ (q : Placed). q.instance) (c.index_mut-2.ensures.value
    ∙ get_or_from_slice_get c.index_mut.result.now.items c.args.row.at p c.index_mut-2.result.now
    in_list)

pub returns-clause-others : goal.returns-clause-others
returns-clause-others c =
    line_at-other_row c.args.lists.now.items c.args.row c.requires.0 c.replace_entry.new.self
    c.requires.1 c.index_mut.result.now (list_there c)
