use Rattle.std.proofs.Common.{◌≡◌, ◌++◌, [], sym, ap, ◌∙◌, subst, append-nil}
use Rattle.std.proofs.lemmas.Map.Iter.{rest_all}
use Rattle.epx_types.proofs.Common.{IsRising}
use Rattle.epx_types.specs.declared.id.Id.{Id}
use Rattle.epx_lines.proofs.EntryLemmas.{IsRising-fold}
use Rattle.epx_report.proofs.IdSetLemmas.{eq_by_cmp-id, with_late-from_sorted}
use Rattle.epx_report.proofs.id_set.IdSet.into_vec.Goals as goal

pub returns : goal.returns
returns c =
    let none : c.loop-id.id-iterator ≡ [] =
    rest_all (λ (x : Id). x) c.loop-id.id-iterator c.next.new.self c.next.result c.in-None.is
    c.next.ensures.steps in
    let both : c.loop-id.ids.items ≡ c.self.inside.rising.items ++ c.self.inside.late.keys =
    sym (append-nil c.loop-id.ids.items) ∙ ap (λ rest. c.loop-id.ids.items ++ rest) (sym none)
    ∙ c.loop-id.invariant ∙ ap (λ rest. c.self.inside.rising.items ++ rest)
    c.into_iter-id-iterator.ensures.into_iter_gives.0 in
    let ids =
    with_late-from_sorted _ eq_by_cmp-id c.self.inside.rising.items c.self.inside.late.keys
    c.loop-id.ids.items c.sort.new.self.items c.dedup.new.self.items c.self.invariant both
    c.in_ok-sort.ensures.permutation c.in_ok-sort.ensures.sorted c.dedup.ensures.filtered in
    record {
      ids = ids ∙ c.self.view_is;
      rising =
          subst IsRising (sym ids)
          (IsRising-fold c.self.inside.rising.items c.self.inside.late.keys
          c.self.invariant.rises);
    }
