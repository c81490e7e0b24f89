use Rattle.std.proofs.Common.{◌≡◌, ◌++◌, ap, ◌∙◌}
use Rattle.epx_types.proofs.lists.IdListLemmas.{IsRising-kept}
use Rattle.epx_types.proofs.id_list.sort_unique.Goals as goal

pub returns-clause-rising : goal.returns-clause-rising
returns-clause-rising c =
    (IsRising-kept c.extend_from_slice.new.self.items c.sort_unstable.new.self.items
    c.dedup.new.self.items c.sort_unstable.ensures.permutation c.sort_unstable.ensures.sorted
    c.dedup.ensures.filtered).0

pub returns-clause-exact : goal.returns-clause-exact
returns-clause-exact c =
    let same : c.extend_from_slice.new.self.items ≡ c.args.ids.now =
    c.in_ok-extend_from_slice.ensures.items ∙ ap (λ l. l ++ c.args.ids.now)
    c.new-kept.ensures.items in
    rw same at (IsRising-kept c.extend_from_slice.new.self.items c.sort_unstable.new.self.items
    c.dedup.new.self.items c.sort_unstable.ensures.permutation c.sort_unstable.ensures.sorted
    c.dedup.ensures.filtered).1
