use Rattle.std.proofs.Common.{◌≡◌, ◌+◌, sym, ap, subst, List, Bool, length, Contains, ◌∙◌}
use Rattle.std.specs.Bool.{if◌then◌else◌}
use Rattle.std.specs.BTreeSet.{contains}
use Rattle.epx_types.proofs.Common.{id_cmp}
use Rattle.epx_types.specs.declared.id.Id.{Id}
use Rattle.epx_executor.specs.inner.Filings.{AreSeen}
use Rattle.epx_executor.proofs.FilingSearchLemmas.{AreAppended-none, AreSeen-more, Contains-seen}
use Rattle.epx_executor.proofs.FilingSearchLemmas.{true-from_not}
use Rattle.epx_executor.proofs.blockers.push_unseen.Goals as goal

pub returns-in_ok-push-clause-seen : goal.returns-in_ok-push-clause-seen
returns-in_ok-push-clause-seen c =
    subst (AreSeen c.insert.new.self) (sym {A = List Id} c.in_ok-push.ensures.items)
    (AreSeen-more c.args.seen.now c.insert.new.self c.args.found.now.items c.args.id c.requires
    c.in_ok-insert.ensures.ordered c.in_ok-insert.ensures.updates
    (c.in_ok-insert.ensures.len
    ∙ ap (λ (t : Bool). length c.args.seen.now.keys + (if t then 1 else 0)) c.if-branch.true))

pub returns-else-branch-clause-appended : goal.returns-else-branch-clause-appended
returns-else-branch-clause-appended c =
    AreAppended-none (λ x. x ≡ c.args.id) c.args.found.now.items
    (λ x e. subst (Contains c.args.found.now.items) (sym e)
    (Contains-seen c.args.seen.now c.args.found.now.items c.args.id c.requires
    (true-from_not (contains id_cmp c.args.seen.now c.args.id) c.in_ok-insert.field-0
    c.in_ok-insert.ensures.added c.if-branch.false)))
