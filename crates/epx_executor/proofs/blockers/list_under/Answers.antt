use Rattle.std.proofs.Common.{◌∷◌, [], Contains, sym, subst, rules, List}
use Rattle.epx_types.proofs.Common.{Contains-append_left}
use Rattle.epx_types.specs.declared.id.Id.{Id}
use Rattle.epx_executor.proofs.FilingMapLemmas.{Contains-from_listed, IsListed-updated, none-listed}
use Rattle.epx_executor.proofs.blockers.list_under.Goals as goal

pub returns-in_err-push-clause-kept : goal.returns-in_err-push-clause-kept
returns-in_err-push-clause-kept c =
    let list = c.in-Some.list.now in
    IsListed-updated c.args.children.now (c.get_mut.follows.lender c.push.new.self) c.args.under
    c.push.new.self ((c.get_mut.follows.holds c.push.new.self).3 (search rules))
    (λ x h. subst (λ (xs : List Id). Contains xs x) (sym {A = List Id} c.in_err-push.ensures.items)
    (Contains-from_listed c.args.children.now x c.args.under list c.in-Some.ensures.value h))

pub returns-in-Some-clause-kept : goal.returns-in-Some-clause-kept
returns-in-Some-clause-kept c =
    let list = c.in-Some.list.now in
    IsListed-updated c.args.children.now (c.get_mut.follows.lender c.push.new.self) c.args.under
    c.push.new.self ((c.get_mut.follows.holds c.push.new.self).3 (search rules))
    (λ x h. subst (λ (xs : List Id). Contains xs x) (sym {A = List Id} c.in_ok-push.ensures.items)
    (Contains-append_left list.items (c.args.id ∷ []) x
    (Contains-from_listed c.args.children.now x c.args.under list c.in-Some.ensures.value h)))

pub returns-clause-kept : goal.returns-clause-kept
returns-clause-kept c x y h =
    IsListed-updated c.get_mut.follows.lender-at-none c.insert.new.self c.args.under
    c.push-2.new.self c.in_ok-insert.ensures.updates
    (λ z k. absurd (none-listed c.args.children.now z c.args.under c.in_default.ensures.value
    (rw c.get_mut.follows.holds-at-none at k))) x y
    (rw c.get_mut.follows.holds-at-none h)
