use Rattle.std.proofs.Common.{◌≡◌, true, false, not, sym, ap, ◌∙◌, subst, rules}
use Rattle.epx_types.proofs.Common.{insert_key, id_cmp, is_among}
use Rattle.epx_report.specs.inner.Progress.{last, is_after_last}
use Rattle.epx_report.specs.inner.IdSets.{with_late, AreRisingAndLate}
use Rattle.epx_report.proofs.IdSetLemmas.{is_among-if_above, AreRisingAndLate-push}
use Rattle.epx_report.proofs.IdSetLemmas.{with_late-pushed, is_among-rising}
use Rattle.epx_report.proofs.IdSetLemmas.{is_among-late, with_late-if_present}
use Rattle.epx_report.proofs.IdSetLemmas.{AreRisingAndLate-insert}
use Rattle.epx_report.proofs.IdSetLemmas.{with_late-inserted}
use Rattle.epx_report.proofs.id_set.IdSet.insert.Goals as goal

pub invariant_of-self-then-is_after_last : goal.invariant_of-self-then-is_after_last
invariant_of-self-then-is_after_last c =
    let past : is_after_last id_cmp (last c.self.inside.rising.items) c.args.id ≡ true =
    search rules in
    subst (λ ids. AreRisingAndLate ids c.self.inside.late.keys) (sym c.in_ok-push.ensures.items)
    (AreRisingAndLate-push c.self.inside.rising.items c.self.inside.late.keys c.self.invariant
    c.args.id past)

pub returns-then-is_after_last-clause-added : goal.returns-then-is_after_last-clause-added
returns-then-is_after_last-clause-added c =
    let past : is_after_last id_cmp (last c.self.inside.rising.items) c.args.id ≡ true =
    search rules in
    is_among-if_above c.self.inside.rising.items c.self.inside.late.keys c.self.invariant c.args.id
    past
    ∙ ap (λ ids. not (is_among ids c.args.id)) c.self.view_is

pub returns-then-is_after_last-clause-ids : goal.returns-then-is_after_last-clause-ids
returns-then-is_after_last-clause-ids c =
    let past : is_after_last id_cmp (last c.self.inside.rising.items) c.args.id ≡ true =
    search rules in
    ap (λ ids. with_late ids c.self.inside.late.keys) c.in_ok-push.ensures.items
    ∙ with_late-pushed c.self.inside.rising.items c.self.inside.late.keys c.self.invariant
    c.args.id past
    ∙ ap (λ ids. insert_key id_cmp ids c.args.id) c.self.view_is

pub returns-then-contains_id-clause-added : goal.returns-then-contains_id-clause-added
returns-then-contains_id-clause-added c =
    let found : is_among c.self.inside.rising.items c.args.id ≡ true = search rules in
    ap not (sym (is_among-rising c.self.inside.rising.items c.self.inside.late.keys c.self.invariant
    c.args.id found) ∙ ap (λ ids. is_among ids c.args.id) c.self.view_is)

pub returns-then-contains_id-clause-ids : goal.returns-then-contains_id-clause-ids
returns-then-contains_id-clause-ids c =
    let found : is_among c.self.inside.rising.items c.args.id ≡ true = search rules in
    subst (λ ids. ids ≡ insert_key id_cmp ids c.args.id) c.self.view_is
    (with_late-if_present c.self.inside.rising.items c.self.inside.late.keys c.self.invariant
    c.args.id found)

pub invariant_of-self-2 : goal.invariant_of-self-2
invariant_of-self-2 c =
    let level : is_after_last id_cmp (last c.self.inside.rising.items) c.args.id ≡ false =
    search rules in
    subst (AreRisingAndLate c.self.inside.rising.items) (sym c.in_ok-insert.ensures.keys)
    (AreRisingAndLate-insert c.self.inside.rising.items c.self.inside.late.keys c.self.invariant
    c.args.id level)

pub returns-clause-added : goal.returns-clause-added
returns-clause-added c =
    let missed : is_among c.self.inside.rising.items c.args.id ≡ false = search rules in
    c.in_ok-insert.ensures.added
    ∙ ap not (is_among-late c.self.inside.rising.items c.self.inside.late.keys c.self.invariant
    c.args.id missed ∙ ap (λ ids. is_among ids c.args.id) c.self.view_is)

pub returns-clause-ids : goal.returns-clause-ids
returns-clause-ids c =
    ap (with_late c.self.inside.rising.items) c.in_ok-insert.ensures.keys
    ∙ with_late-inserted c.self.inside.rising.items c.self.inside.late.keys c.self.invariant
    c.args.id
    ∙ ap (λ ids. insert_key id_cmp ids c.args.id) c.self.view_is
