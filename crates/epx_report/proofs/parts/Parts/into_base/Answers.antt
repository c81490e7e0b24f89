use Rattle.std.proofs.Common.{◌≡◌, ◌∙◌, ◌++◌, false, length, sym, ap₂, subst, rules}
use Rattle.std.specs.FinMap as contents
use Rattle.epx_types.proofs.Common.{list_any, IsPermutation, is_among, IsRising}
use Rattle.epx_report.specs.Bases.{BaseParts}
use Rattle.epx_report.specs.between.PutPairs.{put_pairs}
use Rattle.epx_report.proofs.LinesByKindLemmas.{IsBaseOf-if_counted}
use Rattle.epx_report.proofs.parts.Parts.into_base.Goals as goal

pub returns : goal.returns
returns g c =
    let p = c.args.self in
    let ids = c.in-Some.ids.items in
    let replies : length p.replied ≡ p.counts.executed = search rules in
    let waits : length p.waiting ≡ p.counts.waiting = search rules in
    let sorted : IsRising ids
    × IsPermutation (c.self.inside.done.items ++ c.self.inside.replied.items) ids =
    search rules in
    let filled : c.in_ok-store.field-0 ≡ put_pairs c.self.inside.stored.items contents.empty =
    search rules in
    let any : c.is_any_done.result ≡ false = search rules in
    let none : list_any (λ x. is_among ids x) c.self.inside.waiting.items ≡ false =
    sym (ap₂ (λ is ws. list_any (λ x. is_among is x) ws) c.deref-2.ensures.value
    c.deref.ensures.value)
    ∙ sym c.is_any_done.ensures ∙ any in
    let is = c.self.view_is in
    λ rise. rw (c.new.ensures.done, c.new.ensures.stored)
    (IsBaseOf-if_counted p ids c.in_ok-store.field-0 replies waits sorted.0
    (subst (λ (q : BaseParts). IsPermutation (q.done ++ q.replied) ids) is sorted.1)
    (subst (λ (q : BaseParts). list_any (λ x. is_among ids x) q.waiting ≡ false) is none)
    (subst (λ (q : BaseParts). c.in_ok-store.field-0 ≡ put_pairs q.stored contents.empty) is
    filled) rise)
