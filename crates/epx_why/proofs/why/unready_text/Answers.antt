use Rattle.std.proofs.Common.{◌≡◌, ◌<◌, ◌≤◌, ◌∙◌, ℕ, Bool, true, false, List, Some, slice_get, sym}
use Rattle.std.proofs.Common.{ap, subst, inl, inr}
use Rattle.epx_types.proofs.Common.{cases_lt, slice_get_within}
use Rattle.epx_why.specs.declared.need.Need.{Need}
use Rattle.epx_why.specs.Needs.{AreNeedsOf, AreNeeding}
use Rattle.epx_why.proofs.WhyTextLemmas.{IsWhyText-absent, IsWhyText-missing, IsWhyText-waiting}
use Rattle.epx_why.proofs.WhyTextLemmas.{IsReady-no_needs}
use Rattle.epx_why.proofs.why.unready_text.Goals as goal

not_committed : {b : Bool} (k n : ℕ) → (k < n → b ≡ true) → b ≡ false → n ≤ k
not_committed k n there not_so =
    elim (cases_lt k n) [
      | inl l ↦ let is = there l in absurd (cc (is, not_so))
      | inr past ↦ past
    ]

pub returns-in_default : goal.returns-in_default
returns-in_default c m of =
    IsWhyText-absent m c.args.graph.now of c.args.id c.in_default.ensures
    c.in_ok-missing_text.field-0.items c.in_ok-missing_text.ensures

pub is_committed-requires : goal.is_committed-requires
is_committed-requires c =
    slice_get_within c.args.graph.now.ids c.in-Some.node c.args.id c.in-Some.ensures

pub find_needing-requires-clause-node : goal.find_needing-requires-clause-node
find_needing-requires-clause-node c =
    slice_get_within c.args.graph.now.ids c.in-Some.node c.args.id c.in-Some.ensures

pub returns-then-not-is_committed : goal.returns-then-not-is_committed
returns-then-not-is_committed c m of =
    let g = c.args.graph.now in
    let x = c.args.id in
    let k = c.in-Some.node in
    let past : g.committed ≤ k = not_committed k g.committed c.is_committed.ensures.1
    c.if-not-is_committed.true in
    IsWhyText-missing m g of x k c.in-Some.ensures past c.deref.result.now
    (subst (AreNeeding m x) (sym c.deref.ensures.value)
    (c.in_ok-find_needing.ensures m x of c.in-Some.ensures))
    c.in_ok-missing_text-2.field-0.items c.in_ok-missing_text-2.ensures

pub returns-in-Some-first : goal.returns-in-Some-first
returns-in-Some-first c m of =
    let g = c.args.graph.now in
    let x = c.args.id in
    let k = c.in-Some.node in
    let needs = c.deref-in-Some-first.result.now in
    let first = c.in-Some-first.first.now in
    let low : k < g.committed = c.is_committed.ensures.0 c.if-not-is_committed.false in
    let at_first : Some first ≡ slice_get needs 0 = c.in-Some-first.ensures.value
    ∙ ap (λ (ns : List Need). slice_get ns 0)
    (c.deref-2.ensures.value ∙ sym c.deref-in-Some-first.ensures.value) in
    IsWhyText-waiting m g of x k c.in-Some.ensures low needs first at_first
    (subst (AreNeedsOf m x) (sym c.deref-in-Some-first.ensures.value)
    (c.in_ok-needs.ensures m x of c.in-Some.ensures))
    c.in_ok-waiting_text-in-Some-first.field-0.items c.in_ok-waiting_text-in-Some-first.ensures

pub returns : goal.returns
returns c m of =
    let g = c.args.graph.now in
    let low : c.in-Some.node < g.committed = c.is_committed.ensures.0
    c.if-not-is_committed.false in
    IsReady-no_needs m g of c.args.id c.in-Some.node c.in-Some.ensures low
    c.in_ok-needs.needs.items
    (c.in-None.ensures.value ∙ ap (λ (ns : List Need). slice_get ns 0) c.deref-2.ensures.value)
    (c.in_ok-needs.ensures m c.args.id of c.in-Some.ensures)
