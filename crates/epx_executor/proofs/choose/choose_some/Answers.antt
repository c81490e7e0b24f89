use Rattle.std.proofs.Common.{List, Contains, sym, subst, inl, inr, arith}
use Rattle.epx_types.specs.declared.id.Id.{Id}
use Rattle.epx_executor.specs.inner.Choices.{IsSortedOut, NeedsMissing}
use Rattle.epx_executor.proofs.ChoiceLemmas.{take-each_at_end, take-each_more, IsChoice-gathered}
use Rattle.epx_executor.proofs.ChoiceLemmas.{IsSortedOut-more}
use Rattle.epx_executor.proofs.choose.choose_some.Goals as goal

pub loop-entry-preserved : goal.loop-entry-preserved
loop-entry-preserved c =
    let done = c.args.done.now in
    let filings = c.args.blockers.now in
    let old = c.loop-entry.choice in
    let new = c.sort_out.new.self in
    let noted = c.in_ok-sort_out.ensures in
    let e = c.entry-item.result in
    let P = IsSortedOut done filings new.roots.items new.blocked.items in
    record {
      sorted = take-each_more P c.args.came.now c.loop-entry.entry-index e c.loop-entry-test.true
          (λ d h. IsSortedOut-more done filings old.roots.items new.roots.items old.blocked.items
          new.blocked.items d noted.roots noted.blocked (c.loop-entry.invariant.sorted d h))
          (subst P c.entry-item.is noted.sorted);
      needs = λ x z h. elim (noted.only x z h) [
        | inl before ↦ c.loop-entry.invariant.needs x z before
        | inr now ↦ (
          e,
          (c.loop-entry.entry-index, c.loop-entry-test.true, sym c.entry-item.is),
          now.0,
          now.1,
          subst (λ (ids : List Id). NeedsMissing done c.args.pending.now ids filings e z)
              c.deref.ensures.value now.2,
        )
      ];
    }

pub returns : goal.returns
returns c =
    let done = c.args.done.now in
    let came = c.args.came.now in
    let filings = c.args.blockers.now in
    let choice = c.loop-entry.choice in
    IsChoice-gathered done c.args.pending.now came filings c.in_ok-ids.ids.items
    choice.roots.items c.in_ok-choice.field-0.items choice.blocked.items
    (omega (arith, c.len.ensures.len, c.saturating_add-count.ensures))
    (c.agree.ensures c.if-not-agree.false)
    (record {
      undone = c.requires.left;
      filed = c.requires.filed;
      are = c.in_ok-choice.ensures.filings;
      exact = c.in_ok-ids.ensures.exact;
      needs = c.loop-entry.invariant.needs;
      sorted =
          take-each_at_end (IsSortedOut done filings choice.roots.items choice.blocked.items) came
          c.loop-entry.entry-index c.loop-entry-test.false c.loop-entry.invariant.sorted;
      behind = λ x y h. c.in_ok-choice.ensures.whole x y
          (subst (λ (ids : List Id). Contains ids y) (sym c.deref-2.ensures.value) h);
    })
