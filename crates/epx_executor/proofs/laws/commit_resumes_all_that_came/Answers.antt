use Rattle.std.proofs.Common.{inl, inr}
use Rattle.epx_executor.proofs.CallLineLemmas.{Contains-merged}
use Rattle.epx_executor.proofs.RemainderLemmas.{remaining-same}
use Rattle.epx_executor.proofs.laws.commit_resumes_all_that_came.Goals as goal

pub returns : goal.returns
returns c = λ came before after replies commit all rising same.
    let other = Contains-merged before.done before.pending came commit.other commit.merged in
    remaining-same before.done all commit.other rising commit.merged.committed.rising
    (λ e left. (
      λ h. (other e).1 (elim ((same e left).0 h)
          [ inl old ↦ inl old | inr new ↦ inr (new, left) ]),
      λ h. (same e left).1 (elim ((other e).0 h)
          [ inl old ↦ inl old | inr new ↦ inr new.0 ]),
    ))
