use Rattle.std.proofs.Common.{All, rules, subst, sym}
use Rattle.std.proofs.lemmas.List.Elements.{All-nil}
use Rattle.epx_follow.specs.inner.LinesAhead.{IsReadRight}
use Rattle.epx_follow.proofs.LineAheadLemmas.{All-answers}
use Rattle.epx_follow.proofs.lines_ahead.read_all.Goals as goal

pub invariant_of-result : goal.invariant_of-result
invariant_of-result g c = (
  subst (All IsReadRight) (sym c.new.ensures.items) (All-nil IsReadRight),
  All-answers _ (λ part. All IsReadRight part.items) c.pieces-pieces.result
      c.in_ok-others.others.items
      (λ i x answer. let right : All IsReadRight x.items = search rules in right)
      c.in_ok-others.ensures.ok,
)
