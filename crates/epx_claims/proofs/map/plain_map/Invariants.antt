use Rattle.std.proofs.Common.{Ok}
use Rattle.epx_claims.specs.between.Answered.{AreOrderedAnswers}
use Rattle.epx_claims.proofs.map.plain_map.Given as goal

abbrev pub invariant-loop-i : goal.invariant-loop-i
invariant-loop-i g l = AreOrderedAnswers (λ i x. goal.F-post g l.f i (Ok x)) l.i l.values.items
