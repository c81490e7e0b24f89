use Rattle.std.proofs.Common.{◌≡◌, length, map}
use Rattle.epx_linear.proofs.AnswerLemmas.{AreChecked}
use Rattle.epx_linear.proofs.call_answers.check_answers.Given as goal

abbrev pub invariant-loop-call : goal.invariant-loop-call
invariant-loop-call l = (length l.found.items ≡ l.call-index)
    × AreChecked (map (λ c. c.id) l.commands) l.replies l.history l.found.items
