-- What a comparison of logs says, in two clauses and in one.
use Rattle.std.proofs.Common.{◌≡◌, ◌↔◌, ℕ, List, Result, Ok, Err, true, IfOk}
use Rattle.epx_types.proofs.Common.{MatchResult}
use Rattle.epx_types.specs.declared.fault.Fault.{Fault}
use Rattle.epx_compare.specs.declared.comparison.Comparison.{Comparison}
use Rattle.epx_compare.specs.ComparisonAnswers.{Compares, IsComparisonResult}
use Rattle.epx_compare.specs.Comparisons.{HasFindings}

module _ (logs : List (List ℕ)) where
  abbrev pub HasAnswer : Result Comparison Fault → Type 0
  HasAnswer result = MatchResult result (λ c. Compares logs (Ok c.text.items))
      (λ fault. Compares logs (Err fault))

  abbrev pub SaysFound : Result Comparison Fault → Type 0
  SaysFound result = IfOk result (λ c. (c.has_findings ≡ true) ↔ HasFindings logs)

  pub HasAnswer-from_result : (result : Result Comparison Fault) → IsComparisonResult logs result
      → HasAnswer result
  HasAnswer-from_result (Ok c) is = is.0
  HasAnswer-from_result (Err fault) is = is

  pub SaysFound-from_result : (result : Result Comparison Fault) → IsComparisonResult logs result
      → SaysFound result
  SaysFound-from_result (Ok c) is = is.1
  SaysFound-from_result (Err fault) is = tt
