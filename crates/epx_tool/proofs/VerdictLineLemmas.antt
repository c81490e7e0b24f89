-- The line of a verdict says what was found of the list.
use Rattle.std.proofs.Common.{◌≡◌, ◌≢◌, ◌⊎◌, ℕ, List, Result, Ok, Err, inl, inr}
use Rattle.epx_types.proofs.Common.{MatchResult}
use Rattle.epx_ranking.specs.declared.order_fault.OrderFault.{OrderFault}
use Rattle.epx_ranking.specs.declared.order_fault.OrderFault.TheVariants.{Memory}
use Rattle.epx_report.specs.ViewLines.{lawful_line}
use Rattle.epx_tool.specs.Verdicts.{order_fault_text}

pub lawful_line-or_fault : (Lawful : Type 0) (IsFault : OrderFault → Type 0)
    (found : Result (Unit {0}) OrderFault) (text : List ℕ)
    → MatchResult found (λ _. Lawful) IsFault
    → MatchResult found (λ _. text ≡ lawful_line)
    (λ fault. (fault ≢ Memory) × (text ≡ order_fault_text fault))
    → (Lawful × (text ≡ lawful_line))
    ⊎ ((fault : OrderFault) × (fault ≢ Memory) × IsFault fault × (text ≡ order_fault_text fault))
lawful_line-or_fault Lawful IsFault (Ok x) text lawful printed = inl (lawful, printed)
lawful_line-or_fault Lawful IsFault (Err fault) text is printed =
    inr (fault, printed.0, is, printed.1)
