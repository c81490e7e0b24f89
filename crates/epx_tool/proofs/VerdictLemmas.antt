-- A list has exactly one verdict: that it is good, as a lawful order or a prefix of one, or
-- its fault.
use Rattle.std.proofs.Common.{◌≡◌, ◌≢◌, ◌⊎◌, ℕ, List, refl, sym, ap, ◌∙◌, inl, inr}
use Rattle.json.specs.Print.{escape_byte}
use Rattle.epx_types.proofs.Common.{ids_of, IsRising, Instance, IsLawfulPrefix, IsLawful}
use Rattle.epx_types.specs.declared.id.Id.{Id}
use Rattle.epx_ranking.specs.declared.order_fault.OrderFault.{OrderFault}
use Rattle.epx_ranking.specs.declared.order_fault.OrderFault.TheVariants.{Memory, Stranger, Repeat}
use Rattle.epx_ranking.specs.declared.order_fault.OrderFault.TheVariants.{Missing, Early, Sequence}
use Rattle.epx_ranking.specs.PrefixFaults.{IsPrefixFault}
use Rattle.epx_ranking.specs.OrderFaults.{IsOrderFault}
use Rattle.epx_ranking.proofs.PrefixFaultLemmas as prefix
use Rattle.epx_ranking.proofs.PrefixLemmas.{IsPrefixFault-not_lawful}
use Rattle.epx_ranking.proofs.OrderFaultLemmas.{IsLawful-or_fault}
use Rattle.epx_ranking.proofs.UniqueFaultLemmas.{IsOrderFault-is_unique, IsOrderFault-not_lawful}
use Rattle.epx_report.specs.ViewLines.{lawful_line}
use Rattle.epx_tool.specs.Verdicts.{order_fault_text, IsVerdict, IsPrefixVerdict}

-- no fault has the text of a lawful order
lawful_line-apart : (fault : OrderFault) → ¬ (lawful_line ≡ order_fault_text fault)
unfolding escape_byte
lawful_line-apart Memory e = cc e
lawful_line-apart (Stranger place) e = cc e
lawful_line-apart (Repeat place) e = cc e
lawful_line-apart (Missing x) e = cc e
lawful_line-apart (Early place) e = cc e
lawful_line-apart (Sequence place) e = cc e

module _ (Good : Type 0) (IsFault : OrderFault → Type 0) where
  abbrev HasFault : Type 0
  HasFault = (fault : OrderFault) × (fault ≢ Memory) × IsFault fault

  -- the list is good, or has the fault that the text names
  abbrev IsVerdictBy : List ℕ → Type 0
  IsVerdictBy text = (Good × (text ≡ lawful_line))
      ⊎ ((fault : OrderFault) × (fault ≢ Memory) × IsFault fault
      × (text ≡ order_fault_text fault))

  verdict_exists_by : Good ⊎ HasFault → (text : List ℕ) × IsVerdictBy text
  verdict_exists_by (inl good) = (lawful_line, inl (good, refl))
  verdict_exists_by (inr f) = (order_fault_text f.0, inr (f.0, f.1, f.2, refl))

  good-from_verdict : IsVerdictBy lawful_line → Good
  good-from_verdict (inl a) = a.0
  good-from_verdict (inr a) = absurd (lawful_line-apart a.0 a.3)

  module _ (none : (fault : OrderFault) → fault ≢ Memory → Good → ¬ IsFault fault) where
    lawful_line-from_good : (text : List ℕ) → IsVerdictBy text → Good → text ≡ lawful_line
    lawful_line-from_good text (inl a) good = a.1
    lawful_line-from_good text (inr a) good = absurd (none a.0 a.1 good a.2)

    verdict_is_one_by : ((f g : OrderFault) → f ≢ Memory → g ≢ Memory → IsFault f → IsFault g
        → f ≡ g) → (text other : List ℕ) → IsVerdictBy text → IsVerdictBy other → text ≡ other
    verdict_is_one_by one text other (inl a) q = a.1 ∙ sym (lawful_line-from_good other q a.0)
    verdict_is_one_by one text other p (inl b) = lawful_line-from_good text p b.0 ∙ sym b.1
    verdict_is_one_by one text other (inr a) (inr b) =
        a.3 ∙ ap order_fault_text (one a.0 b.0 a.1 b.1 a.2 b.2) ∙ sym b.3

module _ (m : List Instance) (ids : List Id) where
  -- ---- as an order

  pub IsVerdict-exists : IsRising (ids_of m) → (text : List ℕ) × IsVerdict m ids text
  IsVerdict-exists rising =
      verdict_exists_by (IsLawful m ids) (IsOrderFault m ids) (IsLawful-or_fault m ids rising)

  pub IsVerdict-is_unique : (text other : List ℕ) → IsVerdict m ids text → IsVerdict m ids other
      → text ≡ other
  IsVerdict-is_unique = verdict_is_one_by (IsLawful m ids) (IsOrderFault m ids)
      (IsOrderFault-not_lawful m ids) (IsOrderFault-is_unique m ids)

  pub lawful-from_verdict : IsVerdict m ids lawful_line → IsLawful m ids
  lawful-from_verdict = good-from_verdict (IsLawful m ids) (IsOrderFault m ids)

  pub lawful_line-from_lawful : (text : List ℕ) → IsVerdict m ids text → IsLawful m ids
      → text ≡ lawful_line
  lawful_line-from_lawful =
      lawful_line-from_good (IsLawful m ids) (IsOrderFault m ids) (IsOrderFault-not_lawful m ids)

  -- ---- as a prefix

  pub IsPrefixVerdict-exists : IsRising (ids_of m) → (text : List ℕ) × IsPrefixVerdict m ids text
  IsPrefixVerdict-exists rising = verdict_exists_by (IsLawfulPrefix m ids)
      (IsPrefixFault m ids) (prefix.IsLawfulPrefix-or_fault m ids rising)

  pub IsPrefixVerdict-is_unique : (text other : List ℕ) → IsPrefixVerdict m ids text
      → IsPrefixVerdict m ids other → text ≡ other
  IsPrefixVerdict-is_unique = verdict_is_one_by (IsLawfulPrefix m ids) (IsPrefixFault m ids)
      (IsPrefixFault-not_lawful m ids) (prefix.IsPrefixFault-is_unique m ids)

  pub lawful_prefix-from_verdict : IsPrefixVerdict m ids lawful_line → IsLawfulPrefix m ids
  lawful_prefix-from_verdict = good-from_verdict (IsLawfulPrefix m ids) (IsPrefixFault m ids)

  pub lawful_line-from_prefix : (text : List ℕ) → IsPrefixVerdict m ids text
      → IsLawfulPrefix m ids → text ≡ lawful_line
  lawful_line-from_prefix = lawful_line-from_good (IsLawfulPrefix m ids)
      (IsPrefixFault m ids) (IsPrefixFault-not_lawful m ids)

  -- one that finds something is a fault
  pub prefix_fault-from_verdict : (text : List ℕ) → IsPrefixVerdict m ids text
      → text ≢ lawful_line → (fault : OrderFault) × (fault ≢ Memory) × IsPrefixFault m ids fault
      × (text ≡ order_fault_text fault)
  prefix_fault-from_verdict text (inl good) other = absurd (other good.1)
  prefix_fault-from_verdict text (inr bad) other = bad

  -- and one that finds nothing is none
  pub lawful_prefix-if_none : (text : List ℕ) → IsPrefixVerdict m ids text
      → ¬ (text ≢ lawful_line) → IsLawfulPrefix m ids × (text ≡ lawful_line)
  lawful_prefix-if_none text (inl good) same = good
  lawful_prefix-if_none text (inr bad) same =
      absurd (same (λ e. lawful_line-apart bad.0 (sym e ∙ bad.3)))
