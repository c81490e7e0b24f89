use Rattle.epx_ranking.proofs.PrefixLemmas.{IsLawfulPrefix-from_lawful, IsPrefixFault-from_order}
use Rattle.epx_ranking.proofs.PrefixLemmas.{IsLawful-from_prefix, IsOrderFault-from_prefix}
use Rattle.epx_ranking.proofs.laws.whole_lists_are_checked_alike.Goals as goal

pub returns : goal.returns
returns c = record {
  lawful = λ m ids whole. (IsLawful-from_prefix m ids whole, IsLawfulPrefix-from_lawful m ids);
  fault = λ m ids whole f.
      (IsOrderFault-from_prefix m ids whole f, IsPrefixFault-from_order m ids whole f);
}
