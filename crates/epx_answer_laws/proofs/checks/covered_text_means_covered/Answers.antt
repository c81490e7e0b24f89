use Rattle.std.proofs.Common.{refl, inl}
use Rattle.epx_tool.proofs.CoveredTextLemmas.{IsCovered-if_reported}
use Rattle.epx_answer_laws.proofs.checks.covered_text_means_covered.Goals as goal

pub returns : goal.returns
returns c = λ logs m accepted. (
  IsCovered-if_reported logs m accepted,
  λ covered. (m, accepted, inl (covered, refl)),
)
