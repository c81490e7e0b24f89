use Rattle.std.proofs.Common.{refl, inl}
use Rattle.epx_tool.proofs.LawfulListLemmas.{IsLawful-if_reported}
use Rattle.epx_answer_laws.proofs.checks.lawful_text_means_lawful.Goals as goal

pub returns : goal.returns
returns c = λ list logs ids m short is accepted. (
  IsLawful-if_reported list logs ids m is accepted,
  λ lawful. (short, (m, accepted, (ids, is, inl (lawful, refl)))),
)
