use Rattle.std.proofs.Common.{refl, inl}
use Rattle.epx_answer_laws.proofs.LawfulPrefixLemmas.{IsLawfulPrefix-from_answer}
use Rattle.epx_answer_laws.proofs.SameLineLemmas.{Contains-same_lines}
use Rattle.epx_answer_laws.proofs.checks.lawful_prefixes_stay.Goals as goal

pub returns : goal.returns
returns c = λ list logs more has n accepted said.
    let m = said.1.0 in
    let ids = said.1.2.0 in
    let is = said.1.2.1 in
    let begins = IsLawfulPrefix-from_answer list logs ids m is said.1.1 said in
    let stays = c.prefixes_stay.ensures m n accepted.committed.rising
    (Contains-same_lines more logs has m n said.1.1 accepted) ids begins in
    (said.0, (n, accepted, (ids, is, inl (stays, refl))))
