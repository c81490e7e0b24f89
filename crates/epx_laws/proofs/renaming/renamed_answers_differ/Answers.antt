use Rattle.epx_laws.proofs.RenamedAnswerLemmas.{renamed_reply-IsInjective}
use Rattle.epx_laws.proofs.RenamedAnswerLemmas.{renamed_contents-IsInjective}
use Rattle.epx_laws.proofs.renaming.renamed_answers_differ.Goals as goal

pub returns : goal.returns
returns c =
    record { replies = renamed_reply-IsInjective; contents = renamed_contents-IsInjective }
