use Rattle.epx_laws.proofs.PrefixLemmas.{reply-prefix}
use Rattle.epx_laws.proofs.prefixes.prefixes_reply_alike.Goals as goal

pub returns : goal.returns
returns c = λ m rising covered ids whole prefix.
    reply-prefix m rising covered ids prefix.0 whole prefix.1
