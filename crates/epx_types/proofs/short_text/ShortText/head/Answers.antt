use Rattle.std.proofs.Common.{◌∙◌}
use Rattle.epx_types.proofs.keys.ShortTextLemmas.{head_of-short_text, from_be_bytes-head}
use Rattle.epx_types.proofs.short_text.ShortText.head.Goals as goal

pub returns-clause-head : goal.returns-clause-head
returns-clause-head c =
    let text = c.args.self.now in
    c.from_be_bytes.ensures ∙ from_be_bytes-head text.bytes ∙ head_of-short_text _ _ text.fits

pub returns-clause-bytes : goal.returns-clause-bytes
returns-clause-bytes c = c.args.self.now.fits.2
