use Rattle.std.proofs.lemmas.Str.{IsUtf8-had}
use Rattle.epx_types.proofs.short_text.ShortText.as_str.Goals as goal

pub from_utf8_unchecked-requires : goal.from_utf8_unchecked-requires
from_utf8_unchecked-requires c = IsUtf8-had _ c.args.self.now.fits.1
