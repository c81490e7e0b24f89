use Rattle.std.proofs.Common.{w64}
use Rattle.std.proofs.Math.Facts.{Fits-or, Fits-of_lt, Fits-lt-pow}
use Rattle.epx_audit.proofs.BitLemmas.{has_bit-candidates}
use Rattle.epx_audit.proofs.batch.bits_without.Goals as goal

pub returns : goal.returns
returns c b l =
    let fits =
    Fits-lt-pow (Fits-or {w = w64} {a = c.args.first} {b = c.args.second}
    (Fits-of_lt c.ranges.first.fits) (Fits-of_lt c.ranges.second.fits)) in
    let both = has_bit-candidates c.args.word c.args.first c.args.second b l fits in (
      (λ h. let own = both.0 h in record { has = own.0; first = own.1; second = own.2 }),
      λ own. both.1 (own.has, own.first, own.second),
    )
