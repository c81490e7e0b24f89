use Rattle.std.proofs.Common.{[], refl}
use Rattle.epx_types.proofs.Common.{Contains-nil}
use Rattle.epx_merge.proofs.ledger_notes.empty_ledger.Goals as goal

pub returns : goal.returns
returns g c = record {
  read = [];
  pending = [];
  drops = refl;
  clean = refl;
  noted = c.new.ensures;
  given = refl;
  cached = λ m has. absurd (Contains-nil m has);
}
