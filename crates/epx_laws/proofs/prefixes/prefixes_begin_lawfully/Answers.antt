use Rattle.std.proofs.Common.{◌++◌, append_assoc, subst}
use Rattle.epx_types.proofs.Common.{IsLawful}
use Rattle.epx_laws.proofs.prefixes.prefixes_begin_lawfully.Goals as goal

pub returns : goal.returns
returns c = λ m ids more prefix. (
  more ++ prefix.0,
  subst (IsLawful m) (append_assoc ids more prefix.0) prefix.1,
)
