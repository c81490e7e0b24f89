use Rattle.epx_types.proofs.Common.{AllPairs-rising_keys, Contains-rising_keys}
use Rattle.epx_types.proofs.Common.{Contains-from_rising_keys}
use Rattle.epx_laws.proofs.commands.keys_rise.Goals as goal

pub returns : goal.returns
returns c = λ ks. (
  AllPairs-rising_keys ks,
  λ k. (Contains-from_rising_keys ks k, Contains-rising_keys ks k),
)
