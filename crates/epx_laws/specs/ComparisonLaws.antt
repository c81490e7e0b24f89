-- Laws of the orders of types.
use Rattle.std.specs.Prelude.{◌≡◌}
use Rattle.epx_types.specs.Keys.{key_cmp}
use Rattle.epx_types.specs.Ids.{id_cmp}
use Rattle.epx_types.specs.PlacedLines.{place_cmp}
use Rattle.epx_types.specs.contracts.key.KeyOrd.TheImpl as key_ord
use Rattle.epx_types.specs.contracts.id.IdOrd.TheImpl as id_ord
use Rattle.epx_types.specs.contracts.place.PlaceOrd.TheImpl as place_ord

-- `cmp` of `Key`, `Id` and `Place` is `key_cmp`, `id_cmp` and `place_cmp`: keys by their bytes, Ids
-- by replica and then number, places by log and then line
pub record OrdersAreAsStated : Type 0 where
  pub keys : key_ord.cmp-value.it ≡ key_cmp
  pub ids : id_ord.cmp-value.it ≡ id_cmp
  pub places : place_ord.cmp-value.it ≡ place_cmp
