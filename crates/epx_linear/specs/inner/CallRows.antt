-- The instances of the calls of a history, with the positions of the calls.
use Rattle.std.specs.Prelude.{◌≡◌, ℕ, List, map, Option, Some, Contains, position, slice_get}
use Rattle.epx_types.specs.declared.id.Id.{Id}
use Rattle.epx_types.specs.contracts.id.IdPartialEq.TheImpl as id_eq
use Rattle.epx_linear.specs.declared.call_table.CallRow.{CallRow}

-- the position of an Id, from 0
abbrev pub id_position : List Id → Id → Option ℕ
id_position ids x = position (id_eq.eq-value.it x) ids

-- the rows of Ids, in any order
pub record AreCallRows (ids : List Id) (rows : List CallRow) : Type 0 where
  pub each : (r : CallRow) → Contains rows r → slice_get ids r.at ≡ Some r.id
  pub whole : (k : ℕ) (x : Id) → slice_get ids k ≡ Some x
      → Contains rows (record { id = x; at = k })

-- the rows of Ids, in their order
pub record AreRowsInOrder (ids : List Id) (rows : List CallRow) : Type 0 where
  pub named : map (λ r. r.id) rows ≡ ids
  pub places : (k : ℕ) (r : CallRow) → slice_get rows k ≡ Some r → r.at ≡ k
