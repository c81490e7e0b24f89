-- Conflicts between commands, by the text of their operations. Covered maps, in which commands
-- that conflict are related.
use Rattle.std.specs.Prelude.{◌≢◌, ◌⊎◌, ℕ, List, [], ◌∷◌, Contains}
use Rattle.epx_types.specs.declared.op.Op.{Op}
use Rattle.epx_types.specs.Instances.{Instance}
use Rattle.epx_types.specs.CommandKeys.{touched_keys, written_keys}
use Rattle.epx_types.specs.Readiness.{IsReady}
use Rattle.epx_types.specs.Reaching.{Reaches}

-- one command writes a key that the other touches
abbrev pub Conflict : List Op → List Op → Type 0
Conflict a b = (k : List ℕ)
    × ((Contains (written_keys a) k × Contains (touched_keys b) k)
    ⊎ (Contains (touched_keys a) k × Contains (written_keys b) k))

-- the command a conflicts with none of the others
abbrev pub NoConflictWith : List Op → List (List Op) → Type 0
NoConflictWith a others = (b : List Op) → Contains others b → ¬ Conflict a b

-- no two of the commands conflict
abbrev pub NoneConflict : List (List Op) → Type 0
NoneConflict [] = Unit {0}
NoneConflict (a ∷ others) = NoConflictWith a others × NoneConflict others

-- of any two ready instances that conflict, one reaches the other
abbrev pub IsCovered : List Instance → Type 0
IsCovered m = (d e : Instance) → Contains m d → Contains m e → d.id ≢ e.id → IsReady m d.id
    → IsReady m e.id → Conflict d.ops e.ops → Reaches m d.id e.id ⊎ Reaches m e.id d.id
