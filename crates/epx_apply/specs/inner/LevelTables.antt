-- Tables whose numbers are levels, and the steps by which the keys of a command are added.
use Rattle.std.specs.Prelude.{ℕ, max, ◌<◌, Bool, List, [], ◌∷◌, ◌++◌, if◌then◌else◌, length}
use Rattle.std.specs.Prelude.{slice_set, Contains}
use Rattle.epx_types.specs.declared.op.Op.{Op}
use Rattle.epx_apply.specs.declared.key_table.KeyLevels.{KeyLevels}
use Rattle.epx_apply.specs.declared.key_table.TableAccess.{TableAccess}
use Rattle.epx_apply.specs.between.KeyTables.{KeyTableView, key_levels_at, IsKeyTableOf}
use Rattle.epx_apply.specs.between.KeyTables.{IsLeastAbove}

-- t is the table of the done commands with their levels, which are below the number of commands
pub record IsLevelTableOf (done : List (List Op × ℕ)) (t : KeyTableView) : Type 0 where
  pub small : (ops : List Op) (l : ℕ) → Contains done (ops, l) → l < length done
  pub table : IsKeyTableOf done [] t

-- the new table has these further accesses of the current command
abbrev pub AddsAccesses : List (List ℕ × Bool) → KeyTableView → KeyTableView → Type 0
AddsAccesses more old new = (done : List (List Op × ℕ)) (current : List (List ℕ × Bool))
    → IsKeyTableOf done current old → IsKeyTableOf done (current ++ more) new

-- the least level that one access allows
abbrev pub level_for : List KeyLevels → TableAccess → ℕ
level_for key_levels a = if a.writes then (key_levels_at key_levels a.key).touchers else
    (key_levels_at key_levels a.key).writers

-- the levels of the key of an access, raised to at least n
abbrev pub raise : ℕ → List KeyLevels → TableAccess → List KeyLevels
raise n key_levels a = slice_set key_levels a.key (record {
  writers = if a.writes then max (key_levels_at key_levels a.key).writers n else
      (key_levels_at key_levels a.key).writers;
  touchers = max (key_levels_at key_levels a.key).touchers n;
})

-- one more command, with its level
abbrev pub AddsCommand : List Op → ℕ → KeyTableView → KeyTableView → Type 0
AddsCommand ops level old new = (done : List (List Op × ℕ)) → IsLevelTableOf done old
    → IsLeastAbove done ops level × IsLevelTableOf (done ++ (ops, level) ∷ []) new
