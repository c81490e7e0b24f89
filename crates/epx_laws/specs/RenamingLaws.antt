-- Laws of renamings: execution commutes with them, and conflicts and orders do not see them.
use Rattle.std.specs.Prelude.{◌≡◌, ◌≢◌, ◌↔◌, ℕ, ℤ, List, Contains, AllPairs, None}
use Rattle.std.specs.FinMap as contents
use Rattle.epx_types.specs.declared.id.Id.{Id}
use Rattle.epx_types.specs.declared.op.Op.{Op}
use Rattle.epx_types.specs.Instances.{Instance}
use Rattle.epx_types.specs.Contents.{Contents}
use Rattle.epx_types.specs.PlacedLines.{Placed}
use Rattle.epx_types.specs.Agreement.{IsFirstDisagreement}
use Rattle.epx_types.specs.CommittedMap.{ids_of, IsCommittedBy}
use Rattle.epx_types.specs.Execution.{execute}
use Rattle.epx_types.specs.Reaching.{DependsOn, Reaches}
use Rattle.epx_types.specs.Readiness.{IsReady, WaitsFor}
use Rattle.epx_types.specs.WaitingLists.{Waiting, IsWaitingList}
use Rattle.epx_types.specs.Components.{InOneComponent, IsLeader}
use Rattle.epx_types.specs.Depth.{IsDepth}
use Rattle.epx_types.specs.Conflicts.{Conflict, IsCovered}
use Rattle.epx_types.specs.Levels.{AreLevels}
use Rattle.epx_types.specs.ExecutionOrder.{Ranked, IsExecutionOrder}
use Rattle.epx_types.specs.LawfulOrders.{IsLawful}
use Rattle.epx_laws.specs.Renaming.{IsInjective, Renaming, renamed_value, renamed_command}
use Rattle.epx_laws.specs.Renaming.{renamed_commands, renamed_reply, renamed_contents}
use Rattle.epx_laws.specs.Renaming.{renamed_execution, renamed_map, renamed_line, renamed_lines}
use Rattle.epx_laws.specs.Renaming.{HasNoArithmetic}
use Rattle.epx_laws.specs.ResumedRunLaws.{whole_run, run_on}

-- no two pairs have the same first part or the same second part
abbrev pub AreOneToOne : {X : Type 0} → List (X × X) → Type 0
AreOneToOne pairs = AllPairs (λ a b. (a.0 ≢ b.0) × (a.1 ≢ b.1)) pairs

-- the renaming maps the first of each pair of keys to the second, and the first of each pair of
-- values to the second
pub record GivesNames (r : Renaming) (key_names : List (List ℕ × List ℕ))
    (value_names : List (ℤ × ℤ)) : Type 0 where
  pub keys : (p : List ℕ × List ℕ) → Contains key_names p → r.key p.0 ≡ p.1
  pub values : (p : ℤ × ℤ) → Contains value_names p → r.value p.0 ≡ p.1

-- if finitely many pairs of keys are one-to-one, and so are finitely many pairs of values, some
-- renaming maps the first of each pair to the second
abbrev pub NamesExtendToRenaming : Type 0
NamesExtendToRenaming = (key_names : List (List ℕ × List ℕ)) (value_names : List (ℤ × ℤ))
    → AreOneToOne key_names → AreOneToOne value_names
    → (r : Renaming) × GivesNames r key_names value_names

-- executing renamed commands without `add` and `floor` over renamed contents is the renamed
-- execution
abbrev pub RenamedExecutesAlike : Type 0
RenamedExecutesAlike = (r : Renaming) (commands : List (List Op))
    → ((ops : List Op) → Contains commands ops → HasNoArithmetic ops) → (c : Contents)
    → execute (renamed_commands r commands) (renamed_contents r c)
    ≡ renamed_execution r (execute commands c)

-- renamed lines commit the renamed map exactly if the lines commit the map, and their first
-- disagreement is that of the lines, renamed: of the same Id, at the same places
pub record RenamedLinesCommitAlike : Type 0 where
  pub committed : (r : Renaming) (lines : List Placed) (m : List Instance)
      → IsCommittedBy (renamed_lines r lines) (renamed_map r m) ↔ IsCommittedBy lines m
  pub disagreement : (r : Renaming) (lines : List Placed) (id : Id) (first second : Placed)
      → IsFirstDisagreement (renamed_lines r lines) id (renamed_line r first)
      (renamed_line r second) ↔ IsFirstDisagreement lines id first second

-- if no command of a map has an `add` or a `floor`, a run over the renamed map is the renamed run
-- over the map, in any order: of the whole map from the empty contents, and of the remaining map
-- over renamed contents
pub record RenamedRunsAlike : Type 0 where
  pub whole : (r : Renaming) (m : List Instance)
      → ((e : Instance) → Contains m e → HasNoArithmetic e.ops) → (order : List Ranked)
      → whole_run (renamed_map r m) order ≡ renamed_execution r (whole_run m order)
  pub resumed : (r : Renaming) (m : List Instance)
      → ((e : Instance) → Contains m e → HasNoArithmetic e.ops)
      → (done : List Id) (c : Contents) (order : List Ranked)
      → run_on done (renamed_contents r c) (renamed_map r m) order
      ≡ renamed_execution r (run_on done c m order)

-- renamed contents have under each renamed key the renamed value of the key, or nothing if the key
-- is absent; a key that is not the new name of a key is absent
pub record RenamedContentsAreReadAlike : Type 0 where
  pub named : (r : Renaming) (c : Contents) (k : List ℕ)
      → contents.get (renamed_contents r c) (r.key k) ≡ renamed_value r (contents.get c k)
  pub others : (r : Renaming) (c : Contents) (q : List ℕ) → ((k : List ℕ) → r.key k ≢ q)
      → contents.get (renamed_contents r c) q ≡ None

-- different replies and different contents differ under their new names, so a renamed answer can
-- be turned back in one way only
pub record RenamedAnswersDiffer : Type 0 where
  pub replies : (r : Renaming) → IsInjective (renamed_reply r)
  pub contents : (r : Renaming) → IsInjective (renamed_contents r)

-- renamed commands conflict exactly if the commands do
abbrev pub RenamedConflictsAlike : Type 0
RenamedConflictsAlike = (r : Renaming) (a b : List Op)
    → Conflict (renamed_command r a) (renamed_command r b) ↔ Conflict a b

-- renamed commands have the levels of the commands
abbrev pub RenamedLevelsAreAlike : Type 0
RenamedLevelsAreAlike = (r : Renaming) (commands : List (List Op)) (levels : List ℕ)
    → AreLevels (renamed_commands r commands) levels ↔ AreLevels commands levels

-- two maps have the same Ids, dependencies, components, leaders, depths, ready and waiting
-- instances, execution order and lawful orders, and both are covered or neither is
pub record AreOrderedAlike (m n : List Instance) : Type 0 where
  pub ids : ids_of m ≡ ids_of n
  pub depends : (x y : Id) → DependsOn m x y ↔ DependsOn n x y
  pub reaches : (x y : Id) → Reaches m x y ↔ Reaches n x y
  pub component : (x y : Id) → InOneComponent m x y ↔ InOneComponent n x y
  pub leader : (x l : Id) → IsLeader m x l ↔ IsLeader n x l
  pub depth : (x : Id) (k : ℕ) → IsDepth m x k ↔ IsDepth n x k
  pub ready : (x : Id) → IsReady m x ↔ IsReady n x
  pub waits : (x y : Id) → WaitsFor m x y ↔ WaitsFor n x y
  pub waiting : (ws : List Waiting) → IsWaitingList m ws ↔ IsWaitingList n ws
  pub order : (order : List Ranked) → IsExecutionOrder m order ↔ IsExecutionOrder n order
  pub lawful : (ids : List Id) → IsLawful m ids ↔ IsLawful n ids
  pub covered : IsCovered m ↔ IsCovered n

-- a renamed map and the map are ordered alike (`AreOrderedAlike`)
abbrev pub RenamedIsOrderedAlike : Type 0
RenamedIsOrderedAlike = (r : Renaming) (m : List Instance) → AreOrderedAlike (renamed_map r m) m
