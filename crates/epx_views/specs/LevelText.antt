-- The text of the conflict levels.
use Rattle.std.specs.Prelude.{◌≡◌, ℕ, List, ◌++◌, length, flat_map, zip}
use Rattle.epx_types.specs.Instances.{Instance}
use Rattle.epx_types.specs.ExecutionOrder.{Ranked, IsExecutionOrder, ranked_ids, component_count}
use Rattle.epx_types.specs.Levels.{AreLevels}
use Rattle.epx_types.specs.WaitingLists.{Waiting, IsWaitingList}
use Rattle.epx_types.specs.CommittedMap.{commands_in}
use Rattle.epx_report.specs.ReportLines.{header_line, waiting_line}
use Rattle.epx_report.specs.ViewLines.{level_line}

-- the header line of a report, a level line for each instance of the order with the level at its
-- position, and the waiting lines
abbrev pub level_text : List Ranked → List ℕ → List Waiting → List ℕ
level_text order levels waiting =
    header_line (length order) (length waiting) (component_count order)
    ++ (flat_map level_line (zip (ranked_ids order) levels) ++ flat_map waiting_line waiting)

-- the text of the map's ready instances in execution order, with the conflict levels of their
-- commands in that order, and of the instances that wait
pub record IsLevelText (m : List Instance) (text : List ℕ) : Type 0 where
  pub order : List Ranked
  pub levels : List ℕ
  pub waiting : List Waiting
  pub ordered : IsExecutionOrder m order
  pub levelled : AreLevels (commands_in m (ranked_ids order)) levels
  pub listed : IsWaitingList m waiting
  pub printed : text ≡ level_text order levels waiting
