-- The text that says which missing instances to recover first.
use Rattle.std.specs.Prelude.{◌≡◌, ℕ, List, ◌++◌, flat_map}
use Rattle.epx_types.specs.Instances.{Instance}
use Rattle.epx_blockers.specs.declared.blocker.Blocker.{Blocker}
use Rattle.epx_blockers.specs.Blocking.{SeveralBlock}
use Rattle.epx_blockers.specs.IdCounts.{IsCount}
use Rattle.epx_blockers.specs.Blockers.{AreBlockers}
use Rattle.epx_blockers.specs.BlockerLines.{blocks_line, several_line}

-- the text has a line `blocks` for each missing instance, by rising Id, and then the line `several`
-- with the number of instances that more than one of them blocks
pub record IsBlockersText (m : List Instance) (text : List ℕ) : Type 0 where
  pub blockers : List Blocker
  pub several : ℕ
  pub missing : AreBlockers m blockers
  pub others : IsCount (SeveralBlock m) several
  pub printed : text ≡ flat_map blocks_line blockers ++ several_line several
