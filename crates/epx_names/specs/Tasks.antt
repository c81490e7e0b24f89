-- Tasks and what they are over.
use Rattle.std.specs.Prelude.{⊤}
use Rattle.epx_names.specs.declared.task.Task.{Task}
use Rattle.epx_names.specs.declared.task.Task.TheVariants.{Resume, Check, CheckPrefix, Verify}
use Rattle.epx_names.specs.declared.task.Task.TheVariants.{Linear, Replay}

-- the task has an input besides the logs: a base (`Resume`), a list (`Check`, `CheckPrefix`,
-- `Replay`), what a replica said (`Verify`), or a history of calls (`Linear`)
abbrev pub HasInput : Task → Type 0
HasInput Resume = ⊤
HasInput Check = ⊤
HasInput CheckPrefix = ⊤
HasInput Verify = ⊤
HasInput (Linear skew) = ⊤
HasInput Replay = ⊤
HasInput _ = ⊥
