-- The commands that are built. The words of every other one are words that the program does not
-- know.
use Rattle.std.specs.Prelude.{Option, Some, None}
use Rattle.prairie_words.specs.Commands.{Names, Command}
use Rattle.prairie_words.specs.Commands as commands
use Rattle.prairie_words.specs.Seen.{seen_names}
use Rattle.prairie_words.specs.declared.limits.Limits.{Limits}
use Rattle.prairie_top.specs.declared.task.Task as code

-- what the program does: a best plan
pub data Task : Type 0 where
  plan : Names → Limits → Task

-- the command that asks for it
abbrev pub command_of : Task → Command
command_of (plan names limits) = commands.plan names limits

-- what a command asks for, where it is built
abbrev pub task_in : Command → Option Task
task_in (commands.plan names limits) = Some (plan names limits)
task_in _ = None

-- the task of the code
abbrev pub seen_task : code.Task → Task
seen_task t = plan (seen_names t.names) t.limits
