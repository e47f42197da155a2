use Rattle.prairie_words.specs.Seen.{seen_command}
use Rattle.prairie_top.specs.Tasks.{seen_task}
use Rattle.prairie_top.proofs.TaskLaws.{task_found}
use Rattle.prairie_top.proofs.task.task_of.Goals as goal

pub returns : goal.returns
returns c = task_found seen_task c.args.words.now (seen_command c.in_ok-command.command) c.built.result c.meaning_laws.ensures c.in_ok-command.ensures c.built.ensures
