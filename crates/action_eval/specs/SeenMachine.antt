-- How the definitions see the machine of the code.
use Rattle.std.specs.Prelude.{map, reverse}
use Rattle.rule_ast.specs.Seen.{seen_expr}
use Rattle.action_eval.specs.Machine as machine
use Rattle.action_eval.specs.Machine.{World, State, eval, make, turns, turn, leave, body, member}
use Rattle.action_eval.specs.declared.machine.Maker.{Maker}
use Rattle.action_eval.specs.declared.machine.Maker.TheVariants as maker
use Rattle.action_eval.specs.declared.machine.Task.{Task}
use Rattle.action_eval.specs.declared.machine.Task.TheVariants as task
use Rattle.action_eval.specs.declared.machine.Frame.{Frame}
use Rattle.action_eval.specs.declared.machine.Frame.TheVariants as frame
use Rattle.action_eval.specs.declared.machine.Machine.{Machine}
use Rattle.action_eval.specs.declared.stepping.Within.{Within}

abbrev pub seen_maker : Maker → machine.Maker
seen_maker maker.Set = machine.set
seen_maker maker.List = machine.list
seen_maker (maker.Binary o) = machine.binary o
seen_maker (maker.Call f) = machine.call f.now
seen_maker (maker.Fold k) = machine.fold k

abbrev pub seen_task : Task → machine.Task
seen_task (task.Eval e) = eval (seen_expr e.now)
seen_task (task.Make o n) = make (seen_maker o) n
seen_task (task.Turns k x e) = turns k x.now (seen_expr e.now)
seen_task (task.Turn x s e) = turn x.now s (seen_expr e.now)
seen_task task.Leave = leave

abbrev pub seen_frame : Frame → machine.Frame
seen_frame (frame.Body ps vs n) = body ps.now vs.items n
seen_frame (frame.Member x s) = member x.now s

abbrev pub seen_machine : Machine → State
seen_machine m = record {
  tasks = map seen_task (reverse m.tasks.items);
  frames = map seen_frame (reverse m.frames.items);
  values = reverse m.values.items;
}

abbrev pub seen_within : Within → World
seen_within w = record {
  layout = w.env.now.layout.now;
  helpers = w.rules.now.helpers;
  catalog = w.catalog.now;
  descs = w.env.now.descs.items;
}
