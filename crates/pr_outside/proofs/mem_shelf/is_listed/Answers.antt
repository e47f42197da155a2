use Rattle.std.specs.FinSet.{contains-from_list_nat}
use Rattle.pr_outside.proofs.mem_shelf.is_listed.Goals as goal

pub returns : goal.returns
returns c = let members = contains-from_list_nat c.args.failing.now c.args.call in cc (c.contains.ensures.value, members)
