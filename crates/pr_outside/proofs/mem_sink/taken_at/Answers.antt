use Rattle.std.proofs.Common.{ap, sym, ◌∙◌}
use Rattle.std.specs.Ordering.{nat_cmp}
use Rattle.std.specs.Cmp.{nat_cmp_total}
use Rattle.std.specs.FinMap.{find, get-from_entries}
use Rattle.pr_outside.proofs.mem_sink.taken_at.Goals as goal

pub loop-listed-init : goal.loop-listed-init
loop-listed-init c =
    get-from_entries nat_cmp_total _ _
    ∙ ap (find nat_cmp c.args.call) (sym c.into_iter-listed-iterator.ensures.into_iter_gives.0)
