use Rattle.std.proofs.Common.{ap, ◌∙◌, ◌≡◌}
use Rattle.std.specs.Cmp.{nat_cmp_total}
use Rattle.std.specs.Ordering.{nat_cmp}
use Rattle.std.specs.FinMap as map
use Rattle.std.specs.FinSet.{insert, from_list, from_list_push, nat_cmp-IsAntisymmetric}
use Rattle.pr_outside.proofs.mem_shelf.MemShelf.fail_at.Goals as goal

pub returns-clause-ok : goal.returns-clause-ok
returns-clause-ok c =
    let pushed : from_list {R = nat_cmp} c.push.new.self.items ≡ insert (from_list c.self.inside.failing.items) c.args.call =
    ap from_list c.in_ok-push.ensures.items ∙ from_list_push nat_cmp_total nat_cmp-IsAntisymmetric _ _ in
    rw (← c.self.view_is) (λ i. record { files = map.from_entries c.self.inside.files.items; calls = c.self.inside.calls; failing = pushed i; faults = c.self.inside.faults })
