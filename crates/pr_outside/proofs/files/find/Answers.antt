use Rattle.std.proofs.Common.{ap, sym, ◌∙◌, ◌≡◌, true, false, nat_eq}
use Rattle.std.specs.Ordering.{nat_cmp}
use Rattle.std.specs.Cmp.Lexicographic.{slice_cmp, nat_list_cmp_total, pointwise}
use Rattle.std.specs.FinMap.{find, get-from_entries}
use Rattle.pr_outside.proofs.Newest.{find_here, find_later}
use Rattle.pr_outside.proofs.files.find.Goals as goal

pub loop-held-init : goal.loop-held-init
loop-held-init c =
    get-from_entries nat_list_cmp_total _ _
    ∙ ap (find (slice_cmp nat_cmp) c.args.name.now) (sym c.into_iter-held-iterator.ensures.into_iter_gives.0)

pub loop-held-preserved : goal.loop-held-preserved
loop-held-preserved c =
    let other : pointwise nat_eq c.args.name.now c.in-Some.field-0.now.0 ≡ false = cc in
    c.loop-held.invariant ∙ find_later c.args.name.now c.in-Some.field-0.now _ _ c.in-Some.ensures.steps other

pub returns-then-eq : goal.returns-then-eq
returns-then-eq c =
    let same : pointwise nat_eq c.args.name.now c.in-Some.field-0.now.0 ≡ true = cc in
    sym (c.loop-held.invariant ∙ find_here c.args.name.now c.in-Some.field-0.now _ _ c.in-Some.ensures.steps same)
