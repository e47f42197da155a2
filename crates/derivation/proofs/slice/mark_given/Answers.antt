use Rattle.std.proofs.Common.{◌≡◌, suc, ◌+◌, arith, subst, take, slice_set, slice_index_or, true}
use Rattle.derivation.specs.Marks.{marked}
use Rattle.derivation.proofs.SliceLaws.{marked_more}
use Rattle.derivation.proofs.slice.mark_given.Goals as goal

pub loop-n-preserved : goal.loop-n-preserved
loop-n-preserved c =
    let one : suc c.loop-n.n-index ≡ c.loop-n.n-index + 1 = omega arith in
    subst (λ k. slice_set c.loop-n.marks (slice_index_or c.args.given.now c.loop-n.n-index 0) true ≡ marked c.args.marks.now (take k c.args.given.now)) one
    (marked_more c.args.marks.now c.loop-n.marks c.args.given.now c.loop-n.n-index (omega arith) c.loop-n.invariant)
