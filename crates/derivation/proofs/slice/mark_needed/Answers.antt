use Rattle.std.proofs.Common.{◌≡◌, sym, subst, length, arith}
use Rattle.derivation.specs.Marks.{IsMarking}
use Rattle.derivation.proofs.SliceLaws.{begin_marking, marking_down, finish_marking, names_there}
use Rattle.derivation.proofs.slice.mark_needed.Goals as goal

pub loop-i-init : goal.loop-i-init
loop-i-init c = (
  omega arith,
  subst (λ ms. IsMarking c.args.lines.now c.args.given.now ms (length c.args.lines.now)) (sym c.mark_given.ensures)
      (begin_marking c.args.lines.now c.args.given.now c.args.marks.now c.requires.long c.requires.none c.requires.there),
)

pub loop-i-preserved : goal.loop-i-preserved
loop-i-preserved c = (
  omega arith,
  marking_down c.args.lines.now c.args.given.now c.loop-i.marks c.mark_line.new.marks c.loop-i.i _ c.loop-i-test.true c.loop-i.invariant.0 c.requires.backward c.loop-i.invariant.1 c.mark_line.ensures,
)

pub returns : goal.returns
returns c =
    let end : c.loop-i.i ≡ 0 = omega arith in
    finish_marking c.args.lines.now c.args.given.now c.loop-i.marks (subst (λ i. IsMarking c.args.lines.now c.args.given.now c.loop-i.marks i) end c.loop-i.invariant.1)

pub mark_line-requires-clause-names : goal.mark_line-requires-clause-names
mark_line-requires-clause-names c = names_there c.args.lines.now c.loop-i.marks c.loop-i.i _ c.loop-i-test.true c.loop-i.invariant.0 c.loop-i.invariant.1.long c.requires.backward
