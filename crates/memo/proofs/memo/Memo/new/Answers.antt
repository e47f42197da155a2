use Rattle.std.proofs.Common.{List, length, sym, subst}
use Rattle.memo.specs.declared.expr.Expr.{Expr}
use Rattle.memo.specs.Kept.{IsMemo}
use Rattle.memo.specs.Members.{AreMembers, AreClasses}
use Rattle.memo.proofs.MemberLaws.{forest_classes}
use Rattle.memo.proofs.memo.Memo.new.Goals as goal

pub group_all-requires : goal.group_all-requires
group_all-requires g c =
    let n = c.start.new in
    subst (λ (es : List (Expr g.row.L.Denot)). AreClasses es) (sym c.as_slice.ensures.value) (forest_classes n.log.terms n.log.lines n.exprs.items n.known.items c.in_ok-start.ensures.kept.forest)

pub invariant_of-result : goal.invariant_of-result
invariant_of-result g c = λ s.
    let n = c.start.new in record {
      memo = subst (λ js. IsMemo n.log.terms n.log.lines n.exprs.items n.known.items n.index.entries js) (sym c.new.ensures.items) c.in_ok-start.ensures.kept;
      members = subst (λ (es : List (Expr g.row.L.Denot)). AreMembers c.in_ok-members.members.items (length es) es) c.as_slice.ensures.value c.in_ok-members.ensures;
    }
