use Rattle.std.proofs.Common.{List, [], length, refl, subst}
use Rattle.memo.specs.declared.expr.Expr.{Expr}
use Rattle.memo.specs.Members.{IsExtended}
use Rattle.memo.specs.Memos.{MemoValue}
use Rattle.memo.proofs.AddLaws.{rejoined, none_joinable, added_joinable, adds_of}
use Rattle.memo.proofs.MemberLaws.{forest_classes, extended}
use Rattle.memo.proofs.memo.Memo.add.Goals as goal

pub add_in-added-requires : goal.add_in-added-requires
add_in-added-requires g c =
    let m = c.self.inside in record {
      kept = rejoined m.log.terms m.log.lines m.exprs.items m.known.items m.index.entries m.joins.items [] (none_joinable m.log.lines m.exprs.items) (c.self.invariant c.if-self.false).memo;
    }

pub invariant_of-self : goal.invariant_of-self
invariant_of-self g c = λ s.
    let m = c.self.inside in
    let n = c.add_in-added.new in
    let kept = c.self.invariant c.if-self.false in record {
      memo =
          rejoined n.log.terms n.log.lines n.exprs.items n.known.items n.index.entries [] m.joins.items
          (added_joinable m.log n.log m.exprs.items n.exprs.items m.joins.items c.args.label c.args.inputs.now c.args.line c.in-Ok.class c.in-Ok.ensures.grew c.in-Ok.ensures.added kept.memo.joinable) c.in-Ok.ensures.kept;
      members =
          extended m.members.items c.extend.new.rows.items m.exprs.items n.exprs.items c.args.label c.args.inputs.now c.args.line c.in-Ok.class (forest_classes m.log.terms m.log.lines m.exprs.items m.known.items kept.memo.forest) kept.members c.in-Ok.ensures.added
          (subst (λ (es : List (Expr g.row.L.Denot)). IsExtended m.members.items c.extend.new.rows.items (length es)) c.as_slice.ensures.value c.in-Ok-extend.ensures);
    }

pub returns-in-Ok-extend-clause-ok : goal.returns-in-Ok-extend-clause-ok
returns-in-Ok-extend-clause-ok g c =
    let m = c.self.inside in
    let n = c.add_in-added.new in
    let old : MemoValue g.row.L.Denot g.row.S.Denot = record { log = m.log; exprs = m.exprs.items; joins = m.joins.items; spoilt = m.spoilt } in
    let new : MemoValue g.row.L.Denot g.row.S.Denot = record { log = n.log; exprs = n.exprs.items; joins = m.joins.items; spoilt = m.spoilt } in
    rw (← c.self.view_is) (adds_of old new c.args.label c.args.inputs.now c.args.line c.in-Ok.class refl c.in-Ok.ensures.added)
