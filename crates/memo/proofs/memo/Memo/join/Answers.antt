use Rattle.std.proofs.Common.{refl, sym, subst}
use Rattle.memo.specs.Adding.{IsJoinOf}
use Rattle.memo.specs.Kept.{IsMemo}
use Rattle.memo.specs.Memos.{MemoValue}
use Rattle.memo.proofs.AddLaws.{notes_of}
use Rattle.memo.proofs.memo.Memo.join.Goals as goal

pub join_in-joined-requires : goal.join_in-joined-requires
join_in-joined-requires g c =
    let m = c.self.inside in record {
      kept = subst (λ es. IsMemo m.log.terms m.log.lines es m.known.items m.index.entries m.joins.items) (sym c.as_slice.ensures.value) (c.self.invariant c.if-self.false).memo;
    }

pub invariant_of-self : goal.invariant_of-self
invariant_of-self g c = λ s.
    let m = c.self.inside in
    let n = c.join_in-joined.new in
    record {
      memo = subst (λ es. IsMemo n.log.terms n.log.lines es n.known.items m.index.entries n.joins.items) c.as_slice.ensures.value c.in-Ok.ensures.kept;
      members = (c.self.invariant c.if-self.false).members;
    }

pub returns-in-Ok-clause-ok : goal.returns-in-Ok-clause-ok
returns-in-Ok-clause-ok g c =
    let m = c.self.inside in
    let n = c.join_in-joined.new in
    let old : MemoValue g.row.L.Denot g.row.S.Denot = record { log = m.log; exprs = m.exprs.items; joins = m.joins.items; spoilt = m.spoilt } in
    let new : MemoValue g.row.L.Denot g.row.S.Denot = record { log = n.log; exprs = m.exprs.items; joins = n.joins.items; spoilt = m.spoilt } in
    rw (← c.self.view_is) (notes_of old new n.log.lines c.args.a c.args.b refl (subst (λ es. IsJoinOf n.log.lines es m.joins.items n.joins.items c.args.a c.args.b) c.as_slice.ensures.value c.in-Ok.ensures.joined))
