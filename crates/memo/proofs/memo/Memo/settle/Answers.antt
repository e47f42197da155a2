use Rattle.std.proofs.Common.{rules, ◌≡◌, List, [], sym, subst, length, take, drop, ◌++◌}
use Rattle.memo.specs.declared.expr.Expr.{Expr}
use Rattle.memo.specs.Kept.{IsMemo}
use Rattle.memo.specs.Members.{AreMembers}
use Rattle.memo.specs.Memos.{MemoValue}
use Rattle.memo.specs.Settle.{IsTurning, IsMerging}
use Rattle.memo.proofs.SettleLaws.{turning_first, settled_long, settled_memo, settled_settles, written}
use Rattle.memo.proofs.memo.Memo.settle.Goals as goal

pub settle_in-settled-requires : goal.settle_in-settled-requires
settle_in-settled-requires g c =
    let m = c.self.inside in record {
      turning = subst (λ es. IsTurning m.log.terms m.log.lines es c.as_slice.result.now m.index.entries m.joins.items) (sym c.as_mut_slice.ensures.value)
          (subst (λ ks. IsTurning m.log.terms m.log.lines m.exprs.items ks m.index.entries m.joins.items) (sym c.as_slice.ensures.value)
          (turning_first m.log.terms m.log.lines m.exprs.items m.known.items m.index.entries m.joins.items (c.self.invariant c.if-self.false).memo));
    }

pub invariant_of-self : goal.invariant_of-self
invariant_of-self g c = λ s.
    let m = c.self.inside in
    let n = c.settle_in-settled.new in
    let old : MemoValue g.row.L.Denot g.row.S.Denot = record { log = m.log; exprs = m.exprs.items; joins = m.joins.items; spoilt = m.spoilt } in
    let kept = (c.self.invariant c.if-self.false).memo in
    let turning = subst (λ ks. IsTurning n.log.terms n.log.lines n.exprs ks n.index.entries []) c.as_slice.ensures.value c.in-Ok.ensures.turning in
    let merging : (memo : MemoValue g.row.L.Denot g.row.S.Denot) → IsMerging memo m.exprs.items m.joins.items → IsMerging memo n.exprs [] = λ memo h. c.in-Ok.ensures.merging memo (subst (λ es. IsMerging memo es m.joins.items) (sym c.as_mut_slice.ensures.value) h) in
    let long = settled_long old m.known.items m.index.entries n.index.entries kept n.log.terms n.log.lines n.exprs turning merging in
    let memo = settled_memo old m.known.items m.index.entries n.index.entries kept n.log.terms n.log.lines n.exprs turning merging in
    let whole : take m.exprs.len (n.exprs ++ drop (length n.exprs) m.exprs.items) ≡ n.exprs = written m.exprs.len n.exprs m.exprs.items long (let h = c.as_mut_slice.ensures.len in let v = c.as_mut_slice.ensures.value in search rules) in
    record {
      memo = subst (λ es. IsMemo n.log.terms n.log.lines es m.known.items n.index.entries n.joins.items) (sym whole) (subst (λ js. IsMemo n.log.terms n.log.lines n.exprs m.known.items n.index.entries js) (sym c.in-Ok.ensures.none) memo);
      members = subst (λ (es : List (Expr g.row.L.Denot)). AreMembers c.regroup.new.rows.items (length es) es) c.as_slice-in-Ok.ensures.value c.in-Ok-regroup.ensures;
    }

pub returns-in-Ok-regroup-clause-ok : goal.returns-in-Ok-regroup-clause-ok
returns-in-Ok-regroup-clause-ok g c =
    let m = c.self.inside in
    let n = c.settle_in-settled.new in
    let old : MemoValue g.row.L.Denot g.row.S.Denot = record { log = m.log; exprs = m.exprs.items; joins = m.joins.items; spoilt = m.spoilt } in
    let kept = (c.self.invariant c.if-self.false).memo in
    let turning = subst (λ ks. IsTurning n.log.terms n.log.lines n.exprs ks n.index.entries []) c.as_slice.ensures.value c.in-Ok.ensures.turning in
    let merging : (memo : MemoValue g.row.L.Denot g.row.S.Denot) → IsMerging memo m.exprs.items m.joins.items → IsMerging memo n.exprs [] = λ memo h. c.in-Ok.ensures.merging memo (subst (λ es. IsMerging memo es m.joins.items) (sym c.as_mut_slice.ensures.value) h) in
    let long = settled_long old m.known.items m.index.entries n.index.entries kept n.log.terms n.log.lines n.exprs turning merging in
    let whole : take m.exprs.len (n.exprs ++ drop (length n.exprs) m.exprs.items) ≡ n.exprs = written m.exprs.len n.exprs m.exprs.items long (let h = c.as_mut_slice.ensures.len in let v = c.as_mut_slice.ensures.value in search rules) in
    rw (← c.self.view_is) (settled_settles old m.known.items m.index.entries n.index.entries kept n.log.terms n.log.lines n.exprs turning merging (record { log = n.log; exprs = take m.exprs.len (n.exprs ++ drop (length n.exprs) m.exprs.items); joins = n.joins.items; spoilt = m.spoilt }) whole c.in-Ok.ensures.none)
