use Rattle.std.proofs.Common.{List, length, sym, subst}
use Rattle.memo.specs.declared.expr.Expr.{Expr}
use Rattle.memo.specs.Forest.{IsForest}
use Rattle.memo.specs.Kept.{Indexes}
use Rattle.memo.proofs.AddLaws.{memo_learnt}
use Rattle.memo.proofs.memo.Memo.equate.Goals as goal

pub equate_in-found-requires-clause-forest : goal.equate_in-found-requires-clause-forest
equate_in-found-requires-clause-forest g c =
    let m = c.self.inside in
    subst (λ es. IsForest m.log.terms m.log.lines es m.known.items) (sym c.as_slice.ensures.value) (c.self.invariant c.if-self.false).memo.forest

pub equate_in-found-requires-clause-indexed : goal.equate_in-found-requires-clause-indexed
equate_in-found-requires-clause-indexed g c =
    let m = c.self.inside in
    subst (λ (es : List (Expr g.row.L.Denot)). Indexes m.index.entries es (length es)) (sym c.as_slice.ensures.value) (c.self.invariant c.if-self.false).memo.indexed

pub invariant_of-self : goal.invariant_of-self
invariant_of-self g c = λ s.
    let m = c.self.inside in
    let n = c.equate_in-found.new in
    record {
      memo = memo_learnt m.log n.log m.exprs.items m.known.items n.known.items m.index.entries m.joins.items (c.self.invariant c.if-self.false).memo c.in-Ok.ensures.grew
          (subst (λ es. IsForest n.log.terms n.log.lines es n.known.items) c.as_slice.ensures.value c.in-Ok.ensures.forest);
      members = (c.self.invariant c.if-self.false).members;
    }
