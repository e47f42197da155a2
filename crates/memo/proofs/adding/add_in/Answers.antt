use Rattle.std.proofs.Common.{List, length, sym, subst}
use Rattle.memo.specs.declared.expr.Expr.{Expr}
use Rattle.memo.specs.Adding.{IsFit}
use Rattle.memo.specs.Kept.{Indexes}
use Rattle.memo.proofs.GrewLaws.{grew_trans}
use Rattle.memo.proofs.adding.add_in.Goals as goal

pub fit-requires-clause-indexed : goal.fit-requires-clause-indexed
fit-requires-clause-indexed g c = subst (λ (es : List (Expr g.row.L.Denot)). Indexes c.args.index.now.entries es (length es)) (sym c.as_slice.ensures.value) c.requires.kept.indexed

pub add_fit-requires-clause-fit : goal.add_fit-requires-clause-fit
add_fit-requires-clause-fit g c = subst (λ es. IsFit c.fit.new.log.terms es c.fit.new.known.items c.in_ok-tree.tree c.args.label c.args.classes.now) c.as_slice.ensures.value c.in_ok-tree.ensures.fit

pub returns-clause-grew : goal.returns-clause-grew
returns-clause-grew g c = grew_trans c.args.log.now c.fit.new.log c.add_fit.new.log c.in_ok-tree.ensures.grew c.in_ok-class.ensures.grew
