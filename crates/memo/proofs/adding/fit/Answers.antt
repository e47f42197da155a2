use Rattle.std.proofs.Common.{subst}
use Rattle.memo.specs.Adding.{IsFit}
use Rattle.memo.proofs.AddLaws.{ends_still}
use Rattle.memo.proofs.LearnLaws.{homed, still_there}
use Rattle.memo.proofs.adding.fit.Goals as goal

pub is_fit-requires-clause-homed : goal.is_fit-requires-clause-homed
is_fit-requires-clause-homed g c = homed c.learn_all.new.log.terms c.learn_all.new.log.lines c.args.exprs.now c.learn_all.new.known.items c.in_ok-learn_all.ensures.forest

pub is_fit-requires-clause-there : goal.is_fit-requires-clause-there
is_fit-requires-clause-there g c = still_there c.args.log.now c.learn_all.new.log c.in_ok-tree.tree c.in_ok-learn_all.ensures.grew c.in_ok-tree.ensures.there

pub returns-then-is_fit-clause-ends : goal.returns-then-is_fit-clause-ends
returns-then-is_fit-clause-ends g c = ends_still c.args.log.now c.learn_all.new.log c.args.line c.in_ok-tree.tree c.in_ok-learn_all.ensures.grew c.in_ok-tree.ensures.ends

pub returns-then-is_fit-clause-fit : goal.returns-then-is_fit-clause-fit
returns-then-is_fit-clause-fit g c =
    subst (λ ks. IsFit c.learn_all.new.log.terms c.args.exprs.now ks c.in_ok-tree.tree c.args.label.now c.args.classes.now) c.as_slice-2.ensures.value (c.is_fit.ensures c.if-is_fit.true)
