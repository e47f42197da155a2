use Rattle.rule_types.proofs.TypeLaws.{types-all, types-more, types-none}
use Rattle.rule_types.proofs.typing.+typing.Goals as goal

pub types_in-loop-e-preserved : goal.types_in-loop-e-preserved
types_in-loop-e-preserved t c =
    types-more c.args.scope.now c.args.folds.now c.args.es.now c.loop-e.e-index c.e-item.result _ c.loop-e.types.items c.loop-e-test.true c.e-item.is c.in_ok-kind.ensures c.loop-e.invariant
    c.in-Some.is c.in_ok-push-in-Some.ensures.items

pub types_in-returns-in-None : goal.types_in-returns-in-None
types_in-returns-in-None t c =
    types-none c.args.scope.now c.args.folds.now c.args.es.now c.loop-e.e-index c.e-item.result _ c.loop-e.types.items c.loop-e-test.true c.e-item.is c.in_ok-kind.ensures c.loop-e.invariant
    c.in-None.is

pub types_in-returns : goal.types_in-returns
types_in-returns t c =
    types-all c.args.scope.now c.args.folds.now c.args.es.now c.loop-e.e-index c.loop-e.types.items c.loop-e-test.false c.loop-e.invariant
