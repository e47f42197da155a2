use Rattle.std.proofs.Common.{map, refl}
use Rattle.rule_ast.specs.Seen.{exprs_of, seen_expr}
use Rattle.rule_types.specs.SeenUses.{seen_folds}
use Rattle.rule_types.specs.Uses.{any_use, any_uses}
use Rattle.rule_types.proofs.StepLaws.{rest-found, rest-more, rest-none}
use Rattle.rule_types.proofs.uses.+any_use.Goals as goal

pub any_uses-loop-e-preserved : goal.any_uses-loop-e-preserved
any_uses-loop-e-preserved g t c =
    let asked = g.Q.UseQuestion.asked c.args.question.now in
    let folds = seen_folds c.args.folds.now in
    rest-more (λ e. any_use asked folds (seen_expr e)) (λ es. any_uses asked folds (exprs_of (map seen_expr es))) (λ e es. refl) c.args.es.now c.loop-e.e-index c.loop-e.invariant c.e-item.result c.loop-e-test.true c.e-item.is c.any_use.ensures c.if-any_use.false

pub any_uses-returns-then-any_use : goal.any_uses-returns-then-any_use
any_uses-returns-then-any_use g t c =
    let asked = g.Q.UseQuestion.asked c.args.question.now in
    let folds = seen_folds c.args.folds.now in
    rest-found (λ e. any_use asked folds (seen_expr e)) (λ es. any_uses asked folds (exprs_of (map seen_expr es))) (λ e es. refl) c.args.es.now c.loop-e.e-index c.loop-e.invariant c.e-item.result c.loop-e-test.true c.e-item.is c.any_use.ensures c.if-any_use.true

pub any_uses-returns : goal.any_uses-returns
any_uses-returns g t c =
    let asked = g.Q.UseQuestion.asked c.args.question.now in
    let folds = seen_folds c.args.folds.now in
    rest-none (λ e. any_use asked folds (seen_expr e)) (λ es. any_uses asked folds (exprs_of (map seen_expr es))) (λ e es. refl) c.args.es.now c.loop-e.e-index c.loop-e.invariant refl c.loop-e-test.false
