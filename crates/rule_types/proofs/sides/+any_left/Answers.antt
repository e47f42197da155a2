use Rattle.std.proofs.Common.{map, refl}
use Rattle.pr_value.specs.Trees.{trees_of}
use Rattle.rule_ast.specs.Seen.{seen_left_in}
use Rattle.rule_types.specs.Uses.{any_node, any_nodes}
use Rattle.rule_types.proofs.StepLaws.{rest-found, rest-more, rest-none}
use Rattle.rule_types.proofs.sides.+any_left.Goals as goal

pub any_left_ins-loop-input-preserved : goal.any_left_ins-loop-input-preserved
any_left_ins-loop-input-preserved g t c =
    let asked = g.Q.LeftQuestion.asked c.args.question.now in
    rest-more (λ l. any_node asked (seen_left_in l)) (λ ls. any_nodes asked (trees_of (map seen_left_in ls))) (λ l ls. refl) c.args.inputs.now c.loop-input.input-index c.loop-input.invariant c.input-item.result c.loop-input-test.true c.input-item.is c.any_left_in.ensures c.if-any_left_in.false

pub any_left_ins-returns-then-any_left_in : goal.any_left_ins-returns-then-any_left_in
any_left_ins-returns-then-any_left_in g t c =
    let asked = g.Q.LeftQuestion.asked c.args.question.now in
    rest-found (λ l. any_node asked (seen_left_in l)) (λ ls. any_nodes asked (trees_of (map seen_left_in ls))) (λ l ls. refl) c.args.inputs.now c.loop-input.input-index c.loop-input.invariant c.input-item.result c.loop-input-test.true c.input-item.is c.any_left_in.ensures c.if-any_left_in.true

pub any_left_ins-returns : goal.any_left_ins-returns
any_left_ins-returns g t c =
    let asked = g.Q.LeftQuestion.asked c.args.question.now in
    rest-none (λ l. any_node asked (seen_left_in l)) (λ ls. any_nodes asked (trees_of (map seen_left_in ls))) (λ l ls. refl) c.args.inputs.now c.loop-input.input-index c.loop-input.invariant refl c.loop-input-test.false
