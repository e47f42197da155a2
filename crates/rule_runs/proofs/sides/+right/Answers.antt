use Rattle.std.proofs.Common.{List, map, ap, sym, ◌∙◌}
use Rattle.std.proofs.lemmas.List.{take_all}
use Rattle.pr_value.specs.Trees.{trees_of}
use Rattle.rule_ast.specs.Seen.{seen_right_in, seen_operator}
use Rattle.rule_ast.specs.declared.sides.RightIn as right_in
use Rattle.rule_runs.specs.SeenSides.{seen_side}
use Rattle.rule_runs.specs.Sides.{right_side_in}
use Rattle.rule_runs.proofs.SideLaws.{right-each, right-node, right-stream, made-more}
use Rattle.rule_runs.proofs.sides.+right.Goals as goal

pub right_node-returns : goal.right_node-returns
right_node-returns t c =
    right-node (map seen_operator c.args.operators.now) c.args.numbers.now c.args.right.now c.as_slice.result.now c.operator_at-op.result c.in_ok-inputs.inputs
    c.as_slice.ensures c.operator_at-op.ensures c.in_ok-inputs.ensures

pub right_input-returns-in-Stream : goal.right_input-returns-in-Stream
right_input-returns-in-Stream t c = right-stream (map seen_operator c.args.operators.now) c.args.numbers.now c.args.input.now c.in-Stream.number c.place_in.result c.in-Stream.is c.place_in.ensures

pub right_inputs-loop-input-preserved : goal.right_inputs-loop-input-preserved
right_inputs-loop-input-preserved t c =
    let one = λ (x : right_in.RightIn). right_side_in (map seen_operator c.args.operators.now) c.args.numbers.now (seen_right_in x) in
    made-more seen_side one c.loop-input.sides c.push.new.self c.in_ok-side.side c.args.inputs.now c.loop-input.input-index c.input-item.result c.loop-input-test.true c.input-item.is c.loop-input.invariant
    c.in_ok-push.ensures.ok c.in_ok-side.ensures

pub right_inputs-returns : goal.right_inputs-returns
right_inputs-returns t c =
    let os = map seen_operator c.args.operators.now in
    let one = λ (x : right_in.RightIn). right_side_in os c.args.numbers.now (seen_right_in x) in
    ap trees_of (c.loop-input.invariant ∙ ap (λ (xs : List right_in.RightIn). map one xs) (take_all c.loop-input.input-index c.args.inputs.now c.loop-input-test.false))
    ∙ sym (right-each os c.args.numbers.now c.args.inputs.now)
