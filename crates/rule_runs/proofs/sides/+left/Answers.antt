use Rattle.std.proofs.Common.{List, map, ap, sym, ◌∙◌}
use Rattle.std.proofs.lemmas.List.{take_all}
use Rattle.pr_value.specs.Trees.{trees_of}
use Rattle.rule_ast.specs.Seen.{seen_left_in, seen_operator}
use Rattle.rule_ast.specs.declared.sides.LeftIn as left_in
use Rattle.rule_runs.specs.SeenSides.{seen_side}
use Rattle.rule_runs.specs.Sides.{left_side_in}
use Rattle.rule_runs.proofs.SideLaws.{left-each, left-node, left-stream, made-more}
use Rattle.rule_runs.proofs.sides.+left.Goals as goal

pub left_node-returns : goal.left_node-returns
left_node-returns t c =
    left-node (map seen_operator c.args.operators.now) c.args.numbers.now c.args.left.now c.as_slice.result.now c.operator_at-op.result c.in_ok-inputs.inputs
    c.as_slice.ensures c.operator_at-op.ensures c.in_ok-inputs.ensures

pub left_input-returns-in-Stream : goal.left_input-returns-in-Stream
left_input-returns-in-Stream t c = left-stream (map seen_operator c.args.operators.now) c.args.numbers.now c.args.input.now c.in-Stream.number c.in-Stream.desc c.place_in.result c.in-Stream.is c.place_in.ensures

pub left_inputs-loop-input-preserved : goal.left_inputs-loop-input-preserved
left_inputs-loop-input-preserved t c =
    let one = λ (x : left_in.LeftIn). left_side_in (map seen_operator c.args.operators.now) c.args.numbers.now (seen_left_in x) in
    made-more seen_side one c.loop-input.sides c.push.new.self c.in_ok-side.side c.args.inputs.now c.loop-input.input-index c.input-item.result c.loop-input-test.true c.input-item.is c.loop-input.invariant
    c.in_ok-push.ensures.ok c.in_ok-side.ensures

pub left_inputs-returns : goal.left_inputs-returns
left_inputs-returns t c =
    let os = map seen_operator c.args.operators.now in
    let one = λ (x : left_in.LeftIn). left_side_in os c.args.numbers.now (seen_left_in x) in
    ap trees_of (c.loop-input.invariant ∙ ap (λ (xs : List left_in.LeftIn). map one xs) (take_all c.loop-input.input-index c.args.inputs.now c.loop-input-test.false))
    ∙ sym (left-each os c.args.numbers.now c.args.inputs.now)
