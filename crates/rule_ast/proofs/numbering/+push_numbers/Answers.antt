use Rattle.std.proofs.Common.{◌++◌, flat_map, ap, ◌∙◌}
use Rattle.std.proofs.lemmas.List.{take_all}
use Rattle.rule_ast.specs.Descs.{stream_numbers}
use Rattle.rule_ast.specs.Seen.{seen_left_in}
use Rattle.rule_ast.proofs.NumberLaws.{numbers_pushed, numbers-more}
use Rattle.rule_ast.proofs.numbering.+push_numbers.Goals as goal

pub push_left-returns : goal.push_left-returns
push_left-returns t c = numbers_pushed c.args.left.now c.as_slice.result.now c.args.out.now.items c.push_left_ins.new.out.items c.as_slice.ensures c.in_ok-push_left_ins.ensures

pub push_left_ins-loop-input-preserved : goal.push_left_ins-loop-input-preserved
push_left_ins-loop-input-preserved t c =
    numbers-more c.args.inputs.now c.loop-input.input-index c.input-item.result c.args.out.now.items c.loop-input.out.items _ c.loop-input-test.true c.input-item.is c.loop-input.invariant c.in_ok-push_left_in.ensures

pub push_left_ins-returns : goal.push_left_ins-returns
push_left_ins-returns t c =
    c.loop-input.invariant ∙ ap (λ ls. c.args.out.now.items ++ flat_map (λ x. stream_numbers (seen_left_in x)) ls) (take_all _ _ c.loop-input-test.false)
